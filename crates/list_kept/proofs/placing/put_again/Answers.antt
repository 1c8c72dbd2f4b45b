use Rattle.list_kept.proofs.Imports.{arith, ap, ◌∙◌, list_any, found_passes, gone, record_id, Lists, all_records, is_id, record_in}
use Rattle.list_kept.proofs.placing.put_again.Goals as goal

pub put_record-requires-clause-alone : goal.put_record-requires-clause-alone
put_record-requires-clause-alone c =
    let lists = c.args.store.now.lists in
    let rec = record_in c.args.store.now.chains c.take-rec.result in
    ap (λ (l : Lists). list_any (is_id c.take-rec.result.id) (all_records l)) c.take-rec.ensures.lists
    ∙ gone record_id c.args.id.0 lists rec (grind (arith, found_passes))
