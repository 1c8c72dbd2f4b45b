use Rattle.list_store.proofs.Imports.{arith, ◌∙◌, ap, list_any, false≢true, found_passes, any_is_found, gone, Lists, record_id, is_id, record_in}
use Rattle.list_store.specs.Lists.{all_records}
use Rattle.list_store.proofs.store.Store.shift.Goals as goal

pub add-requires-clause-alone : goal.add-requires-clause-alone
add-requires-clause-alone c =
    let rec = record_in c.args.self.now.chains c.in-Some.rec in
    ap (λ (l : Lists). list_any (is_id c.in-Some.rec.id) (all_records l)) c.take.ensures.lists
    ∙ gone record_id c.args.id.0 c.args.self.now.lists rec (grind (arith, found_passes))

pub unreachable-requires : goal.unreachable-requires
unreachable-requires c = grind (arith, false≢true, any_is_found)
