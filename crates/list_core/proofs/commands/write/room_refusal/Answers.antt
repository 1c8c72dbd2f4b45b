use Rattle.list_core.proofs.Imports.{◌≡◌, not, List, ap, ◌∙◌, filter_all, all_from_none, Record, all_records, records_without, is_id, elements_refusal, new_id}
use Rattle.list_core.proofs.commands.write.room_refusal.Goals as goal

pub returns : goal.returns
returns c =
    let content = c.args.kept.now.content in
    let all = all_records content.lists in
    let same : records_without (new_id content) all ≡ all = filter_all (λ rec. not (is_id (new_id content) rec)) all
    (all_from_none (is_id (new_id content)) all c.requires.alone) in
    let told = rw c.next.ensures at c.elements_refusal.ensures in
    told ∙ ap (λ (l : List Record). elements_refusal c.args.caps c.args.need l) same
