use Rattle.list_core.proofs.Imports.{◌≡◌, take, map, Record, records_of}
use Rattle.list_core.proofs.commands.read_list.ids_of.Given as goal

abbrev pub invariant-loop-place : goal.invariant-loop-place
invariant-loop-place l =
    l.ids.items ≡ map (λ (rec : Record). rec.id) (take l.place (records_of l.kept.content.lists l.header))
