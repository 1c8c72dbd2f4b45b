use Rattle.list_core.proofs.FoundLaws.{found-any}
use Rattle.list_core.proofs.commands.delete.act.Goals as goal

pub remove-requires-clause-there : goal.remove-requires-clause-there
remove-requires-clause-there c = rw c.id_at-id.ensures (found-any c.args.kept.now.content.lists c.args.at
    c.requires.found)
