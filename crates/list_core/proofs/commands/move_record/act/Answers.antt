use Rattle.list_core.proofs.FoundLaws.{found-any}
use Rattle.list_core.proofs.commands.move_record.act.Goals as goal

pub shift-requires-clause-there : goal.shift-requires-clause-there
shift-requires-clause-there c = rw c.id_at-id.ensures (found-any c.args.kept.now.content.lists c.args.at
    c.requires.found)
