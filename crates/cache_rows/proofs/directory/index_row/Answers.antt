use Rattle.cache_rows.proofs.Imports.{arith}
use Rattle.cache_rows.proofs.IndexLaws.{room_taken-le}
use Rattle.cache_rows.proofs.directory.index_row.Goals as goal

pub set-requires : goal.set-requires
set-requires c = omega (arith, c.requires.class_room, room_taken-le c.args.label.now.class)
