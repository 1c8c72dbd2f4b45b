use Rattle.plex_board.proofs.Imports.{arith}
use Rattle.plex_board.proofs.PutLaws.{put-there, put-type, put-room, put-fits, put-row}
use Rattle.plex_board.proofs.ending.bring_home.Goals as goal

pub index_mut-requires : goal.index_mut-requires
index_mut-requires c = grind (arith, put-there)

pub put-requires-clause-str_type : goal.put-requires-clause-str_type
put-requires-clause-str_type c = grind (arith, put-type)

pub put-requires-clause-room : goal.put-requires-clause-room
put-requires-clause-room c = grind (arith, put-room)

pub loop-place-preserved : goal.loop-place-preserved
loop-place-preserved c = grind (arith, put-fits, put-row)
