use Rattle.cache_core.proofs.Imports.{vec_len}
use Rattle.cache_core.proofs.FrontLaws.{Fronting}
use Rattle.cache_core.proofs.room.front.Given as goal

abbrev pub invariant-loop-k : goal.invariant-loop-k
invariant-loop-k l = Fronting l.request l.rows.rows l.room l.names.items (vec_len l.names) l.given l.k
