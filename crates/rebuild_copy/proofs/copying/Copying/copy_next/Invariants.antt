use Rattle.rebuild_copy.proofs.Imports.{◌≡◌, with_next}
use Rattle.rebuild_copy.proofs.copying.Copying.copy_next.Given as goal

abbrev pub invariant-loop-k : goal.invariant-loop-k
invariant-loop-k g l = l.self ≡ with_next g.E.Engine.meaning l.k (g.E.Engine.held l.old) l.fn.self
