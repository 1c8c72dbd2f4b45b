use Rattle.rebuild_copy.proofs.Imports.{◌≡◌, ◌-◌, length, take}
use Rattle.rebuild_copy.proofs.copying.Copying.drop_last.Given as goal

abbrev pub invariant-loop : goal.invariant-loop
invariant-loop g l = l.self ≡ record l.fn.self { items = take (length l.fn.self.items - l.counter) l.fn.self.items }
