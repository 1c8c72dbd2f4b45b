use Rattle.list_kept.proofs.Imports.{arith, all_records}
use Rattle.list_kept.proofs.DataLaws.{free_elements}
use Rattle.list_kept.proofs.keeping.Kept.elements.Goals as goal

pub returns : goal.returns
returns c =
    let s = c.self.inside.store in
    rw (← c.self.view_is) (omega (
      arith,
      c.self.invariant.whole,
      c.free.ensures.free,
      free_elements (all_records s.lists) s.loose s.chains s.free c.self.invariant.used c.free.ensures.all,
    ))
