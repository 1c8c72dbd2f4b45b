-- Nothing stands before the first call.
use Rattle.struct_machine.proofs.Imports.{arith, ◌≡◌, kept_of, nothing_kept}
use Rattle.struct_machine.proofs.KeptLaws.{kept_opening}
use Rattle.struct_machine.proofs.machine.Machine.start.Goals as goal

pub invariant_of-result : goal.invariant_of-result
invariant_of-result g c =
    let nothing : kept_of g.E.Engine.held c.bare-content.result ≡ nothing_kept = grind arith in (
      kept_opening g.E.Engine.meaning c.in-Ok.shell (kept_of g.E.Engine.held c.bare-content.result) (grind arith)
          (grind arith) nothing,
      grind arith,
    )
