use Rattle.lock_core.proofs.Imports.{length, arith, sum_by-take-le, Resource, waiters_of}
use Rattle.lock_core.proofs.AwaitedLaws.{waiting_within}
use Rattle.lock_core.proofs.letters.most_left.Goals as goal

pub returns-clause-within : goal.returns-clause-within
returns-clause-within c =
    let waiters = c.args.locks.now.content.waiters in
    omega (
      arith,
      c.loop-r.invariant,
      sum_by-take-le (λ (r : Resource). length (waiters_of r waiters)) c.args.resources.now c.loop-r.r-index,
      waiting_within c.args.resources.now waiters c.requires,
    )
