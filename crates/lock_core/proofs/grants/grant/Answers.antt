use Rattle.lock_core.proofs.Imports.{◌≡◌, ◌∷◌, length, append_assoc, sym, ap, arith, Settlement, grant, granted_letter, content_granted}
use Rattle.lock_core.proofs.GrantLaws.{next-waits, grant-next}
use Rattle.lock_core.proofs.grants.grant.Goals as goal

pub grant_one-requires-clause-waits : goal.grant_one-requires-clause-waits
grant_one-requires-clause-waits c =
    next-waits c.loop-w.locks.content c.args.r.now c.in-Some.w c.next.ensures.queue (sym c.in-Some.ensures.next)

pub grant_one-requires-clause-letter : goal.grant_one-requires-clause-letter
grant_one-requires-clause-letter c =
    let r = c.args.r.now in
    let w = c.in-Some.w in
    let old = c.loop-w.locks.content in
    let step = grant-next old r w c.next.ensures.queue (sym c.in-Some.ensures.next) in
    let many : length (grant r old).letters
    ≡ length (granted_letter w ∷ (grant r (content_granted w old)).letters) =
    ap (λ (l : Settlement). length l.letters) step in
    omega (arith, many, c.requires.letters, c.loop-w.invariant.2)

pub loop-w-preserved : goal.loop-w-preserved
loop-w-preserved c = grind (arith, grant-next, append_assoc)
