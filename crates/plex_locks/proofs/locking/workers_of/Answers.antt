use Rattle.plex_locks.proofs.Imports.{rules, arith, ap, ◌≡◌, ◌∷◌, into_iter_items, AtLocks}
use Rattle.plex_locks.proofs.ToldLaws.{dealt-more, first-left}
use Rattle.plex_locks.proofs.locking.workers_of.Goals as goal

pub loop-hand-preserved : goal.loop-hand-preserved
loop-hand-preserved c =
    let w = c.in_ok-worker.worker in
    let hands : into_iter_items c.loop-hand.hand-iterator ≡ c.in-Some.hand ∷ into_iter_items c.next.new.self =
    search rules in
    let names = first-left c.args.connectors.now c.loop-hand.place c.name_at-name.result w
    (ap (λ (w : AtLocks). w.name) c.in_ok-worker.ensures) c.name_at-name.ensures in
    dealt-more c.args.connectors.now c.args.lines.now _ c.loop-hand.place _ _ c.loop-hand.workers.items _ w _ _ _
    c.in_ok-worker.ensures c.in_ok-push.ensures.items names hands (omega arith) c.loop-hand.invariant
