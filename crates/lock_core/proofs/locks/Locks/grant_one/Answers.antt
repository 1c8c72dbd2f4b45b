use Rattle.lock_core.proofs.Imports.{◌≡◌, Some, sym, subst, arith, IsQueue, waiter_of, Stock, HasRoom}
use Rattle.lock_core.proofs.{GrantLaws.records-waits}
use Rattle.lock_core.proofs.locks.Locks.grant_one.Goals as goal

pub grant-requires-clause-record_room : goal.grant-requires-clause-record_room
grant-requires-clause-record_room c =
    let w = c.args.w.now in
    let is : IsQueue c.self.inside.queue.waiters = grind arith in
    let waits : waiter_of w.r w.conn c.self.inside.queue.waiters ≡ Some w = grind arith in
    let room = subst (λ (s : Stock). HasRoom 0 s) (sym c.self.view_is) c.requires.room in
    omega (arith, room.records, records-waits w c.self.inside.queue.waiters is waits)
