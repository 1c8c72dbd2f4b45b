use Rattle.lock_core.proofs.Imports.{◌≤◌, length, sym, subst, arith, Stock, HasRoom, records_waiting}
use Rattle.lock_core.proofs.GrantLaws.{fewer-left}
use Rattle.lock_core.proofs.locks.Locks.leave.Goals as goal

pub returns-clause-room : goal.returns-clause-room
returns-clause-room c h =
    let room = subst (λ (s : Stock). HasRoom 0 s) (sym c.self.view_is) h in
    let few = fewer-left c.args.conn c.self.inside.queue.waiters in
    let left : (length c.drop_conn.new.self.waiters ≤ length c.self.inside.queue.waiters)
    × (records_waiting c.drop_conn.new.self.waiters ≤ records_waiting c.self.inside.queue.waiters) =
    rw c.drop_conn.ensures.waiters few in
    record {
      owners = omega (arith, room.owners, left.0, c.leave.ensures.owner_room);
      records = omega (arith, room.records, left.1, c.leave.ensures.record_room);
    }

pub returns-clause-fewer : goal.returns-clause-fewer
returns-clause-fewer c =
    rw (← c.self.view_is, c.drop_conn.ensures.waiters) (fewer-left c.args.conn c.self.inside.queue.waiters).0
