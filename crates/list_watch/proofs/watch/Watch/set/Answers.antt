use Rattle.list_watch.proofs.Imports.{◌≡◌, ◌≤◌, sym, subst, arith, Watched, rows_with, WatchView}
use Rattle.list_watch.proofs.BitLaws.{gains_with}
use Rattle.list_watch.proofs.MonitorLaws.{one_elsewhere, rows-with, monitors-with}
use Rattle.list_watch.proofs.watch.Watch.set.Goals as goal

pub end-requires-clause-room : goal.end-requires-clause-room
end-requires-clause-room c = omega (
  arith,
  one_elsewhere c.args.conn c.args.index c.args.header c.self.inside.rows.items
      c.self.invariant.monitors.one_for_header,
  c.requires.room,
)

pub put-requires-clause-room : goal.put-requires-clause-room
put-requires-clause-room c = omega (
  arith,
  one_elsewhere c.args.conn c.args.index c.args.header c.self.inside.rows.items
      c.self.invariant.monitors.one_for_header,
  c.requires.room,
  c.end.ensures.room,
)

set_there : (c : goal.After-put) → c.put.new.rows.items ≡ rows_with c.args.conn c.args.index c.args.header c.args.full
    c.self.inside.rows.items
set_there c = rw (c.put.ensures.rows, c.end.ensures.rows) (rows-with c.args.conn c.args.index c.args.header
    c.args.full c.self.inside.rows.items)

pub invariant_of-self : goal.invariant_of-self
invariant_of-self c =
    let place : 1 ≤ _ = subst (λ (w : WatchView). 1 ≤ w.room) (sym c.self.view_is) c.requires.place in
    record {
      monitors = rw (set_there c) (monitors-with c.args.conn c.args.index c.args.header c.args.full
          c.self.inside.rows.items c.self.invariant.monitors);
      few = omega (arith, place, c.put.ensures.more, c.end.ensures.fewer);
    }

pub returns-clause-rows : goal.returns-clause-rows
returns-clause-rows c = rw (← c.self.view_is) (set_there c)

pub returns-clause-bits : goal.returns-clause-bits
returns-clause-bits c =
    let new : Watched = record {
      monitor = record {
        conn = c.args.conn;
        index = c.args.index;
        header = c.args.header;
      };
      full = c.args.full;
    } in
    let first = rw c.end.ensures.rows at c.end.ensures.bits in
    let second = rw (c.put.ensures.rows, c.end.ensures.rows) at c.put.ensures.bits in
    rw (← c.self.view_is, c.put.ensures.rows, c.end.ensures.rows) (gains_with new c.self.inside.rows.items
    c.args.out.now.bits.items c.end.new.out.bits.items c.put.new.out.bits.items first second)
