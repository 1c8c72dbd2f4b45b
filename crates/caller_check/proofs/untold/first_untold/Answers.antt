use Rattle.std.proofs.Common.{rules, ℕ, List, sym, subst}
use Rattle.caller_check.specs.Tables.{rows_of}
use Rattle.caller_check.proofs.UntoldLaws.{AreSoFar, starts, ends, stopped, stepped}
use Rattle.caller_check.proofs.untold.first_untold.Goals as goal

pub loop-number-init : goal.loop-number-init
loop-number-init c = subst (λ (p : List ℕ). AreSoFar c.args.structures.now c.args.histories.now (rows_of c.args.tables.now)
    c.args.conn c.args.items.now p 0) (sym c.in_ok-places.ensures) (starts c.args.structures.now c.args.histories.now
    (rows_of c.args.tables.now) c.args.conn c.args.items.now c.requires.queues)

pub returns-then-not-take_item : goal.returns-then-not-take_item
returns-then-not-take_item c = stopped c.args.structures.now c.args.histories.now (rows_of c.args.tables.now)
    c.args.conn c.args.items.now c.requires.many c.requires.seen c.loop-number.places.items _ c.take_item.new.places
    (search rules) c.loop-number.number c.loop-number.invariant _ (search rules) c.requires.known c.take_item.result
    c.take_item.ensures (search rules)

pub loop-number-preserved : goal.loop-number-preserved
loop-number-preserved c = stepped c.args.structures.now c.args.histories.now (rows_of c.args.tables.now) c.args.conn
    c.args.items.now c.requires.many c.requires.seen c.loop-number.places.items _ c.take_item.new.places
    (search rules) c.loop-number.number c.loop-number.invariant _ (search rules) c.requires.known c.take_item.result
    c.take_item.ensures (search rules) c.loop-number.places.len c.loop-number.places.ok.0

pub returns : goal.returns
returns c = ends c.args.structures.now c.args.histories.now (rows_of c.args.tables.now) c.args.conn c.args.items.now
    c.loop-number.places.items c.loop-number.number c.loop-number.invariant (search rules)
