use Rattle.std.proofs.Common.{rules, sym}
use Rattle.caller_slots.specs.RunShown.PlexScript.declared.transcripts.Shown.{Shown}
use Rattle.caller_items.proofs.OrderLaws.{stopped, stepped}
use Rattle.caller_items.proofs.orders.in_order.Goals as goal

pub returns-then-not-is_in_order : goal.returns-then-not-is_in_order
returns-then-not-is_in_order c =
    stopped c.args.histories.now c.args.items.now c.loop-place.table.items c.loop-place.place c.loop-place.invariant
    (Shown.Call (record { 0 = 0 }) 0) (search rules) c.requires c.place_of.result c.place_of.ensures
    c.from-on.result (search rules) c.index-histories-on.result c.index-histories-on.is c.index-before.result.now
    c.index-before.ensures c.any_len.result c.any_len.ensures (sym c.if-not-is_in_order.ensures)

pub loop-place-preserved : goal.loop-place-preserved
loop-place-preserved c = stepped c.args.histories.now c.args.items.now c.loop-place.table.items
    c.loop-place.place c.loop-place.invariant (Shown.Call (record { 0 = 0 }) 0) (search rules)
    c.requires c.place_of.result c.place_of.ensures c.from-on.result (search rules) c.index-histories-on.result
    c.index-histories-on.is c.index-before.result.now c.index-before.ensures c.any_len.result
    c.any_len.ensures (sym c.if-not-is_in_order.ensures) c.seen_after.result c.seen_after.ensures
