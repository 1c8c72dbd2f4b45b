use Rattle.vec_words.proofs.Imports.{take}
use Rattle.vec_words.proofs.StoreLaws.{each-once, each-step, within-at}
use Rattle.vec_words.proofs.vectors.Vectors.store_changed.Goals as goal

pub store_first-requires-clause-once : goal.store_first-requires-clause-once
store_first-requires-clause-once g c spared =
    let table = c.args.self.now in
    let places = g.C.Changes.places c.args.changes.now in
    let bits = g.C.Changes.bits_in c.args.changes.now in
    let place = c.place-place.result in
    each-once table.conns table.len bits c.args.seat.now c.loop-at.seat (take c.loop-at.at places) place
    (within-at table.conns table.len places c.loop-at.at place c.place-place.ensures c.requires.within) spared
    c.loop-at.invariant c.requires.fresh

pub loop-at-preserved : goal.loop-at-preserved
loop-at-preserved g c =
    let table = c.args.self.now in
    let places = g.C.Changes.places c.args.changes.now in
    let bits = g.C.Changes.bits_in c.args.changes.now in
    let place = c.place-place.result in
    each-step table.conns table.len bits c.args.seat.now c.loop-at.seat
    c.store_first.new.seat places c.loop-at.at place c.store_first.result c.place-place.ensures
    (within-at table.conns table.len places c.loop-at.at place c.place-place.ensures c.requires.within)
    c.loop-at.invariant c.store_first.ensures.first c.store_first.ensures.again
