use Rattle.struct_cell.proofs.Imports.{arith, take, true, subst₂, All, slice_get-get_or, Place, IsWithin, each-nil, each-once, each-step, word_at}
use Rattle.struct_cell.proofs.PlaceLaws.{spared-before}
use Rattle.struct_cell.proofs.words.store_words.Goals as goal

pub loop-place-init : goal.loop-place-init
loop-place-init g c = grind (arith, each-nil)

pub store_one-requires-clause-once : goal.store_one-requires-clause-once
store_one-requires-clause-once g c =
    let places = c.places-places.result.now in
    let none : Place = record { conn = record { 0 = 0 }; word = 0 } in
    let all : All (IsWithin c.args.vectors.now.conns c.args.vectors.now.len) places = grind (arith, subst₂) in
    each-once c.args.vectors.now.conns c.args.vectors.now.len
    (word_at c.args.touched.now.len c.args.touched.now.words) c.args.seat.now c.loop-place.seat
    (take c.loop-place.place-index places) _ (all c.loop-place.place-index none c.loop-place-test.true)
    (grind (arith, spared-before)) c.loop-place.invariant c.requires.fresh

pub loop-place-preserved : goal.loop-place-preserved
loop-place-preserved g c =
    let places = c.places-places.result.now in
    let none : Place = record { conn = record { 0 = 0 }; word = 0 } in
    let all : All (IsWithin c.args.vectors.now.conns c.args.vectors.now.len) places = grind (arith, subst₂) in
    each-step c.args.vectors.now.conns c.args.vectors.now.len
    (word_at c.args.touched.now.len c.args.touched.now.words) c.args.seat.now c.loop-place.seat
    c.store_one.new.seat places c.loop-place.place-index _ true (slice_get-get_or places c.loop-place.place-index
    none c.loop-place-test.true) (grind arith) c.loop-place.invariant (grind (arith, spared-before)) (λ e. absurd cc)
