use Rattle.list_store.proofs.Imports.{◌∙◌, ap, sym, ℕ, arith, List, length, length-map, Vec, Global, orders_in, lists_without, rec_id, lists_at}
use Rattle.list_store.proofs.TiedLaws.{key_stands, header_stands, found_pulled, unfound_record, without_unfound}
use Rattle.list_store.proofs.ties.take_out.Goals as goal

pub place_in-place-requires-clause-header : goal.place_in-place-requires-clause-header
place_in-place-requires-clause-header c = omega (
  arith,
  length-map c.args.orders.now.items (λ (v : Vec ℕ Global). v.items),
  ap (λ (l : List (Vec ℕ Global)). length l) c.as_slice.ensures.value,
  header_stands c.args.slab.now (orders_in c.args.orders.now.items) c.args.spots.now.entries c.requires.tied
      c.args.id.0 _ _ (sym c.spot_for.ensures ∙ c.in-Some.is),
)

pub place_in-place-requires-clause-there : goal.place_in-place-requires-clause-there
place_in-place-requires-clause-there c = rw c.as_slice.ensures.value (key_stands c.args.slab.now
    (orders_in c.args.orders.now.items) c.args.spots.now.entries c.requires.tied c.args.id.0 _ _ (grind arith))

pub pull-requires-clause-header : goal.pull-requires-clause-header
pull-requires-clause-header c = omega (
  arith,
  length-map c.args.orders.now.items (λ (v : Vec ℕ Global). v.items),
  c.args.orders.now.ok.0,
  header_stands c.args.slab.now (orders_in c.args.orders.now.items) c.args.spots.now.entries c.requires.tied
      c.args.id.0 _ _ (sym c.spot_for.ensures ∙ c.in-Some.is),
)

pub returns-in-Some-clause-record : goal.returns-in-Some-clause-record
returns-in-Some-clause-record c = (found_pulled c.args.slab.now (orders_in c.args.orders.now.items)
    c.args.spots.now.entries c.requires.tied c.args.id.0 _ _ _ c.pull.result (sym c.spot_for.ensures ∙ c.in-Some.is)
    (rw c.as_slice.ensures.value at c.place_in-place.ensures) c.pull.ensures.«record»).1

pub returns-in-Some-clause-lists : goal.returns-in-Some-clause-lists
returns-in-Some-clause-lists c = c.pull.ensures.lists
    ∙ ap (λ (i : ℕ). lists_without rec_id i (lists_at c.args.slab.now (orders_in c.args.orders.now.items)))
    (found_pulled c.args.slab.now (orders_in c.args.orders.now.items) c.args.spots.now.entries c.requires.tied
    c.args.id.0 _ _ _ c.pull.result (sym c.spot_for.ensures ∙ c.in-Some.is) (grind arith) c.pull.ensures.«record»).0

pub returns-in-None-clause-record : goal.returns-in-None-clause-record
returns-in-None-clause-record c = sym (unfound_record c.args.slab.now (orders_in c.args.orders.now.items)
    c.args.spots.now.entries c.requires.tied c.args.id.0 (sym c.spot_for.ensures ∙ c.in-None.is))

pub returns-in-None-clause-lists : goal.returns-in-None-clause-lists
returns-in-None-clause-lists c = sym (without_unfound c.args.slab.now (orders_in c.args.orders.now.items)
    c.args.spots.now.entries c.requires.tied c.args.id.0 (sym c.spot_for.ensures ∙ c.in-None.is))
