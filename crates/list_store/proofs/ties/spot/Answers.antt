use Rattle.list_store.proofs.Imports.{◌∙◌, ap, sym, ℕ, arith, option_map, length-map, Vec, Global, orders_in, get_within, as_spot}
use Rattle.list_store.proofs.TiedLaws.{key_stands, header_stands, found_spot, unfound_spot, few-at}
use Rattle.list_store.proofs.ties.spot.Goals as goal

pub place_in-requires-clause-header : goal.place_in-requires-clause-header
place_in-requires-clause-header c = omega (
  arith,
  length-map c.args.orders.now (λ (v : Vec ℕ Global). v.items),
  header_stands c.args.slab.now (orders_in c.args.orders.now) c.args.spots.now.entries c.requires.tied c.args.id.0
      _ _ (sym c.spot_for.ensures ∙ c.in-Some.is),
)

pub place_in-requires-clause-there : goal.place_in-requires-clause-there
place_in-requires-clause-there c = key_stands c.args.slab.now (orders_in c.args.orders.now)
    c.args.spots.now.entries c.requires.tied c.args.id.0 _ _ (sym c.spot_for.ensures ∙ c.in-Some.is)

pub overflow_cast-result : goal.overflow_cast-result
overflow_cast-result c = grind (arith, few-at, header_stands, get_within)

pub returns-in-Some : goal.returns-in-Some
returns-in-Some c = ap (option_map as_spot) (sym (found_spot c.args.slab.now (orders_in c.args.orders.now)
    c.args.spots.now.entries c.requires.tied c.args.id.0 _ _ _ (grind arith) c.place_in.ensures))

pub returns-in-None : goal.returns-in-None
returns-in-None c = ap (option_map as_spot) (sym (unfound_spot c.args.slab.now (orders_in c.args.orders.now)
    c.args.spots.now.entries c.requires.tied c.args.id.0 (sym c.spot_for.ensures ∙ c.in-None.is)))
