-- Interests stay in order, with one of a connector in a resource.
use Rattle.lock_table.proofs.Imports.{arith, ◌≡◌, Bool, true, not, ◌&&◌, List, filter, map, refl, ap, ◌∙◌, and_from, ConnId, Resource, resource_up_to, resource_up_to-trans, resource_up_to-either, same_part_comm, list_all_weaker, list_all-filter_same, list_all_always, FindsPlace, pairwise-filter, pairwise-insertion, pairwise-insertion_any, pairwise-map, Held, is_interest, owners_with, owners_without, in_state, are_apart, IsOwners}
use Rattle.lock_table.specs.Holdings.{in_order}

pub owners-filter : (q : Held → Bool) (owners : List Held) → IsOwners owners → IsOwners (filter q owners)
owners-filter q owners is = grind (arith, pairwise-filter)

finds_place : (held : Held) → FindsPlace in_order (λ other. resource_up_to other.r held.r) (λ other. true) held
finds_place held = grind (arith, resource_up_to-either, resource_up_to-trans)

apart_both : (held other : Held) → not (is_interest held.r held.conn other) ≡ true → are_apart held other
    && are_apart other held ≡ true
apart_both held other h = and_from (are_apart held other)
    (are_apart other held) (ap not (same_part_comm (held.r, held.conn) (other.r, other.conn)) ∙ h) h

pub owners-with : (held : Held) (owners : List Held) → IsOwners owners → IsOwners (owners_with held owners)
owners-with held owners is =
    let others = owners_without held.r held.conn owners in
    let kept = owners-filter (λ other. not (is_interest held.r held.conn other)) owners is in
    record {
      ordered = pairwise-insertion in_order (λ other. resource_up_to other.r held.r) (λ other. true) held
          others (finds_place held) (list_all_always (λ (other : Held). true) (λ other. refl) others) kept.ordered;
      one_each = pairwise-insertion_any are_apart (λ other. resource_up_to other.r held.r)
          held others kept.one_each (list_all_weaker (λ other. not (is_interest held.r held.conn other))
          (λ other. are_apart held other && are_apart other held) (apart_both held) others
          (list_all-filter_same (λ other. not (is_interest held.r held.conn other)) owners));
    }

pub owners-in_state : (r : Resource) (conn : ConnId) (excl : Bool) (owners : List Held) → IsOwners owners
    → IsOwners (map (in_state r conn excl) owners)
owners-in_state r conn excl owners is = grind (arith, pairwise-map)
