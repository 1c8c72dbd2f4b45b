-- How many interests there are.
use Rattle.lock_table.proofs.Imports.{◌≡◌, ℕ, ◌+◌, ◌<◌, ◌≤◌, Bool, true, false, not, List, [], ◌++◌, map, filter, drop, get_or, length, sym, ap, ◌∙◌, arith, append_assoc, append-nil, map-append, filter-append, joined, joined_next, joined_past, ConnId, Resource, insertion, pairwise, length-insertion, one_less, none_out, Held, has_interest, owners_without, are_apart, part_of, resource_of, one_where}

pub less_one : (r : Resource) (conn : ConnId) (owners : List Held) (b : Bool) → b ≡ has_interest r conn owners
    → pairwise are_apart owners ≡ true → length (owners_without r conn owners) + one_where b ≡ length owners
less_one r conn owners true h u = one_less part_of (r, conn) owners u (sym h)
less_one r conn owners false h u =
    let same : length owners ≡ length (owners_without r conn owners) =
    ap length (none_out part_of (r, conn) owners (sym h)) in
    let none : length (owners_without r conn owners) + 0 ≡ length owners = omega (arith, same) in none

pub one_more : (before : Held → Bool) (held : Held) (owners : List Held) (n : ℕ) (b : Bool)
    → length owners + one_where b ≡ n → length (insertion before held owners) ≡ n + one_where (not b)
one_more before held owners n true h = grind (arith, length-insertion)
one_more before held owners n false h = grind (arith, length-insertion)

-- ---- the resources of all entries, and of those of a connector

pub resources_by : (q : Held → Bool) (xs ys : List Held)
    → map resource_of (filter q (xs ++ ys)) ≡ map resource_of (filter q xs) ++ map resource_of (filter q ys)
resources_by q xs ys = grind (arith, filter-append, map-append)

module _ (of : List Held → List Resource) (parts : (xs ys : List Held) → of (xs ++ ys) ≡ of xs ++ of ys) where
  pub keys_more : (entries : List (List Held)) (keys new : List Resource) (i : ℕ) (entry : List Held)
      (all : List Resource) → i < length entries → entry ≡ get_or entries i entry → new ≡ keys ++ of entry
      → keys ++ of (joined (drop i entries)) ≡ all → new ++ of (joined (drop (i + 1) entries)) ≡ all
  keys_more entries keys new i entry all within is put h =
      let split = ap of (joined_next entries i entry within ∙ ap (λ l. l ++ joined (drop (i + 1) entries)) (sym is))
      ∙ parts entry (joined (drop (i + 1) entries)) in
      grind (arith, split, append_assoc)

  pub keys_end : (entries : List (List Held)) (keys : List Resource) (i : ℕ) (all : List Resource)
      → of [] ≡ [] → length entries ≤ i → keys ++ of (joined (drop i entries)) ≡ all → keys ≡ all
  keys_end entries keys i all none past h = grind (arith, joined_past, append-nil)
