-- How many interests there are.
use Rattle.lock_queue.proofs.Imports.{◌≡◌, ℕ, ◌+◌, ◌<◌, ◌≤◌, Bool, true, false, not, Option, Some, None, is_some, sum_by, List, [], ◌∷◌, ◌++◌, map, filter, drop, get_or, length, refl, sym, ap, ◌∙◌, arith, append_assoc, append-nil, map-append, filter-append, arranged, joined, joined_next, joined_past, ConnId, Resource, insertion, pairwise, length-insertion, sum_by-insertion, sum_by_without, any_is_found, length-filter-le, list_any, sum_by-append, sum_by-cons, same_part, resource_before, same_part-eq, same_part-refl, one_less, none_out, Waiter, is_waiter, waits, waiter_of, waiters_without, waiters_with, are_apart, recorded_by, recorded_of, recorded_in, part_of, resource_of, waiters_in, one_where, length-append, insert-prefix_len, length-map}

pub less_one : (r : Resource) (conn : ConnId) (waiters : List Waiter) (b : Bool) → b ≡ waits r conn waiters
    → pairwise are_apart waiters ≡ true → length (waiters_without r conn waiters) + one_where b ≡ length waiters
less_one r conn waiters true h u = one_less part_of (r, conn) waiters u (sym h)
less_one r conn waiters false h u =
    let same : length waiters ≡ length (waiters_without r conn waiters) =
    ap length (none_out part_of (r, conn) waiters (sym h)) in
    let none : length (waiters_without r conn waiters) + 0 ≡ length waiters = omega (arith, same) in none

pub one_more : (before : Waiter → Bool) (waiter : Waiter) (waiters : List Waiter) (n : ℕ) (b : Bool)
    → length waiters + one_where b ≡ n → length (insertion before waiter waiters) ≡ n + one_where (not b)
one_more before waiter waiters n true h = grind (arith, length-insertion)
one_more before waiter waiters n false h = grind (arith, length-insertion)

-- ---- the resources of all entries, and of those of a connector

pub resources_by : (q : Waiter → Bool) (xs ys : List Waiter)
    → map resource_of (filter q (xs ++ ys)) ≡ map resource_of (filter q xs) ++ map resource_of (filter q ys)
resources_by q xs ys = grind (arith, filter-append, map-append)

module _ (of : List Waiter → List Resource) (parts : (xs ys : List Waiter) → of (xs ++ ys) ≡ of xs ++ of ys) where
  pub keys_more : (entries : List (List Waiter)) (keys new : List Resource) (i : ℕ) (entry : List Waiter)
      (all : List Resource) → i < length entries → entry ≡ get_or entries i entry → new ≡ keys ++ of entry
      → keys ++ of (joined (drop i entries)) ≡ all → new ++ of (joined (drop (i + 1) entries)) ≡ all
  keys_more entries keys new i entry all within is put h =
      let split = ap of (joined_next entries i entry within ∙ ap (λ l. l ++ joined (drop (i + 1) entries)) (sym is))
      ∙ parts entry (joined (drop (i + 1) entries)) in
      grind (arith, split, append_assoc)

  pub keys_end : (entries : List (List Waiter)) (keys : List Resource) (i : ℕ) (all : List Resource)
      → of [] ≡ [] → length entries ≤ i → keys ++ of (joined (drop i entries)) ≡ all → keys ≡ all
  keys_end entries keys i all none past h = grind (arith, joined_past, append-nil)

-- ---- record data that waiters bring

pub recorded_parts : (xs ys : List Waiter) → recorded_in (xs ++ ys) ≡ recorded_in xs + recorded_in ys
recorded_parts xs ys = sum_by-append recorded_by xs ys

once : (w : Waiter) → recorded_by w ≤ 1
once w = grind arith

pub recorded_few : (xs : List Waiter) → recorded_in xs ≤ length xs
recorded_few [] = omega arith
recorded_few (x ∷ xs) = omega (arith, sum_by-cons recorded_by x xs, once x, recorded_few xs)

counted_more : {X : Type 0} (size : X → ℕ) (b : X → Bool) (x : X) (ys : List X)
    → sum_by size (insertion b x ys) ≡ sum_by size ys + size x
counted_more size b x ys = omega (arith, sum_by-insertion size b x ys)

-- as many in the order of entries as in that of resources
pub recorded_seen : (entries : List (List Waiter)) → recorded_in (joined entries) ≡ recorded_in (waiters_in entries)
unfolding arranged
recorded_seen entries = go (joined entries)
  where
    go : (xs : List Waiter) → recorded_in xs ≡ recorded_in (arranged resource_of resource_before xs)
    go [] = refl
    go (x ∷ xs) = omega (
      arith,
      sum_by-cons recorded_by x xs,
      go xs,
      counted_more recorded_by (λ y. resource_before y.r x.r) x (arranged resource_of resource_before xs),
    )

-- a waiter goes, and one comes
pub recorded_less : (r : Resource) (conn : ConnId) (waiters : List Waiter) → pairwise are_apart waiters ≡ true
    → recorded_in (waiters_without r conn waiters) + recorded_of (waiter_of r conn waiters) ≡ recorded_in waiters
recorded_less r conn waiters u = go (waiter_of r conn waiters) refl
  where
    go : (o : Option Waiter) → waiter_of r conn waiters ≡ o
        → recorded_in (waiters_without r conn waiters) + recorded_of o ≡ recorded_in waiters
    go None e =
        let none : list_any (is_waiter r conn) waiters ≡ false =
        any_is_found (is_waiter r conn) waiters ∙ ap (λ (o : Option Waiter). is_some o) e in
        let same : recorded_in waiters ≡ recorded_in (waiters_without r conn waiters) =
        ap recorded_in (none_out part_of (r, conn) waiters none) in
        omega (arith, same)
    go (Some w) e =
        omega (arith, sum_by_without part_of same_part same_part-eq same_part-refl recorded_by (r, conn) waiters w u e)

pub recorded_more : (w : Waiter) (waiters : List Waiter) → pairwise are_apart waiters ≡ true → recorded_in
    (waiters_with w waiters) + recorded_of (waiter_of w.r w.conn waiters) ≡ recorded_in waiters + recorded_by w
recorded_more w waiters u = grind (arith, counted_more, recorded_less)

pub few_with : (w : Waiter) (waiters : List Waiter) → length (waiters_with w waiters) ≤ length waiters + 1
few_with w waiters = grind (arith, length-insertion, length-filter-le)

pub ruleset fewer = (length-filter-le, length-map, length-append, insert-prefix_len)
