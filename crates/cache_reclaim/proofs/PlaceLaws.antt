-- Places in one list behind another, and names that are listed one after another.
use Rattle.cache_reclaim.proofs.Imports.{◌≡◌, ℕ, zero, suc, ◌-◌, ◌≤◌, List, [], ◌∷◌, ◌++◌, Option, Some, None, option_map, slice_get, length, reverse, append_assoc, append-nil, ap, arith, reverse-append, Name16, Used, names_in, used_in, name_in}

pub get_front : {X : Type 0} (xs ys : List X) (k : ℕ) (x : X) → slice_get xs k ≡ Some x
    → slice_get (xs ++ ys) k ≡ Some x
get_front [] ys k x h = absurd (cc)
get_front (y ∷ xs) ys zero x h = h
get_front (y ∷ xs) ys (suc k) x h = get_front xs ys k x h

pub past_front : {X : Type 0} (xs : List X) (k : ℕ) → slice_get xs k ≡ None → length xs ≤ k
past_front [] k h = omega arith
past_front (y ∷ xs) zero h = absurd (cc)
past_front (y ∷ xs) (suc k) h = let le = past_front xs k h in omega (arith, le)

pub get_behind : {X : Type 0} (xs ys : List X) (k : ℕ) → slice_get xs k ≡ None
    → slice_get (xs ++ ys) k ≡ slice_get ys (k - length xs)
get_behind [] ys k h = ap (λ n. slice_get ys n) (omega arith)
get_behind (y ∷ xs) ys zero h = absurd (cc)
get_behind (y ∷ xs) ys (suc k) h = grind (arith, get_behind xs ys k h)

-- the name behind the front part
pub victim_behind : (own others : List Used) (k n : ℕ) (at : Option Used) (name : Option Name16)
    → slice_get own k ≡ None → n ≡ length own → at ≡ slice_get others (k - n) → name ≡ option_map
    (λ (used : Used). used.name) at → name ≡ option_map (λ (used : Used). used.name) (slice_get (own ++ others) k)
victim_behind own others k n at name past long is told = grind (arith, get_behind)

-- ---- the names of slots, listed from the last slot on

pub names_moved : (left rest : List (ℕ × Option Used)) (e : ℕ × Option Used) (done next all : List Name16)
    → left ≡ rest ++ e ∷ [] → next ≡ done ++ name_in e.1 → done ++ names_in (used_in (reverse left)) ≡ all
    → next ++ names_in (used_in (reverse rest)) ≡ all
names_moved left rest e done next all taken put seam = grind (arith, append_assoc, reverse-append)

pub names_all : (left : List (ℕ × Option Used)) (done all : List Name16) → left ≡ []
    → done ++ names_in (used_in (reverse left)) ≡ all → done ≡ all
names_all left done all none seam = grind (arith, append-nil)
