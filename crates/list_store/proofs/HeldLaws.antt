-- The chains of records, and those that no record has.
use Rattle.list_store.proofs.Imports.{◌≡◌, ◌≢◌, ℕ, zero, suc, ◌+◌, List, [], ◌∷◌, ◌++◌, set, get_or, slice_get, sum_by, Option, None, Some, refl, sym, ap, ◌∙◌, subst, arith, get_or-set_other, get_or_from_slice_get, get-set_other, sum_by-set, sum_by-cons, get_within, Every, Chain, IsChain, need_at, Rec, record_in, body_in, HasChain, chains_less, loose_in, AreHeld}

-- ---- one list of chains

set_swap : {X : Type 0} (xs : List X) (i j : ℕ) (x y : X) → i ≢ j → set (set xs i x) j y ≡ set (set xs j y) i x
set_swap [] i j x y ne = refl
set_swap (z ∷ zs) zero zero x y ne = absurd (ne refl)
set_swap (z ∷ zs) zero (suc j) x y ne = refl
set_swap (z ∷ zs) (suc i) zero x y ne = refl
set_swap {X} (z ∷ zs) (suc i) (suc j) x y ne = ap (λ (l : List X). z ∷ l) (set_swap zs i j x y (λ e. ne (ap suc e)))

pub set_twice : {X : Type 0} (xs : List X) (i : ℕ) (x y : X) → set (set xs i x) i y ≡ set xs i y
set_twice [] i x y = refl
set_twice (z ∷ zs) zero x y = refl
set_twice {X} (z ∷ zs) (suc i) x y = ap (λ (l : List X). z ∷ l) (set_twice zs i x y)

-- a chain that is there although another went is not that one
not_gone : (xs : List (Option (List ℕ))) (i j : ℕ) → IsChain (set xs i None) j → j ≢ i
not_gone xs i j c e = grind (arith, go)
  where
    go : (ys : List (Option (List ℕ))) (k : ℕ) (b : List ℕ) → slice_get (set ys k None) k ≡ Some (Some b) → ⊥
    go [] k b h = cc
    go (y ∷ ys) zero b h = cc
    go (y ∷ ys) (suc k) b h = go ys k b h

still : (xs : List (Option (List ℕ))) (i j : ℕ) (o : Option (List ℕ)) → j ≢ i → IsChain xs j → IsChain (set xs i o) j
still xs i j o ne c = (c.0, get-set_other xs i j o ne ∙ c.1)

before : (xs : List (Option (List ℕ))) (i j : ℕ) (o : Option (List ℕ)) → j ≢ i → IsChain (set xs i o) j → IsChain xs j
before xs i j o ne c = (c.0, sym (get-set_other xs i j o ne) ∙ c.1)

-- ---- the chains of records come and go in any order

pub less_swap : (loose : List (Option (List ℕ))) (a b : Option Chain) → HasChain (chains_less a loose) b
    → chains_less b (chains_less a loose) ≡ chains_less a (chains_less b loose)
less_swap loose None b h = refl
less_swap loose (Some a) None h = refl
less_swap loose (Some a) (Some b) h = grind (arith, set_swap, not_gone)

-- both are there, where one is and the other still is when that one is gone
pub has_swap : (loose : List (Option (List ℕ))) (a b : Option Chain)
    → HasChain loose a → HasChain (chains_less a loose) b → HasChain loose b × HasChain (chains_less b loose) a
has_swap loose None b h k = (k, tt)
has_swap loose (Some a) None h k = (tt, h)
has_swap loose (Some a) (Some b) h k =
    let ne = not_gone loose a.head b.head k in
    (before loose a.head b.head None ne k, still loose b.head a.head None (λ e. ne (sym e)) h)

-- a record among others, and before them
pub loose_middle : (chains : List (Option (List ℕ))) (front back : List Rec) (rec : Rec) → AreHeld chains
    (front ++ rec ∷ back) → (HasChain (loose_in chains (front ++ back)) rec.body × AreHeld chains (front ++ back))
    × (loose_in chains (front ++ rec ∷ back) ≡ chains_less rec.body (loose_in chains (front ++ back)))
loose_middle chains [] back rec h = (h, refl)
loose_middle chains (x ∷ front) back rec h =
    grind (arith, has_swap, less_swap, loose_middle chains front back rec h.1)

pub held_middle : (chains : List (Option (List ℕ))) (front back : List Rec) (rec : Rec) → HasChain
    (loose_in chains (front ++ back)) rec.body → AreHeld chains (front ++ back) → AreHeld chains (front ++ rec ∷ back)
    × (loose_in chains (front ++ rec ∷ back) ≡ chains_less rec.body (loose_in chains (front ++ back)))
held_middle chains [] back rec h held = ((h, held), refl)
held_middle chains (x ∷ front) back rec h held =
    let two = has_swap (loose_in chains (front ++ back)) x.body rec.body held.0 h in
    let r = held_middle chains front back rec two.0 held.1 in (grind (arith, less_swap))

-- ---- what is loose is a chain

pub less_sub : (loose : List (Option (List ℕ))) (a : Option Chain) (k : ℕ) (bytes : List ℕ)
    → slice_get (chains_less a loose) k ≡ Some (Some bytes) → slice_get loose k ≡ Some (Some bytes)
less_sub loose None k bytes e = e
less_sub loose (Some a) k bytes e = sym (get-set_other loose a.head k None (not_gone loose a.head k (bytes, e))) ∙ e

pub loose_sub : (chains : List (Option (List ℕ))) (recs : List Rec) (k : ℕ) (bytes : List ℕ)
    → slice_get (loose_in chains recs) k ≡ Some (Some bytes) → slice_get chains k ≡ Some (Some bytes)
loose_sub chains [] k bytes e = e
loose_sub chains (rec ∷ recs) k bytes e = loose_sub chains recs k bytes (grind (arith, less_sub))

pub has_sub : (chains : List (Option (List ℕ))) (recs : List Rec) (a : Option Chain) → HasChain (loose_in chains recs) a
    → HasChain chains a
has_sub chains recs None h = tt
has_sub chains recs (Some a) h = (h.0, loose_sub chains recs a.head h.0 h.1)

pub each_chain : (chains : List (Option (List ℕ))) (recs : List Rec) → AreHeld chains recs
    → Every (λ rec. HasChain chains rec.body) recs
each_chain chains [] h = tt
each_chain chains (rec ∷ recs) h = (has_sub chains recs rec.body h.0, each_chain chains recs h.1)

-- ---- a change at a place where no record's chain begins

abbrev pub IsElsewhere : ℕ → Option Chain → Type 0
IsElsewhere k None = Unit {0}
IsElsewhere k (Some chain) = chain.head ≢ k

pub elsewhere_fresh : (chains : List (Option (List ℕ))) (recs : List Rec) (k : ℕ)
    → slice_get chains k ≡ Some None → AreHeld chains recs → Every (λ rec. IsElsewhere k rec.body) recs
elsewhere_fresh chains [] k e h = tt
elsewhere_fresh chains (rec ∷ recs) k e h = grind (arith, has_sub, elsewhere_fresh chains recs k e h.1)

pub elsewhere_loose : (chains : List (Option (List ℕ))) (recs : List Rec) (k : ℕ) (bytes : List ℕ)
    → slice_get (loose_in chains recs) k ≡ Some (Some bytes) → Every (λ rec. IsElsewhere k rec.body) recs
elsewhere_loose chains [] k bytes e = tt
elsewhere_loose chains (rec ∷ recs) k bytes e = grind (
  arith,
  go,
  less_sub,
  elsewhere_loose chains recs k bytes (less_sub (loose_in chains recs) rec.body k bytes e),
)
  where
    go : (a : Option Chain) → slice_get (chains_less a (loose_in chains recs)) k ≡ Some (Some bytes) → IsElsewhere k a
    go None c = tt
    go (Some a) c = λ same. not_gone (loose_in chains recs) a.head k (bytes, c) (sym same)

less_change : (loose : List (Option (List ℕ))) (a : Option Chain) (k : ℕ) (o : Option (List ℕ)) → IsElsewhere k a
    → chains_less a (set loose k o) ≡ set (chains_less a loose) k o
less_change loose None k o away = refl
less_change loose (Some a) k o away = set_swap loose k a.head o None (λ e. away (sym e))

has_change : (loose : List (Option (List ℕ))) (a : Option Chain) (k : ℕ) (o : Option (List ℕ))
    → IsElsewhere k a → HasChain loose a → HasChain (set loose k o) a
has_change loose None k o away h = tt
has_change loose (Some a) k o away h = still loose k a.head o away h

pub loose_change : (chains : List (Option (List ℕ))) (recs : List Rec) (k : ℕ) (o : Option (List ℕ))
    → Every (λ rec. IsElsewhere k rec.body) recs → loose_in (set chains k o) recs ≡ set (loose_in chains recs) k o
loose_change chains [] k o away = refl
loose_change chains (rec ∷ recs) k o away = grind (arith, less_change, loose_change chains recs k o away.1)

pub held_change : (chains : List (Option (List ℕ))) (recs : List Rec) (k : ℕ) (o : Option (List ℕ))
    → Every (λ rec. IsElsewhere k rec.body) recs → AreHeld chains recs → AreHeld (set chains k o) recs
held_change chains [] k o away h = tt
held_change chains (rec ∷ recs) k o away h = (
  subst (λ l. HasChain l rec.body) (sym (loose_change chains recs k o away.1)) (grind (arith, has_change)),
  held_change chains recs k o away.1 h.1,
)

body_change : (chains : List (Option (List ℕ))) (a : Option Chain) (k : ℕ) (o : Option (List ℕ)) → IsElsewhere k a
    → body_in (set chains k o) a ≡ body_in chains a
body_change chains None k o away = refl
body_change chains (Some a) k o away = get_or-set_other chains k a.head o None away

pub record_change : (chains : List (Option (List ℕ))) (recs : List Rec) (k : ℕ) (o : Option (List ℕ)) → Every
    (λ rec. IsElsewhere k rec.body) recs → Every (λ rec. record_in (set chains k o) rec ≡ record_in chains rec) recs
record_change chains [] k o away = tt
record_change chains (rec ∷ recs) k o away = grind (arith, body_change, record_change chains recs k o away.1)

-- ---- how many elements

pub counted : (chains : List (Option (List ℕ))) (recs : List Rec) → AreHeld chains recs → sum_by
    need_at chains ≡ sum_by need_at (loose_in chains recs) + sum_by (λ rec. need_at (body_in chains rec.body)) recs
counted chains [] h = omega arith
counted chains (rec ∷ recs) h =
    let rest = counted chains recs h.1 in
    let one = go rec.body h.0 in
    omega (arith, rest, one, sum_by-cons (λ (r : Rec). need_at (body_in chains r.body)) rec recs)
  where
    go : (a : Option Chain) → HasChain (loose_in chains recs) a → sum_by need_at
        (loose_in chains recs) ≡ sum_by need_at (chains_less a (loose_in chains recs)) + need_at (body_in chains a)
    go None c = omega arith
    go (Some a) c =
        let there : get_or (loose_in chains recs) a.head None ≡ Some c.0 = grind (arith, get_or_from_slice_get) in
        let also : get_or chains a.head None ≡ Some c.0 = grind (arith, get_or_from_slice_get, loose_sub) in
        let change = sum_by-set need_at (loose_in chains recs) a.head None None (grind (arith, get_within)) in
        rw also (omega (arith, change, ap need_at there))

-- a place where no chain begins is one where no loose chain begins
pub loose_fresh : (chains : List (Option (List ℕ))) (recs : List Rec) (k : ℕ)
    → slice_get chains k ≡ Some None → AreHeld chains recs → slice_get (loose_in chains recs) k ≡ Some None
loose_fresh chains [] k e h = e
loose_fresh chains (rec ∷ recs) k e h = grind (arith, elsewhere_fresh, get-set_other, loose_fresh chains recs k e h.1)
