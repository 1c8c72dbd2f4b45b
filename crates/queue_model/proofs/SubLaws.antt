-- Sublists of connectors, in lists.
use Rattle.std.proofs.Common.{arith, ◌≡◌, ℕ, ◌==◌, Bool, true, false, not, ◌&&◌, ◌||◌, nat_le, cond, List, [], ◌∷◌, ◌++◌, filter, fold, refl, sym, ap, ◌∙◌}
use Rattle.std.proofs.lemmas.Bool.{and_parts, and_from, eqb-true, eq-eqb, false≢true}
use Rattle.std.proofs.lemmas.Bool.Decides.{nat_tests}
use Rattle.std.proofs.lemmas.List.Folds.{list_any-append}
use Rattle.std.specs.Cmp.Lexicographic.{bytes_decides}
use Rattle.std.specs.List.{list_all, list_any}
use Rattle.cf_types.specs.declared.names.Key16.{Key16}
use Rattle.cf_lists.specs.Pairwise.{pairwise}
use Rattle.cf_lists.proofs.FilterLaws.{all_from_none, list_all_always, list_all_both, list_all_weaker, list_all-filter, list_all-filter_same, none_from_all}
use Rattle.cf_lists.proofs.InsertionLaws.{list_all-insertion, list_any-insertion}
use Rattle.cf_lists.proofs.PairwiseLaws.{FindsPlace, pairwise-insertion, pairwise-insertion_any}
use Rattle.list_model.specs.Keys.{same_key}
use Rattle.queue_model.specs.declared.subs.Sub.{Sub}
use Rattle.queue_model.specs.Queues.{same_sub, has, is_other, stands_before, with_event, in_turn}

-- ---- tests

pub left : (a b : Bool) → a ≡ true → a || b ≡ true
left true b e = refl
left false b e = absurd (false≢true e)

pub right : (a b : Bool) → b ≡ true → a || b ≡ true
right true b e = refl
right false b e = e

pub neither : (a b : Bool) → a ≡ false → b ≡ false → a || b ≡ false
neither true b e f = e
neither false b e f = f

pub either_parts : (a b : Bool) → a || b ≡ false → (a ≡ false) × (b ≡ false)
either_parts true b e = absurd (false≢true (sym e))
either_parts false b e = (refl, e)

pub no-if : (b : Bool) → (b ≡ true → ⊥) → not b ≡ true
no-if true never = absurd (never refl)
no-if false never = refl

le_other : (n m : ℕ) → nat_le n m ≡ false → nat_le m n ≡ true
le_other n m h = grind (arith, nat_tests)

le_along : (n m k : ℕ) → nat_le n m ≡ true → nat_le m k ≡ true → nat_le n k ≡ true
le_along n m k h i = grind (arith, nat_tests)

-- ---- when two are the same

pub keys_same : (a b : Key16) → same_key a b ≡ true → a ≡ b
keys_same a b h =
    let keyed : List ℕ → Key16 = λ (bytes : List ℕ). record { 0 = bytes } in
    ap keyed ((bytes_decides a.0 b.0).0 h)

key_itself : (a : Key16) → same_key a a ≡ true
key_itself a = (bytes_decides a.0 a.0).1 refl

abbrev made : ℕ → ℕ → Key16 → Sub
made conn header key = record { conn = record { 0 = conn }; header = header; key = key }

pub sub_of_parts : (x y : Sub) → x.conn.0 ≡ y.conn.0 → x.header ≡ y.header → x.key ≡ y.key → x ≡ y
sub_of_parts x y conns headers keys =
    ap (λ (n : ℕ). made n x.header x.key) conns ∙ ap (λ (n : ℕ). made y.conn.0 n x.key) headers
    ∙ ap (λ (k : Key16). made y.conn.0 y.header k) keys

pub same_sub-eq : (x y : Sub) → same_sub x y ≡ true → x ≡ y
same_sub-eq x y h =
    let parts = and_parts (x.conn.0 == y.conn.0) ((x.header == y.header) && same_key x.key y.key) h in
    let others = and_parts (x.header == y.header) (same_key x.key y.key) parts.1 in
    sub_of_parts x y (eqb-true x.conn.0 y.conn.0 parts.0) (eqb-true x.header y.header others.0)
    (keys_same x.key y.key others.1)

pub same_sub-self : (x : Sub) → same_sub x x ≡ true
same_sub-self x = and_from (x.conn.0 == x.conn.0) ((x.header == x.header) && same_key x.key x.key)
    (eq-eqb x.conn.0 x.conn.0 refl)
    (and_from (x.header == x.header) (same_key x.key x.key) (eq-eqb x.header x.header refl) (key_itself x.key))

pub other-turned : (x y : Sub) → is_other x y ≡ true → is_other y x ≡ true
other-turned x y h = no-if (same_sub y x) (λ e.
    false≢true (sym (ap not (ap (same_sub x) (same_sub-eq y x e) ∙ same_sub-self x)) ∙ h))

-- ---- what a list has

pub knows : (xs : List Sub) → list_all (has xs) xs ≡ true
knows [] = refl
knows (x ∷ xs) = and_from (has (x ∷ xs) x) (list_all (has (x ∷ xs)) xs) (left (same_sub x x) (has xs x) (same_sub-self x))
    (list_all_weaker (has xs) (has (x ∷ xs)) (λ y e. right (same_sub y x) (has xs y) e) xs (knows xs))

pub has-before : (x : Sub) (xs ys : List Sub) → has xs x ≡ true → has (xs ++ ys) x ≡ true
has-before x xs ys e = list_any-append (same_sub x) xs ys ∙ left (has xs x) (has ys x) e

pub has-last : (x : Sub) (xs : List Sub) → has (xs ++ x ∷ []) x ≡ true
has-last x xs = list_any-append (same_sub x) xs (x ∷ [])
    ∙ right (has xs x) (has (x ∷ []) x) (left (same_sub x x) false (same_sub-self x))

pub has-filter : (q : Sub → Bool) (y : Sub) (xs : List Sub) → q y ≡ true → has xs y ≡ true → has (filter q xs) y ≡ true
has-filter q y [] pass e = absurd (false≢true e)
has-filter q y (x ∷ xs) pass e = go (same_sub y x) (q x) refl refl e (has-filter q y xs pass)
  where
    go : (b c : Bool) → same_sub y x ≡ b → q x ≡ c → b || has xs y ≡ true
        → (has xs y ≡ true → has (filter q xs) y ≡ true)
        → has (cond c (x ∷ filter q xs) (filter q xs)) y ≡ true
    go true true is keeps f more = left (same_sub y x) (has (filter q xs) y) is
    go true false is keeps f more = absurd (false≢true (sym keeps ∙ ap q (sym (same_sub-eq y x is)) ∙ pass))
    go false true is keeps f more = right (same_sub y x) (has (filter q xs) y) (more f)
    go false false is keeps f more = more f

-- what a filter leaves out isn't there
pub none-passing : (q : Sub → Bool) (x : Sub) (xs : List Sub) → q x ≡ false → has (filter q xs) x ≡ false
none-passing q x xs none = none_from_all (same_sub x) (filter q xs) (list_all_weaker q (is_other x) (λ y passes.
    no-if (same_sub x y) (λ e. false≢true (sym none ∙ ap q (same_sub-eq x y e) ∙ passes)))
    (filter q xs) (list_all-filter_same q xs))

pub known-filter : (q : Sub → Bool) (xs ys : List Sub) → list_all (has xs) ys ≡ true
    → list_all (has (filter q xs)) (filter q ys) ≡ true
known-filter q xs ys h = list_all_weaker (λ y. q y && has xs y) (has (filter q xs)) (λ y both.
    let parts = and_parts (q y) (has xs y) both in has-filter q y xs parts.0 parts.1) (filter q ys) (list_all_both
    q (has xs) (filter q ys) (list_all-filter_same q ys) (list_all-filter (has xs) q ys h))

-- ---- events that come

pub both_ways : (x : Sub) (xs : List Sub) → list_all (is_other x) xs ≡ true
    → list_all (λ y. is_other x y && is_other y x) xs ≡ true
both_ways x xs h = list_all_weaker (is_other x) (λ y. is_other x y && is_other y x)
    (λ y e. and_from (is_other x y) (is_other y x) e (other-turned x y e)) xs h

pub turned : (x : Sub) (xs : List Sub) → list_all (is_other x) xs ≡ true → list_all (λ y. is_other y x) xs ≡ true
turned x xs h = list_all_weaker (is_other x) (λ y. is_other y x) (λ y e. other-turned x y e) xs h

pub finds : (x : Sub) → FindsPlace in_turn (stands_before x) (λ y. true) x
finds x = record {
  front = λ y h. h;
  stop = λ y among h. le_other y.conn.0 x.conn.0 h;
  follows = λ y z h k. le_along x.conn.0 y.conn.0 z.conn.0 h k;
}

pub turns-event : (xs : List Sub) (x : Sub) → pairwise in_turn xs ≡ true → pairwise in_turn (with_event xs x) ≡ true
turns-event xs x h = pairwise-insertion in_turn (stands_before x) (λ y. true) x xs (finds x)
    (list_all_always (λ y. true) (λ y. refl) xs) h

pub all-event : (p : Sub → Bool) (xs : List Sub) (x : Sub) → p x ≡ true → list_all p xs ≡ true
    → list_all p (with_event xs x) ≡ true
all-event p xs x e h = list_all-insertion p (stands_before x) x xs ∙ and_from (p x) (list_all p xs) e h

pub all-events : (p : Sub → Bool) (xs ys : List Sub) → list_all p xs ≡ true → list_all p ys ≡ true
    → list_all p (fold with_event xs ys) ≡ true
all-events p xs [] h k = h
all-events p xs (y ∷ ys) h k =
    let parts = and_parts (p y) (list_all p ys) k in
    all-events p (with_event xs y) ys (all-event p xs y parts.0 h) parts.1

pub none-events : (p : Sub → Bool) (xs ys : List Sub) → list_any p xs ≡ false → list_any p ys ≡ false
    → list_any p (fold with_event xs ys) ≡ false
none-events p xs [] h k = h
none-events p xs (y ∷ ys) h k =
    let parts = either_parts (p y) (list_any p ys) k in
    none-events p (with_event xs y) ys (list_any-insertion p (stands_before y) y xs
    ∙ neither (p y) (list_any p xs) parts.0 h) parts.1

crossed : (y : Sub) (xs ys : List Sub) → list_all (is_other y) ys ≡ true
    → list_all (λ z. list_all (is_other z) xs) ys ≡ true
    → list_all (λ z. list_all (is_other z) (with_event xs y)) ys ≡ true
crossed y xs [] h k = refl
crossed y xs (z ∷ ys) h k =
    let one = and_parts (is_other y z) (list_all (is_other y) ys) h in
    let two = and_parts (list_all (is_other z) xs) (list_all (λ w. list_all (is_other w) xs) ys) k in
    and_from (list_all (is_other z) (with_event xs y)) (list_all (λ w. list_all (is_other w) (with_event xs y)) ys)
    (all-event (is_other z) xs y (other-turned y z one.0) two.0) (crossed y xs ys one.1 two.1)

pub apart-events : (xs ys : List Sub) → pairwise is_other xs ≡ true → pairwise is_other ys ≡ true
    → list_all (λ y. list_all (is_other y) xs) ys ≡ true → pairwise is_other (fold with_event xs ys) ≡ true
apart-events xs [] h k cross = h
apart-events xs (y ∷ ys) h k cross =
    let parts = and_parts (list_all (is_other y) ys) (pairwise is_other ys) k in
    let crossing = and_parts (list_all (is_other y) xs) (list_all (λ z. list_all (is_other z) xs) ys) cross in
    apart-events (with_event xs y) ys (pairwise-insertion_any is_other (stands_before y) y xs h
    (both_ways y xs crossing.0)) parts.1 (crossed y xs ys parts.0 crossing.1)

pub turns-events : (xs ys : List Sub) → pairwise in_turn xs ≡ true → pairwise in_turn (fold with_event xs ys) ≡ true
turns-events xs [] h = h
turns-events xs (y ∷ ys) h = turns-events (with_event xs y) ys (turns-event xs y h)

-- a monitor that isn't there is another one than each that is
pub others : (x : Sub) (xs : List Sub) → has xs x ≡ false → list_all (is_other x) xs ≡ true
others x xs none = all_from_none (same_sub x) xs none
