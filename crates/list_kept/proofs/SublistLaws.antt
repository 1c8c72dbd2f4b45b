-- How many records of a header have a key: as many as stand between the places of one that comes to the head and of
-- one that comes to the tail.
use Rattle.list_kept.proofs.Imports.{◌≡◌, ℕ, ◌+◌, ◌-◌, ◌≤◌, Bool, true, false, not, cond, List, [], ◌∷◌, length, filter, Option, Some, None, refl, sym, ap, ◌∙◌, arith, list_all, prefix_len, and_parts, false≢true, Key16, pairwise, Record, key_up_to, same_key, has_key, may_precede, key_up_to-either, not_false, comes_behind}
use Rattle.std.proofs.Common.{◌&&◌}
use Rattle.list_kept.proofs.KeyedLaws.{keys_same, up_to_itself, same_up}
use Rattle.list_kept.proofs.PlaceLaws.{behind_too}

-- where the first of some records in order isn't before one that comes, none is
none_before : (head : Bool) (key : Option Key16) (x : Record) (xs : List Record)
    → list_all (may_precede x) xs ≡ true → comes_behind head key x ≡ false → prefix_len (comes_behind head key) xs ≡ 0
none_before head key x [] each out = refl
none_before head key x (y ∷ ys) each out =
    go (comes_behind head key y) refl (and_parts (may_precede x y) (list_all (may_precede x) ys) each).0
  where
    go : (b : Bool) → comes_behind head key y ≡ b → may_precede x y ≡ true
        → cond b (1 + prefix_len (comes_behind head key) ys) 0 ≡ 0
    go true e ordered = absurd (false≢true (sym out ∙ behind_too head key x y ordered e))
    go false e ordered = refl

-- a record with the key stands before one that comes to the tail, and not before one that comes to the head
abbrev is_key : Key16 → Option Key16 → Bool
is_key key None = false
is_key key (Some own) = same_key own key

between_keys : (key own : Key16) (up down : Bool) → key_up_to (Some own) (Some key) ≡ up
    → key_up_to (Some key) (Some own) ≡ down → same_key own key ≡ not (not down) && up
between_keys key own true true up down = same_up own key up down
between_keys key own false down up e = apart (same_key own key) refl ∙ sym (no_two (not (not down)))
  where
    no_two : (b : Bool) → b && false ≡ false
    no_two true = refl
    no_two false = refl

    apart : (b : Bool) → same_key own key ≡ b → same_key own key ≡ false
    apart true same = absurd (false≢true (sym up ∙ ap (λ (k : Key16). key_up_to (Some k) (Some key))
        (keys_same own key same) ∙ up_to_itself (Some key)))
    apart false same = same
between_keys key own true false up e = apart (same_key own key) refl
  where
    apart : (b : Bool) → same_key own key ≡ b → same_key own key ≡ false
    apart true same = absurd (false≢true (sym e ∙ ap (λ (k : Key16). key_up_to (Some key) (Some k))
        (keys_same own key same) ∙ up_to_itself (Some key)))
    apart false same = same

has_between : (key : Key16) (own : Option Key16)
    → is_key key own ≡ not (not (key_up_to (Some key) own)) && key_up_to own (Some key)
has_between key None = refl
has_between key (Some own) = between_keys key own _ _ refl refl

record_between : (key : Key16) (x : Record)
    → has_key key x ≡ not (comes_behind true (Some key) x) && comes_behind false (Some key) x
record_between key x = has_is ∙ has_between key x.key
  where
    has_is : has_key key x ≡ is_key key x.key
    has_is = grind arith

before_both : (key : Key16) (own : Option Key16) → not (key_up_to (Some key) own) ≡ true
    → key_up_to own (Some key) ≡ true
before_both key own e = go (key_up_to (Some key) own) refl e
  where
    go : (b : Bool) → key_up_to (Some key) own ≡ b → not b ≡ true → key_up_to own (Some key) ≡ true
    go true is h = absurd (false≢true h)
    go false is h = key_up_to-either (Some key) own is

-- one record more in front
one_more : (b c : Bool) (p n q : ℕ) (here rest : List Record) → (b ≡ true → c ≡ true) → p + n ≡ q
    → (b ≡ false → p ≡ 0) → (c ≡ false → q ≡ 0) → length rest ≡ n → length here ≡ 1 + n
    → cond b (1 + p) 0 + length (cond (not b && c) here rest) ≡ cond c (1 + q) 0
one_more true true p n q here rest both is none last len more =
    let e : (1 + p) + length rest ≡ 1 + q = omega (arith, is, len) in e
one_more true false p n q here rest both is none last len more = absurd (false≢true (both refl))
one_more false true p n q here rest both is none last len more =
    let e : 0 + length here ≡ 1 + q = omega (arith, is, none refl, more) in e
one_more false false p n q here rest both is none last len more =
    let e : 0 + length rest ≡ 0 = omega (arith, is, last refl, len) in e

between : (key : Key16) (recs : List Record) → pairwise may_precede recs ≡ true
    → prefix_len (comes_behind true (Some key)) recs + length (filter (has_key key) recs)
    ≡ prefix_len (comes_behind false (Some key)) recs
between key [] h = refl
between key (x ∷ xs) h =
    let parts = and_parts (list_all (may_precede x) xs) (pairwise may_precede xs) h in
    let more = one_more (comes_behind true (Some key) x) (comes_behind false (Some key) x) _ _ _
    (x ∷ filter (has_key key) xs) (filter (has_key key) xs) (before_both key x.key) (between key xs parts.1)
    (none_before true (Some key) x xs parts.0) (none_before false (Some key) x xs parts.0) refl (omega arith) in
    ap (λ (b : Bool). cond (comes_behind true (Some key) x) (1 + prefix_len (comes_behind true (Some key)) xs) 0
    + length (cond b (x ∷ filter (has_key key) xs) (filter (has_key key) xs))) (record_between key x) ∙ more

pub fewer_before : (key : Key16) (recs : List Record) → pairwise may_precede recs ≡ true
    → prefix_len (comes_behind true (Some key)) recs ≤ prefix_len (comes_behind false (Some key)) recs
fewer_before key recs h = omega (arith, between key recs h)

pub counted_between : (key : Key16) (recs : List Record) → pairwise may_precede recs ≡ true
    → prefix_len (comes_behind false (Some key)) recs - prefix_len (comes_behind true (Some key)) recs
    ≡ length (filter (has_key key) recs)
counted_between key recs h = omega (arith, between key recs h)
