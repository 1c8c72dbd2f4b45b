-- The grant rule leads from content to content, and to no more record data and no more items.
use Rattle.lock_model.proofs.Imports.{◌≡◌, ℕ, ◌+◌, ◌≤◌, Bool, true, false, cond, List, [], ◌∷◌, Option, map, refl, ap, subst, arith, list_any, list_all, option_or, and_parts, or_parts, or_right, false≢true, eq-eqb, sum_by-cons, Part, same_part, same_part-eq, same_part-refl, pairwise, Held, Waiter, Interest, AreInterests, is_of, has_interest, interests_changed, may_coexist, may_own, parts_apart, owners_agree, records_of, records_owned, held_by, with_alteration}
use Rattle.cf_lists.proofs.KeyLaws as keys
use Rattle.lock_model.proofs.InterestLaws.{part_of, KeepsPart, interests-map, agree_sym}

-- the resource and the connector
abbrev pub waiter_part : Waiter → Part
waiter_part w = (w.r, w.conn)

-- ---- an interest is altered

abbrev pub alteration : Waiter → Interest → Interest
alteration w x = cond (is_of w.r w.conn x) (with_alteration w x) x

altered_conn : (w : Waiter) (b : Bool) (x : Interest) → (cond b (with_alteration w x) x).held.conn ≡ x.held.conn
altered_conn w b x = grind arith

pub alteration-keeps : (w : Waiter) → KeepsPart (alteration w)
alteration-keeps w = grind (arith, altered_conn)

-- the altered interest is in the state for which one waits
its_part : (w : Waiter) (x : Interest) → is_of w.r w.conn x ≡ true → part_of x ≡ waiter_part w
its_part w x h = same_part-eq (part_of x) (waiter_part w) h

altered_agrees : (w : Waiter) (x : Interest) (other : Held) → is_of w.r w.conn x ≡ true
    → may_coexist (held_by w) other ≡ true → may_coexist (with_alteration w x).held other ≡ true
altered_agrees w x other h may = grind (arith, its_part)

one_connector : (a b : Held) → a.conn ≡ b.conn → may_coexist a b ≡ true
one_connector a b e = grind (arith, or_right, eq-eqb)

alteration_agrees : (w : Waiter) (a b : Bool) (x y : Interest) → is_of w.r w.conn x ≡ a → is_of w.r w.conn y ≡ b
    → may_coexist (held_by w) x.held ≡ true → may_coexist (held_by w) y.held ≡ true → owners_agree x y ≡ true
    → owners_agree (cond a (with_alteration w x) x) (cond b (with_alteration w y) y) ≡ true
alteration_agrees w true b x y ex ey gx gy h = grind (arith, one_connector, its_part, altered_agrees)
alteration_agrees w false b x y ex ey gx gy h = grind (arith, agree_sym, altered_agrees)

pub interests-altered : (w : Waiter) (interests : List Interest) → AreInterests interests
    → may_own (held_by w) interests ≡ true → AreInterests (interests_changed w.r w.conn (with_alteration w) interests)
interests-altered w interests are may = interests-map (alteration w) (alteration-keeps w)
    (λ x. may_coexist (held_by w) x.held) (grind (arith, alteration_agrees)) interests may are

-- record data that are given take the place of the interest's own
given : (a b : Option (List ℕ)) → records_of (option_or a b) ≤ records_of b + records_of a
given a b = grind arith

none_altered : (w : Waiter) (interests : List Interest) → has_interest w.r w.conn interests ≡ false
    → map (alteration w) interests ≡ interests
none_altered w [] h = refl
none_altered w (x ∷ xs) h =
    let parts = or_parts (is_of w.r w.conn x) (has_interest w.r w.conn xs) h in
    first (is_of w.r w.conn x) parts.0 (none_altered w xs parts.1)
  where
    first : (b : Bool) → b ≡ false → {ys : List Interest} → ys ≡ xs → cond b (with_alteration w x) x ∷ ys ≡ x ∷ xs
    first b e ih = grind (arith, false≢true)

abbrev pub its_records : Interest → ℕ
its_records x = records_of x.rec

alteration_step : (w : Waiter) (b : Bool) (x : Interest) (xs ys : List Interest)
    → (b ≡ true → ys ≡ xs) → records_owned ys ≤ records_owned xs + records_of w.rec
    → records_owned (cond b (with_alteration w x) x ∷ ys) ≤ records_owned (x ∷ xs) + records_of w.rec
alteration_step w true x xs ys same le =
    let it : records_owned ys ≡ records_owned xs = ap (λ (l : List Interest). records_owned l) (same refl) in
    omega (arith, it, given w.rec x.rec, sum_by-cons its_records (with_alteration w x) ys, sum_by-cons its_records x xs)
alteration_step w false x xs ys same le =
    omega (arith, le, sum_by-cons its_records x ys, sum_by-cons its_records x xs)

none_behind : (w : Waiter) (x : Interest) (xs : List Interest)
    → pairwise parts_apart (x ∷ xs) ≡ true → is_of w.r w.conn x ≡ true → has_interest w.r w.conn xs ≡ false
none_behind w x xs u h = subst (λ (p : Part). list_any (λ y. same_part (part_of y) p) xs ≡ false)
    (its_part w x h) (keys.none_later part_of same_part same_part-eq same_part-refl x xs u)

pub records-altered : (w : Waiter) (interests : List Interest) → pairwise parts_apart interests ≡ true → records_owned
    (interests_changed w.r w.conn (with_alteration w) interests) ≤ records_owned interests + records_of w.rec
records-altered w [] u = omega arith
records-altered w (x ∷ xs) u =
    let later = and_parts (list_all (parts_apart x) xs) (pairwise parts_apart xs) u in
    alteration_step w _ x _ _ (λ h. none_altered w _ (none_behind w x _ u h)) (records-altered w xs later.1)
