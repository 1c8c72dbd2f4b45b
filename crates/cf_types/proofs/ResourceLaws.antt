-- Names and resources as keys, and their order.
use Rattle.cf_types.proofs.Imports.{◌≡◌, ◌≢◌, ℕ, ◌==◌, ◌&&◌, Bool, true, false, List, refl, sym, ap, ◌∙◌, subst, arith, nat_eq, nat_tests, Ordering, Less, Equal, Greater, nat_cmp, is_lt, is_gt, is_eq, ordering_reverse, ordering_then, IsTotalOrder, bytes_decides, pointwise, slice_cmp, nat_list_cmp_total, upto, on_total, then_total, nat_cmp_total, same_from_slice_cmp, and_parts, and_from, eqb-true, eq-eqb, not-true, false≢true, Name16, ConnId, Resource, same_name, name_before, texts_ties, same_resource, resource_cmp, resource_before, resource_up_to, Part, same_part}

-- names with the same bytes are the same
pub same_name-eq : (a b : Name16) → same_name a b ≡ true → a ≡ b
same_name-eq a b h =
    let named : List ℕ → Name16 = λ (bytes : List ℕ). record { 0 = bytes } in
    ap named ((bytes_decides a.0 b.0).0 h)

pub same_name-from : (a b : Name16) → a ≡ b → same_name a b ≡ true
same_name-from a b e = (bytes_decides a.0 b.0).1 (ap (λ (n : Name16). n.0) e)

pub same_name-refl : (a : Name16) → same_name a a ≡ true
same_name-refl a = same_name-from a a refl

pub same_name-ne : (a b : Name16) → a ≢ b → same_name a b ≡ false
same_name-ne a b ne = grind (arith, same_name-eq)

pub both_implied : (s t : Bool) → (s ≡ true → t ≡ true) → (t ≡ true → s ≡ true) → s ≡ t
both_implied true t f g = sym (f refl)
both_implied false true f g = g refl
both_implied false false f g = refl

pub same_name-sym : (a b : Name16) → same_name a b ≡ same_name b a
same_name-sym a b = grind (arith, both_implied, same_name-from, same_name-eq)

pub same_resource-eq : (a b : Resource) → same_resource a b ≡ true → a ≡ b
same_resource-eq a b h =
    let parts = and_parts (same_name a.name b.name) (a.hash == b.hash) h in
    let made : Name16 → ℕ → Resource = λ (name : Name16) (hash : ℕ). record { name = name; hash = hash } in
    ap (λ name. made name a.hash) (same_name-eq _ _ parts.0) ∙ ap (made b.name) (eqb-true a.hash b.hash parts.1)

pub same_resource-refl : (a : Resource) → same_resource a a ≡ true
same_resource-refl a =
    and_from (same_name a.name a.name) (a.hash == a.hash) (same_name-refl a.name) (eq-eqb a.hash a.hash refl)

pub same_part-eq : (a b : Part) → same_part a b ≡ true → a ≡ b
same_part-eq a b h =
    let parts = and_parts (same_resource a.0 b.0) (a.1.0 == b.1.0) h in
    let conn : ℕ → ConnId = λ (n : ℕ). record { 0 = n } in
    ap (λ (r : Resource). (let it : Part = (r, a.1) in it)) (same_resource-eq a.0 b.0 parts.0)
    ∙ ap (λ (n : ℕ). (let it : Part = (b.0, conn n) in it)) (eqb-true a.1.0 b.1.0 parts.1)

pub same_part-refl : (a : Part) → same_part a a ≡ true
same_part-refl a =
    and_from (same_resource a.0 a.0) (a.1.0 == a.1.0) (same_resource-refl a.0) (eq-eqb a.1.0 a.1.0 refl)

-- ---- the order of names

is_less : (o : Ordering) → is_lt o ≡ true → o ≡ Less
is_less Less h = refl
is_less Equal h = absurd (false≢true h)
is_less Greater h = absurd (false≢true h)

pub name_before-trans : (a b c : Name16) → name_before a b ≡ true → name_before b c ≡ true → name_before a c ≡ true
name_before-trans a b c h k = ap is_lt (nat_list_cmp_total.trans a.0 b.0 c.0 (is_less _ h) (is_less _ k))

other_way : (o p : Ordering) (same : Bool) → o ≡ ordering_reverse p → same ≡ is_eq p → same ≡ false → is_lt p ≡ false
    → is_lt o ≡ true
other_way o Less same e f g h = absurd (false≢true (sym h))
other_way o Equal same e f g h = absurd (false≢true (sym g ∙ f))
other_way o Greater same e f g h = rw e refl

-- of two names one is before the other, or they are the same
pub name_before-else : (a b : Name16) → same_name a b ≡ false → name_before a b ≡ false → name_before b a ≡ true
name_before-else a b apart h = other_way _ _ _ (nat_list_cmp_total.antisymm b.0 a.0) (texts_ties a.0 b.0) apart h

-- ---- the order of resources

pub resource_cmp_total : IsTotalOrder resource_cmp
resource_cmp_total = then_total (on_total (λ r. r.name.0) nat_list_cmp_total) (on_total (λ r. r.hash) nat_cmp_total)

pub is_lt-reverse : (o : Ordering) → is_lt (ordering_reverse o) ≡ is_gt o
is_lt-reverse Less = refl
is_lt-reverse Equal = refl
is_lt-reverse Greater = refl

before_back : (a b : Resource) → resource_before b a ≡ is_gt (resource_cmp a b)
before_back a b = ap is_lt (resource_cmp_total.antisymm b a) ∙ is_lt-reverse (resource_cmp a b)

pub resource_up_to-trans : (a b c : Resource) → resource_up_to a b ≡ true → resource_up_to b c ≡ true
    → resource_up_to a c ≡ true
resource_up_to-trans a b c ab bc = grind (arith, before_back, not-true, upto, resource_cmp_total)

pub lt_not_gt : (o : Ordering) → is_lt o ≡ true → is_gt o ≡ false
lt_not_gt Less h = refl
lt_not_gt Equal h = refl
lt_not_gt Greater h = absurd (false≢true h)

-- of two resources one isn't behind the other
pub resource_up_to-either : (a b : Resource) → resource_up_to a b ≡ false → resource_up_to b a ≡ true
resource_up_to-either a b h = grind (arith, before_back, lt_not_gt, false≢true)

-- ---- the order and sameness

both_equal : (x y : Ordering) → is_eq (ordering_then x y) ≡ is_eq x && is_eq y
both_equal Less y = refl
both_equal Equal y = refl
both_equal Greater y = refl

equal_number : (m n : ℕ) → is_eq (nat_cmp m n) ≡ (m == n)
equal_number m n = grind (arith, nat_tests)

equal_bytes : (xs ys : List ℕ) → is_eq (slice_cmp nat_cmp xs ys) ≡ pointwise nat_eq xs ys
equal_bytes xs ys = same_from_slice_cmp nat_cmp is_eq (pointwise nat_eq)
    refl (λ _ _. refl) (λ _ _. refl) (λ x y xs ys o h. grind (arith, nat_tests)) xs ys (slice_cmp nat_cmp xs ys) refl

-- two resources are the same where neither comes before the other
pub same_resource-is : (a b : Resource) → same_resource a b ≡ is_eq (resource_cmp a b)
same_resource-is a b = grind (arith, both_equal, equal_bytes, equal_number)

-- ---- sameness has no direction

pub same_resource_comm : (a b : Resource) → same_resource a b ≡ same_resource b a
same_resource_comm a b = go (same_resource a b) (same_resource b a) refl refl
  where
    go : (s t : Bool) → same_resource a b ≡ s → same_resource b a ≡ t → s ≡ t
    go true true e f = refl
    go false false e f = refl
    go true false e f = absurd (false≢true
        (sym f ∙ subst (λ c. same_resource b c ≡ true) (sym (same_resource-eq a b e)) (same_resource-refl b)))
    go false true e f = absurd (false≢true
        (sym e ∙ subst (λ c. same_resource a c ≡ true) (sym (same_resource-eq b a f)) (same_resource-refl a)))

pub same_part_comm : (a b : Part) → same_part a b ≡ same_part b a
same_part_comm a b = grind (arith, same_resource_comm, nat_tests)
