-- Parts in order: by resource, and of one resource by connector.
use Rattle.lock_record.proofs.Imports.{◌≡◌, ℕ, ◌&&◌, ◌||◌, ◌==◌, nat_lt, Bool, true, false, refl, sym, ◌∙◌, subst, arith, and_from, false≢true, nat_tests, Part, resource_before, same_part, same_resource, same_part-eq, same_part-refl, same_resource-eq, same_resource-refl, IsKeyOrder, resource_order, part_before}

never : (b s : Bool) (n : ℕ) → b ≡ false → b || (s && nat_lt n n) ≡ false
never b s n e = grind (arith, nat_tests)

-- where the first part of the order says so, and where it leaves it to the connectors
ahead : (a b : Part) (t : Bool) → resource_before a.0 b.0 ≡ t → part_before a b ≡ true → part_before b a ≡ false
ahead a b true e h = go (same_resource b.0 a.0) refl
  where
    other : resource_before b.0 a.0 ≡ false
    other = resource_order.asym a.0 b.0 e

    go : (s : Bool) → same_resource b.0 a.0 ≡ s → part_before b a ≡ false
    go true f = absurd (false≢true
        (sym (resource_order.once a.0) ∙ subst (λ r. resource_before a.0 r ≡ true) (same_resource-eq b.0 a.0 f) e))
    go false f = rw (other, f) refl
ahead a b false e h = go (same_resource a.0 b.0) refl
  where
    rest : same_resource a.0 b.0 && nat_lt a.1.0 b.1.0 ≡ true
    rest = rw e at h

    later : (s t : Bool) (m n : ℕ) → s ≡ true → s && nat_lt m n ≡ true → t || false ≡ t → nat_lt n m ≡ false
    later s t m n f g k = grind (arith, nat_tests)

    go : (s : Bool) → same_resource a.0 b.0 ≡ s → part_before b a ≡ false
    go true f =
        let alike = same_resource-eq a.0 b.0 f in
        let other : resource_before b.0 a.0 ≡ false = grind arith in
        let behind : nat_lt b.1.0 a.1.0 ≡ false = later true false a.1.0 b.1.0 refl (rw f at rest) refl in
        done (resource_before b.0 a.0) (same_resource b.0 a.0) (nat_lt b.1.0 a.1.0) other behind
      where
        done : (x y z : Bool) → x ≡ false → z ≡ false → x || (y && z) ≡ false
        done false true false p q = refl
        done false false false p q = refl
        done true y z p q = absurd (false≢true (sym p))
        done false y true p q = absurd (false≢true (sym q))
    go false f = absurd (false≢true (rw f at rest))

first_off : (x y : Bool) → x || y ≡ false → x ≡ false
first_off x y h = grind (arith, false≢true)

not_less : (s : Bool) (m n : ℕ) → s ≡ true → s && nat_lt m n ≡ false → nat_lt m n ≡ false
not_less s m n e h = grind (arith, false≢true)

no_less : (a b c : ℕ) → nat_lt b a ≡ false → nat_lt c b ≡ false → nat_lt c a ≡ false
no_less a b c e f = grind (arith, nat_tests)

behind_both : (a b c : Part) → part_before b a ≡ false → part_before c b ≡ false → part_before c a ≡ false
behind_both a b c first next = go (same_resource c.0 a.0) refl
  where
    ba : resource_before b.0 a.0 ≡ false
    ba = first_off _ _ first

    cb : resource_before c.0 b.0 ≡ false
    cb = first_off _ _ next

    ca : resource_before c.0 a.0 ≡ false
    ca = resource_order.follows a.0 b.0 c.0 ba cb

    go : (s : Bool) → same_resource c.0 a.0 ≡ s → part_before c a ≡ false
    go false f = rw (ca, f) refl
    go true f =
        let alike = same_resource-eq c.0 a.0 f in
        let bc : resource_before b.0 c.0 ≡ false = subst (λ r. resource_before b.0 r ≡ false) (sym alike) ba in
        let same_cb : same_resource c.0 b.0 ≡ true = resource_order.ties b.0 c.0 bc cb in
        let same_ba : same_resource b.0 a.0 ≡ true = subst (λ r. same_resource b.0 r ≡ true)
        (sym (same_resource-eq c.0 b.0 same_cb) ∙ alike) (same_resource-refl b.0) in
        let one : nat_lt b.1.0 a.1.0 ≡ false = not_less _ b.1.0 a.1.0 same_ba (grind arith) in
        let two : nat_lt c.1.0 b.1.0 ≡ false = not_less _ c.1.0 b.1.0 same_cb (grind arith) in
        rw (ca, f, no_less a.1.0 b.1.0 c.1.0 one two) refl

neither : (m n : ℕ) → nat_lt m n ≡ false → nat_lt n m ≡ false → n == m ≡ true
neither m n e f = grind (arith, nat_tests)

tied : (a b : Part) → part_before a b ≡ false → part_before b a ≡ false → same_part b a ≡ true
tied a b first next =
    let ab = first_off _ _ first in
    let ba = first_off _ _ next in
    let same_ba : same_resource b.0 a.0 ≡ true = resource_order.ties a.0 b.0 ab ba in
    let same_ab : same_resource a.0 b.0 ≡ true = resource_order.ties b.0 a.0 ba ab in
    let one : nat_lt a.1.0 b.1.0 ≡ false = not_less _ a.1.0 b.1.0 same_ab (grind arith) in
    let two : nat_lt b.1.0 a.1.0 ≡ false = not_less _ b.1.0 a.1.0 same_ba (grind arith) in
    and_from (same_resource b.0 a.0) (b.1.0 == a.1.0) same_ba (neither a.1.0 b.1.0 one two)

pub part_order : IsKeyOrder same_part part_before
part_order = record {
  itself = same_part-refl;
  equal = same_part-eq;
  once = λ a. never (resource_before a.0 a.0) (same_resource a.0 a.0) a.1.0 (resource_order.once a.0);
  asym = λ a b h. ahead a b (resource_before a.0 b.0) refl h;
  follows = behind_both;
  ties = tied;
}
