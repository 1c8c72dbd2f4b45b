-- Resources in order.
use Rattle.cf_lists.proofs.Imports.{arith, ◌≡◌, Bool, true, false, not, refl, sym, ap, ◌∙◌, Ordering, Less, Equal, Greater, is_lt, is_eq, ordering_reverse, not-true, not_from_false, false≢true, Resource, same_resource, resource_before, resource_up_to, same_resource-eq, same_resource-refl, resource_cmp_total, resource_up_to-trans, resource_up_to-either, same_resource-is, IsKeyOrder, true_from_ne_false}

equal_from : (o : Ordering) → is_lt o ≡ false → is_lt (ordering_reverse o) ≡ false → is_eq o ≡ true
equal_from Less h e = absurd (false≢true (sym h))
equal_from Equal h e = refl
equal_from Greater h e = absurd (false≢true (sym e))

not_equal : (o : Ordering) → is_lt o ≡ true → is_eq o ≡ false
not_equal Less h = refl
not_equal Equal h = absurd (false≢true h)
not_equal Greater h = refl

-- of two resources neither of which is before the other
tied : (a b : Resource) → resource_before a b ≡ false → resource_before b a ≡ false → same_resource b a ≡ true
tied a b h e = grind (arith, same_resource-is, equal_from, resource_cmp_total)

once : (a : Resource) (t : Bool) → resource_before a a ≡ t → t ≡ false
once a false e = refl
once a true e = absurd (false≢true (sym (not_equal _ e) ∙ sym (same_resource-is a a) ∙ same_resource-refl a))

pub resource_order : IsKeyOrder same_resource resource_before
resource_order = record {
  itself = same_resource-refl;
  equal = same_resource-eq;
  once = λ a. once a (resource_before a a) refl;
  asym = λ a b h. not-true (resource_before b a) (resource_up_to-either b a (ap not h));
  follows = λ a b c h e. not-true (resource_before c a)
      (resource_up_to-trans a b c (not_from_false (resource_before b a) h) (not_from_false (resource_before c b) e));
  ties = tied;
}

-- ---- what stands in front of a resource

pub before_front : (r a b : Resource) → resource_up_to a b ≡ true → resource_before b r ≡ true
    → resource_before a r ≡ true
before_front r a b h e = true_from_ne_false (resource_before a r)
    (λ f. false≢true (sym (resource_order.follows r a b f (not-true (resource_before b a) h)) ∙ e))
