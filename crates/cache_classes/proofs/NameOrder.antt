-- The order of names: it is strict, and of two names one comes first, or they are the same.
use Rattle.cache_classes.proofs.Imports.{arith, ◌≡◌, Bool, true, false, Ordering, refl, sym, ◌∙◌, subst, nat_cmp, is_lt, is_eq, Less, Equal, Greater, slice_cmp, texts_ties, false≢true, Name16, same_name, name_before, same_name-eq, same_name-refl, IsKeyOrder, name_before-trans, name_before-else}

not_before : (o : Ordering) (same : Bool) → same ≡ is_eq o → is_lt o ≡ true → same ≡ false
not_before Less same e h = e
not_before Equal same e h = absurd (false≢true h)
not_before Greater same e h = absurd (false≢true h)

once : (a : Name16) (t : Bool) → name_before a a ≡ t → t ≡ false
once a false e = refl
once a true e = absurd (false≢true
    (sym (not_before (slice_cmp nat_cmp a.0 a.0) (same_name a a) (texts_ties a.0 a.0) e) ∙ same_name-refl a))

asym : (a b : Name16) (t : Bool) → name_before a b ≡ true → name_before b a ≡ t → t ≡ false
asym a b false h e = refl
asym a b true h e = absurd (false≢true (sym (once a (name_before a a) refl) ∙ name_before-trans a b a h e))

follows : (a b c : Name16) (t s : Bool) → name_before b a ≡ false → name_before c b ≡ false → name_before c a ≡ t
    → same_name b a ≡ s → t ≡ false
follows a b c false s h k e f = refl
follows a b c true true h k e f =
    absurd (false≢true (sym k ∙ subst (λ (n : Name16). name_before c n ≡ true) (sym (same_name-eq b a f)) e))
follows a b c true false h k e f = absurd (false≢true (sym k ∙ name_before-trans c a b e (name_before-else b a f h)))

ties : (a b : Name16) (s : Bool) → name_before a b ≡ false → name_before b a ≡ false → same_name b a ≡ s → s ≡ true
ties a b true h k e = refl
ties a b false h k e = absurd (false≢true (sym h ∙ name_before-else b a e k))

pub name_order : IsKeyOrder same_name name_before
name_order = grind (arith, same_name-refl, same_name-eq, once, asym, follows, ties)
