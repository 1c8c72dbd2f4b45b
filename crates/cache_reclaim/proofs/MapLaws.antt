-- A map of names that is copied in its order.
use Rattle.cache_reclaim.proofs.Imports.{arith, ◌≡◌, ℕ, Bool, true, false, nat_eq, cond, List, [], ◌∷◌, ◌++◌, None, Some, refl, sym, ap, ◌∙◌, append_assoc, append-nil, IsDistinct, keys_of, lookup, pointwise, nat_list_eq_equiv, false≢true, NonePasses, none_past_head}

abbrev pub Entries : Type 0
Entries = List (List ℕ × ℕ)

abbrev pub same : List ℕ → List ℕ → Bool
same = pointwise nat_eq

rest_apart : (e : List ℕ × ℕ) (es : Entries) → IsDistinct same (keys_of (e ∷ es)) → IsDistinct same (keys_of es)
unfolding IsDistinct
rest_apart e es u = u.1

none_at : (p : List ℕ → Bool) (front : Entries) (e : List ℕ × ℕ) (back : Entries) → NonePasses p (front ++ e ∷ back)
    → p e.0 ≡ false
none_at p [] e back none = none.0
none_at p (x ∷ front) e back none = none_at p front e back none.1

-- no key in front of one is the same
pub apart_in_front : (front : Entries) (e : List ℕ × ℕ) (back : Entries)
    → IsDistinct same (keys_of (front ++ e ∷ back)) → lookup (same e.0) front ≡ None
apart_in_front [] e back u = refl
apart_in_front (x ∷ front) e back u = go (same e.0 x.0) refl (apart_in_front front e back (grind (arith, rest_apart)))
  where
    go : (b : Bool) → same e.0 x.0 ≡ b → lookup (same e.0) front ≡ None
        → cond b (Some x.1) (lookup (same e.0) front) ≡ None
    go true h ih = absurd (false≢true (sym (none_at (same x.0) front e back (none_past_head nat_list_eq_equiv
        x.0 x (front ++ e ∷ back) u (nat_list_eq_equiv.refl x.0))) ∙ nat_list_eq_equiv.symm x.0 e.0 ∙ h))
    go false h ih = ih

-- the next one goes behind what is copied
pub copy_moved : (done left rest next whole : Entries) (e : List ℕ × ℕ) → left ≡ e ∷ rest → next ≡ done ++ e ∷ []
    → done ++ left ≡ whole → next ++ rest ≡ whole
copy_moved done left rest next whole e taken put seam = grind (arith, append_assoc)

pub copy_absent : (done left rest whole : Entries) (e : List ℕ × ℕ) → left ≡ e ∷ rest → done ++ left ≡ whole
    → IsDistinct same (keys_of whole) → lookup (same e.0) done ≡ None
copy_absent done left rest whole e taken seam u = apart_in_front done e rest (grind arith)

pub copy_all : (done left whole : Entries) → left ≡ [] → done ++ left ≡ whole → done ≡ whole
copy_all done left whole none seam = sym (append-nil done) ∙ ap (λ l. done ++ l) (sym none) ∙ seam
