-- The entries of a map: copied in their order, and changed.
use Rattle.cache_dir.proofs.Imports.{arith, ◌≡◌, ℕ, Bool, true, false, nat_eq, cond, List, [], ◌∷◌, ◌++◌, None, Some, map, refl, sym, ap, ◌∙◌, subst, append_assoc, append-nil, IsDistinct, keys_of, lookup, RetainsPairs, pointwise, nat_list_eq_equiv, false≢true, NonePasses, none_past_head}

abbrev pub Entries : Type 0 → Type 0
Entries X = List (List ℕ × X)

abbrev pub same : List ℕ → List ℕ → Bool
same = pointwise nat_eq

module _ {X : Type 0} where
  rest_apart : (e : List ℕ × X) (es : Entries X) → IsDistinct same (keys_of (e ∷ es)) → IsDistinct same (keys_of es)
  unfolding IsDistinct
  rest_apart e es u = u.1

  none_at : (p : List ℕ → Bool) (front : Entries X) (e : List ℕ × X) (back : Entries X)
      → NonePasses p (front ++ e ∷ back) → p e.0 ≡ false
  none_at p [] e back none = none.0
  none_at p (x ∷ front) e back none = none_at p front e back none.1

  -- no key in front of one is the same
  pub apart_in_front : (front : Entries X) (e : List ℕ × X) (back : Entries X)
      → IsDistinct same (keys_of (front ++ e ∷ back)) → lookup (same e.0) front ≡ None
  apart_in_front [] e back u = refl
  apart_in_front (x ∷ front) e back u =
      go (same e.0 x.0) refl (apart_in_front front e back (rest_apart x (front ++ e ∷ back) u))
    where
      go : (b : Bool) → same e.0 x.0 ≡ b → lookup (same e.0) front ≡ None
          → cond b (Some x.1) (lookup (same e.0) front) ≡ None
      go true h ih = absurd (false≢true (sym (none_at (same x.0) front e back (none_past_head nat_list_eq_equiv
          x.0 x (front ++ e ∷ back) u (nat_list_eq_equiv.refl x.0))) ∙ nat_list_eq_equiv.symm x.0 e.0 ∙ h))
      go false h ih = ih

  -- the next one goes behind what is copied
  pub copy_moved : (done left rest next whole : Entries X) (e : List ℕ × X) → left ≡ e ∷ rest
      → next ≡ done ++ e ∷ [] → done ++ left ≡ whole → next ++ rest ≡ whole
  copy_moved done left rest next whole e taken put seam =
      ap (λ l. l ++ rest) put ∙ append_assoc done (e ∷ []) rest ∙ ap (λ l. done ++ l) (sym taken) ∙ seam

  pub copy_absent : (done left rest whole : Entries X) (e : List ℕ × X) → left ≡ e ∷ rest → done ++ left ≡ whole
      → IsDistinct same (keys_of whole) → lookup (same e.0) done ≡ None
  copy_absent done left rest whole e taken seam u = grind (arith, apart_in_front)

  pub copy_all : (done left whole : Entries X) → left ≡ [] → done ++ left ≡ whole → done ≡ whole
  copy_all done left whole none seam = sym (append-nil done) ∙ ap (λ l. done ++ l) (sym none) ∙ seam

  -- ---- each value is changed by one function

  abbrev pub changed_values : (X → X) → Entries X → Entries X
  changed_values g es = map (λ e. (e.0, g e.1)) es

-- what `retain` leaves, where the closure keeps everything and changes each value
pub changed-RetainsPairs : {X F : Type 0} (T : F → List ℕ → X → Bool → X → F → Type 0) (g : X → X) (f : F)
    → ((k : List ℕ) (v : X) (b : Bool) (w : X) (h : F) → T f k v b w h → (b ≡ true) × (w ≡ g v) × (h ≡ f))
    → (es kept : Entries X) → RetainsPairs T f es kept → kept ≡ changed_values g es
changed-RetainsPairs T g f says [] kept h = h
changed-RetainsPairs T g f says (e ∷ es) kept h =
    let s = says e.0 e.1 h.0 h.1 h.2 h.4 in
    let rest = changed-RetainsPairs T g f says es h.3 (subst (λ k. RetainsPairs T k es h.3) s.2 h.5) in
    h.6 ∙ (λ j. cond (s.0 j) ((e.0, s.1 j) ∷ rest j) (rest j))
