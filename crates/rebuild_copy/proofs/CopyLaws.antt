-- Engines that are filled by items, one after another.
use Rattle.rebuild_copy.proofs.Imports.{◌≡◌, ℕ, ◌+◌, ◌-◌, ◌<◌, List, [], ◌∷◌, ◌++◌, Some, Result, Ok, Err, OnOk, OnErr, length, take, drop, slice_get, ⊎_elim, sym, ap, ◌∙◌, subst, arith, append_assoc, Bool, drop_all, fold-append, slice_get_cases, Caps, Kind, Shape, Meaning, Held, new_held, items_of, with_item, without_last_item, Fits, IsNoMore, IsNextItem, content_of_items, take_next, split_next, Copy, copy_in, IsFilled, IsCopyOf, with_next}

-- what needs no more fits as well
fits_less : (kind : Kind) (need other caps : Caps) → IsNoMore need other → Fits kind other caps → Fits kind need caps
fits_less Kind.Cache need other caps less fits = (omega (arith, less.0, fits.0), omega (arith, less.1, fits.1))
fits_less (Kind.List headers locks refs) need other caps less fits =
    (omega (arith, less.0, fits.0), omega (arith, less.1, fits.1))
fits_less Kind.Lock need other caps less fits = omega (arith, less.1, fits)

-- a list that isn't empty ends with an element
ends_so : {X : Type 0} (xs : List X) (k : ℕ) → length xs ≡ k + 1 → (x : X) → slice_get xs k ≡ Some x
    → xs ≡ take k xs ++ x ∷ []
ends_so xs k long x at =
    split_next xs k x at ∙ ap (λ l. take k xs ++ x ∷ l) (drop_all (k + 1) xs (omega (arith, long)))

ends_with : {X : Type 0} (xs : List X) → 0 < length xs → (x : X) × (xs ≡ take (length xs - 1) xs ++ x ∷ [])
ends_with xs some = ⊎_elim (λ found. (found.0, ends_so xs (length xs - 1) (omega (arith, some)) found.0 found.2))
    (λ past. absurd (omega (arith, some, past.0))) (slice_get_cases xs (length xs - 1)).1

module _ {C R I S : Type 0} (meaning : Meaning C R I S) (is_kind : Kind → Bool)
    (IsContent : Shape → Caps → S → Type 0) where
  -- what every engine promises of items
  abbrev pub ItemsFront : Type 0
  ItemsFront = (shape : Shape) (caps : Caps) (state : S) (front others : List I) → IsContent shape caps state
      → meaning.items shape state ≡ front ++ others → meaning.items shape (content_of_items meaning shape front) ≡ front

  abbrev pub UnplaceFront : Type 0
  UnplaceFront = (shape : Shape) (caps : Caps) (state : S) (front : List I) (item : I) (others : List I)
      → IsContent shape caps state → meaning.items shape state ≡ front ++ item ∷ others → meaning.unplace
      shape (content_of_items meaning shape (front ++ item ∷ [])) ≡ content_of_items meaning shape front

  abbrev pub NeedFirst : Type 0
  NeedFirst = (items others : List I) → IsNoMore (meaning.need items) (meaning.need (items ++ others))

  -- a new engine has no item, and what it was made with is its capacity
  pub started : ((shape : Shape) (caps : Caps) → IsContent shape caps (meaning.empty shape))
      → ((shape : Shape) → meaning.items shape (meaning.empty shape) ≡ []) → (held : Held S)
      → held ≡ new_held meaning held.shape held.caps → IsFilled meaning IsContent held
  started content_empty items_empty held new =
      let state : held.state ≡ meaning.empty held.shape = ap (λ (h : Held S). h.state) new in
      let none : items_of meaning held ≡ [] = ap (meaning.items held.shape) state ∙ items_empty held.shape in
      record {
        at = held.caps;
        whole = meaning.empty held.shape;
        others = [];
        content = content_empty held.shape held.caps;
        first = items_empty held.shape ∙ ap (λ (l : List I). l ++ []) (sym none);
        alone = ap (content_of_items meaning held.shape) none ∙ sym state;
        unaltered = ap (λ (h : Held S). h.base) new;
      }

  module _ (items_front : ItemsFront) (unplace_front : UnplaceFront) (need_first : NeedFirst) where
    made_push : (shape : Shape) (front : List I) (item : I) → content_of_items meaning shape
        (front ++ item ∷ []) ≡ meaning.place shape (content_of_items meaning shape front) item
    made_push shape front item = fold-append (meaning.place shape) (meaning.empty shape) front (item ∷ [])

    -- ---- an engine that is filled

    -- an old engine's content as one of the copy's shape
    reshaped : (copy : Copy I) (old : Held S) → IsCopyOf meaning is_kind IsContent copy old
        → IsCopyOf meaning is_kind IsContent copy (record old { shape = copy.shape })
    reshaped copy old is =
        subst (λ (s : Shape). IsCopyOf meaning is_kind IsContent copy (record old { shape = s })) (sym is.shape) is

    module _ (new old : Held S) (full : IsFilled meaning IsContent new) (copy : Copy I)
        (seen : copy_in meaning new ≡ copy) (copies : IsCopyOf meaning is_kind IsContent copy old) (item : I)
        (at : slice_get (items_of meaning old) (length (items_of meaning new)) ≡ Some item) where
      is : IsCopyOf meaning is_kind IsContent (copy_in meaning new) old
      is = subst (λ (c : Copy I). IsCopyOf meaning is_kind IsContent c old) (sym seen) copies

      here : IsCopyOf meaning is_kind IsContent (copy_in meaning new) (record old { shape = new.shape })
      here = reshaped (copy_in meaning new) old is

      abbrev all : List I
      all = meaning.items new.shape old.state

      abbrev rest : List I
      rest = drop (length (items_of meaning new) + 1) all

      split : all ≡ items_of meaning new ++ item ∷ rest
      split = grind (arith, split_next)

      -- the next item can be placed
      pub place-next : IsNextItem meaning IsContent new.shape new.state item
      place-next = grind (arith, split)

      pub place-fits : Fits new.shape.kind (meaning.need (items_of meaning new ++ item ∷ [])) new.caps
      place-fits = fits_less new.shape.kind (meaning.need (items_of meaning new ++ item ∷ [])) (meaning.need all)
          new.caps (subst (λ (l : List I). IsNoMore (meaning.need (items_of meaning new ++ item ∷ []))
          (meaning.need l)) (append_assoc (items_of meaning new) (item ∷ []) rest ∙ sym split)
          (need_first (items_of meaning new ++ item ∷ []) rest)) here.fits

      -- with the next item it is what the first items make, with that one
      placed_state : content_of_items meaning new.shape (items_of meaning new ++ item ∷ [])
          ≡ meaning.place new.shape new.state item
      placed_state = grind (arith, made_push)

      split_behind : all ≡ (items_of meaning new ++ item ∷ []) ++ rest
      split_behind = split ∙ sym (append_assoc (items_of meaning new) (item ∷ []) rest)

      pub placed-items : items_of meaning (with_item meaning new item) ≡ items_of meaning new ++ item ∷ []
      placed-items = grind (arith, placed_state, split_behind)

      pub placed-filled : IsFilled meaning IsContent (with_item meaning new item)
      placed-filled = grind (arith, split_behind, placed-items, placed_state)

      pub placed-copy : copy_in meaning (with_item meaning new item) ≡ with_next meaning 1 old (copy_in meaning new)
      placed-copy = grind (arith, placed-items, take_next)

      -- whether or not the item could be placed
      pub after-place : {X Y : Type 0} (result : Result X Y) (after : Held S) → OnOk result
          (after ≡ with_item meaning new item) → OnErr result (after ≡ new) → IsFilled meaning IsContent after
      after-place (Ok x) after ok err = subst (IsFilled meaning IsContent) (sym ok) placed-filled
      after-place (Err x) after ok err = subst (IsFilled meaning IsContent) (sym err) full

      pub copied-one : (after : Held S) → after ≡ with_item meaning new item
          → copy_in meaning after ≡ with_next meaning 1 old copy
      copied-one after ok = ap (copy_in meaning) ok ∙ placed-copy ∙ ap (with_next meaning 1 old) seen

    module _ (held : Held S) (full : IsFilled meaning IsContent held) (some : 0 < length (items_of meaning held)) where
      abbrev front : List I
      front = take (length (items_of meaning held) - 1) (items_of meaning held)

      last : (item : I) × (items_of meaning held ≡ front ++ item ∷ [])
      last = ends_with (items_of meaning held) some

      whole_split : meaning.items held.shape full.whole ≡ front ++ last.0 ∷ full.others
      whole_split = grind (arith, append_assoc)

      state_left : meaning.unplace held.shape held.state ≡ content_of_items meaning held.shape front
      state_left = grind (arith, whole_split)

      pub dropped-items : items_of meaning (without_last_item meaning held) ≡ front
      dropped-items = grind (arith, state_left, whole_split)

      pub dropped-filled : IsFilled meaning IsContent (without_last_item meaning held)
      dropped-filled = grind (arith, whole_split, dropped-items, state_left)

      pub dropped-one : (after : Held S) (copy : Copy I) → copy_in meaning held ≡ copy → after ≡ without_last_item
          meaning held → copy_in meaning after ≡ record copy { items = take (length copy.items - 1) copy.items }
      dropped-one after copy seen same = grind (arith, dropped-items)
