-- What the first items of a content make: what follows from the laws on it, and how it follows from laws on one item
-- that is placed behind others.
use Rattle.engine_api.proofs.Imports.{arith, ◌≡◌, Bool, IsTrue, List, [], ◌∷◌, ◌++◌, sym, ◌∙◌, subst, append-nil, append_assoc, fold-append, Caps, Kind, Shape, Fits, IsAlone, IsNextItem, content_of_items, Meaning}

module _ {C R I S : Type 0} (meaning : Meaning C R I S) (is_kind : Kind → Bool)
    (IsContent : Shape → Caps → S → Type 0) where
  abbrev made : Shape → List I → S
  made shape front = content_of_items meaning shape front

  -- what every engine promises of items
  pub record FrontLaws : Type 0 where
    pub made_again : (shape : Shape) (caps : Caps) (state : S) → IsContent shape caps state
        → made shape (meaning.items shape state) ≡ meaning.forget state
    pub items_front : (shape : Shape) (caps : Caps) (state : S) (front others : List I) → IsContent shape caps state
        → meaning.items shape state ≡ front ++ others → meaning.items shape (made shape front) ≡ front
    pub content_front : (shape : Shape) (caps other : Caps) (state : S) (front others : List I)
        → IsTrue (is_kind shape.kind) → IsContent shape caps state → meaning.items shape state ≡ front ++ others
        → Fits shape.kind (meaning.need front) other → IsContent shape other (made shape front)
    pub unplace_front : (shape : Shape) (caps : Caps) (state : S) (front : List I) (item : I) (others : List I)
        → IsContent shape caps state → meaning.items shape state ≡ front ++ item ∷ others
        → meaning.unplace shape (made shape (front ++ item ∷ [])) ≡ made shape front

  -- ---- what follows

  module _ (laws : FrontLaws) where
    -- a content whose items fit another capacity is one there, without its registrations
    pub content-moved : (shape : Shape) (caps other : Caps) (state : S) → IsTrue (is_kind shape.kind)
        → IsContent shape caps state → Fits shape.kind (meaning.need (meaning.items shape state)) other
        → IsContent shape other (meaning.forget state)
    content-moved shape caps other state kind is fits =
        subst (IsContent shape other) (laws.made_again shape caps state is) (laws.content_front shape
        caps other state (meaning.items shape state) [] kind is (sym (append-nil (meaning.items shape state))) fits)

    module _ (shape : Shape) (state : S) (item : I) (next : IsNextItem meaning IsContent shape state item) where
      placed_so : made shape (meaning.items shape state ++ item ∷ []) ≡ meaning.place shape state item
      placed_so = grind (arith, fold-append)

      split : meaning.items shape next.whole ≡ (meaning.items shape state ++ item ∷ []) ++ next.others
      split = next.first ∙ sym (append_assoc (meaning.items shape state) (item ∷ []) next.others)

      -- with the next item, where that fits, there is a content
      pub content-placed : (caps : Caps) → IsTrue (is_kind shape.kind) → Fits shape.kind (meaning.need
          (meaning.items shape state ++ item ∷ [])) caps → IsContent shape caps (meaning.place shape state item)
      content-placed caps kind fits = grind (arith, placed_so, split)

  -- ---- from laws on one item

  -- an item comes next where the items so far, followed by it, are the first of a content's
  pub record ComesNext (shape : Shape) (caps : Caps) (state : S) (item : I) : Type 0 where
    pub whole : S
    pub others : List I
    pub content : IsContent shape caps whole
    pub first : meaning.items shape whole ≡ meaning.items shape state ++ item ∷ others
    pub alone : IsAlone meaning shape state

  pub record PlaceLaws : Type 0 where
    pub content_empty : (shape : Shape) (caps : Caps) → IsContent shape caps (meaning.empty shape)
    pub items_empty : (shape : Shape) → meaning.items shape (meaning.empty shape) ≡ []
    pub made_again : (shape : Shape) (caps : Caps) (state : S) → IsContent shape caps state
        → made shape (meaning.items shape state) ≡ meaning.forget state
    pub content_moved : (shape : Shape) (caps other : Caps) (state : S) → IsTrue (is_kind shape.kind)
        → IsContent shape caps state → Fits shape.kind (meaning.need (meaning.items shape state)) other
        → IsContent shape other (meaning.forget state)
    pub content_place : (shape : Shape) (caps : Caps) (state : S) (item : I) → IsContent shape caps state
        → ComesNext shape caps state item → IsContent shape caps (meaning.place shape state item)
    pub items_place : (shape : Shape) (caps : Caps) (state : S) (item : I) → IsContent shape caps state
        → ComesNext shape caps state item
        → meaning.items shape (meaning.place shape state item) ≡ meaning.items shape state ++ item ∷ []
    pub unplace_place : (shape : Shape) (caps : Caps) (state : S) (item : I) → IsContent shape caps state
        → ComesNext shape caps state item → meaning.unplace shape (meaning.place shape state item) ≡ state

  module _ (laws : PlaceLaws) where
    record IsFront (shape : Shape) (caps : Caps) (front : List I) : Type 0 where
      content : IsContent shape caps (made shape front)
      items : meaning.items shape (made shape front) ≡ front

    module _ (shape : Shape) (caps : Caps) (whole : S) (content : IsContent shape caps whole) where
      next_of : (front : List I) (item : I) (others : List I) → meaning.items shape whole ≡ front ++ item ∷ others
          → meaning.items shape (made shape front) ≡ front → ComesNext shape caps (made shape front) item
      next_of front item others split same = grind (arith, split)

      front_with : (front : List I) (item : I) (others : List I) → meaning.items shape whole ≡ front ++ item ∷ others
          → IsFront shape caps front → IsFront shape caps (front ++ item ∷ [])
      front_with front item others split is = grind (arith, next_of, split, fold-append)

      front_longer : (front rest others : List I) → meaning.items shape whole ≡ front ++ (rest ++ others)
          → IsFront shape caps front → IsFront shape caps (front ++ rest)
      front_longer front [] others split is = subst (IsFront shape caps) (sym (append-nil front)) is
      front_longer front (item ∷ rest) others split is = subst (IsFront shape caps)
          (append_assoc front (item ∷ []) rest) (front_longer (front ++ item ∷ []) rest others (split
          ∙ sym (append_assoc front (item ∷ []) (rest ++ others))) (front_with front item (rest ++ others) split is))

      front_of : (front others : List I) → meaning.items shape whole ≡ front ++ others → IsFront shape caps front
      front_of front others split = front_longer [] front others split (grind arith)

      moved_front : (other : Caps) (front others : List I) → IsTrue (is_kind shape.kind) → meaning.items shape whole
          ≡ front ++ others → Fits shape.kind (meaning.need front) other → IsContent shape other (made shape front)
      moved_front other front others kind split fits = grind (arith, front_of, split)

      unplaced_front : (front : List I) (item : I) (others : List I) → meaning.items shape
          whole ≡ front ++ item ∷ others → meaning.unplace shape (made shape (front ++ item ∷ [])) ≡ made shape front
      unplaced_front front item others split = grind (arith, front_of, split, fold-append, next_of)

    pub fronts : FrontLaws
    fronts = record {
      made_again = laws.made_again;
      items_front = λ shape caps state front others is split. (front_of shape caps state is front others split).items;
      content_front = grind (arith, split, moved_front);
      unplace_front = grind (arith, split, unplaced_front);
    }
