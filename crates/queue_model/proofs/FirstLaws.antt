-- The laws of items where there may be one in front of the inner ones, from those of the inner ones. `meaning` is any
-- meaning over contents with more beside them whose parts for items are those of `Items`.
use Rattle.std.proofs.Common.{◌≡◌, Bool, true, false, cond, IsTrue, List, [], ◌∷◌, ◌++◌, Option, None, Some, refl, sym, ap, ◌∙◌, subst, append_assoc}
use Rattle.std.specs.Prelude.{fold}
use Rattle.std.specs.List.{filter_map}
use Rattle.std.proofs.lemmas.List.Elements.{filter_map-append}
use Rattle.cf_types.specs.declared.forms.Caps.{Caps}
use Rattle.cf_types.specs.declared.forms.Kind.{Kind}
use Rattle.engine_api.specs.declared.shapes.Shape.{Shape}
use Rattle.engine_api.specs.Items.{Fits, IsNoMore, content_of_items}
use Rattle.engine_api.specs.Meaning.{Meaning}
use Rattle.engine_api.proofs.FrontLaws.{FrontLaws}
use Rattle.queue_model.specs.declared.items.Beside.{Beside}
use Rattle.queue_model.specs.declared.items.FirstItem.{FirstItem}
use Rattle.queue_model.specs.declared.items.FirstItem.TheVariants.{More, Inner}
use Rattle.queue_model.specs.FirstItems.{inner_of, inner_items, inners, front_with, IsTold, IsBeside, items_with, place_with, unplace_with, unplaced, need_with}

-- ---- lists of items

inner-inners : (X : Type 0) {I : Type 0} (items : List I) → inner_items {X = X} (inners items) ≡ items
inner-inners X [] = refl
inner-inners X (item ∷ items) = ap (λ (l : List _). item ∷ l) (inner-inners X items)

tail_same : {X : Type 0} (x y : X) (xs ys : List X) → x ∷ xs ≡ y ∷ ys → xs ≡ ys
tail_same x y xs ys e = cc

head_same : {X : Type 0} (x y : X) (xs ys : List X) → x ∷ xs ≡ y ∷ ys → x ≡ y
head_same x y xs ys e = cc

item_same : {X I : Type 0} (x y : I) → Path (FirstItem X I) (Inner x) (Inner y) → x ≡ y
item_same x y e = cc

-- a front of inner items are inner items
record Cut {X I : Type 0} (items : List I) (front others : List (FirstItem X I)) : Type 0 where
  first : List I
  rest : List I
  items_are : items ≡ first ++ rest
  front_is : front ≡ inners first
  others_are : others ≡ inners rest

cut_at : {X I : Type 0} (items : List I) (front others : List (FirstItem X I)) → inners items ≡ front ++ others
    → Cut items front others
cut_at items [] others split =
    record { first = []; rest = items; items_are = refl; front_is = refl; others_are = sym split }
cut_at [] (x ∷ front) others split = absurd cc
cut_at (item ∷ items) (x ∷ front) others split =
    let more = cut_at items front others (tail_same _ _ _ _ split) in
    record {
      first = item ∷ more.first;
      rest = more.rest;
      items_are = ap (λ (l : List _). item ∷ l) more.items_are;
      front_is = ap (λ (y : FirstItem _ _). y ∷ front) (sym (head_same _ _ _ _ split))
          ∙ ap (λ (l : List (FirstItem _ _)). Inner item ∷ l) more.front_is;
      others_are = more.others_are;
    }

module _ {X : Type 0} (nothing : X) (is_nothing : X → Bool) (nothing_is : is_nothing nothing ≡ true)
    (Keeps : X → Type 0) (kept_nothing : Keeps nothing)
    (told : (more : X) → Keeps more → IsTold nothing is_nothing more)
    {C R I S : Type 0} (inner : Meaning C R I S) (is_kind : Kind → Bool) (IsContent : Shape → Caps → S → Type 0)
    (laws : FrontLaws inner is_kind IsContent) where
  abbrev At : Type 0
  At = Beside S X

  abbrev made : Shape → List (FirstItem X I) → At
  made shape items =
      fold (place_with nothing is_nothing inner shape) (record { inner = inner.empty shape; more = nothing }) items

  -- inner items make the inner content
  made_inners : (shape : Shape) (more : X) (state : S) (items : List I)
      → fold (place_with nothing is_nothing inner shape) (record { inner = state; more = more }) (inners items)
      ≡ record { inner = fold (inner.place shape) state items; more = more }
  made_inners shape more state [] = refl
  made_inners shape more state (item ∷ items) = made_inners shape more (inner.place shape state item) items

  -- ---- the two forms of a front

  -- a front is one of the inner items, behind what is beside the content where that is told
  data Front (shape : Shape) (state : At) (front others : List (FirstItem X I)) : Type 0 where
    Without : (first rest : List I) → inner.items shape state.inner ≡ first ++ rest → front ≡ inners first
        → others ≡ inners rest → is_nothing state.more ≡ true → Front shape state front others
    NoItem : front ≡ [] → is_nothing state.more ≡ false → Front shape state front others
    With : (first rest : List I) → inner.items shape state.inner ≡ first ++ rest
        → front ≡ More state.more ∷ inners first → others ≡ inners rest → is_nothing state.more ≡ false
        → Front shape state front others

  front_of : (shape : Shape) (state : At) (front others : List (FirstItem X I))
      → items_with nothing is_nothing inner shape state ≡ front ++ others → Front shape state front others
  front_of shape state front others split = go (is_nothing state.more) refl front split
    where
      go : (b : Bool) → is_nothing state.more ≡ b → (front : List (FirstItem X I))
          → cond b (inners (inner.items shape state.inner)) (More state.more ∷ inners (inner.items shape state.inner))
          ≡ front ++ others
          → Front shape state front others
      go true is front split =
          let cut = cut_at (inner.items shape state.inner) front others split in
          Without cut.first cut.rest cut.items_are cut.front_is cut.others_are is
      go false is [] split = NoItem refl is
      go false is (x ∷ front) split =
          let cut = cut_at (inner.items shape state.inner) front others (tail_same _ _ _ _ split) in
          With cut.first cut.rest cut.items_are
          (ap (λ (y : FirstItem X I). y ∷ front) (sym (head_same _ _ _ _ split))
          ∙ ap (λ (l : List (FirstItem X I)). More state.more ∷ l) cut.front_is) cut.others_are is

  with_test : (more : X) (items : List I) (b : Bool) → is_nothing more ≡ b
      → front_with nothing is_nothing more items ≡ cond b (inners items) (More more ∷ inners items)
  with_test more items b is =
      ap (λ (c : Bool). cond c (inners items) (More more ∷ inners items)) is

  -- ---- the laws

  pub items-front : (shape : Shape) (caps : Caps) (state : At) (front others : List (FirstItem X I))
      → IsBeside nothing is_nothing Keeps IsContent shape caps state
      → items_with nothing is_nothing inner shape state ≡ front ++ others
      → items_with nothing is_nothing inner shape (made shape front) ≡ front
  items-front shape caps state front others is split = go (front_of shape state front others split)
    where
      go : Front shape state front others → items_with nothing is_nothing inner shape (made shape front) ≡ front
      go (Without first rest items front_is others_are none) =
          subst (λ (f : List (FirstItem X I)). items_with nothing is_nothing inner shape (made shape f) ≡ f)
          (sym front_is)
          (ap (items_with nothing is_nothing inner shape) (made_inners shape nothing (inner.empty shape) first)
          ∙ with_test nothing (inner.items shape (content_of_items inner shape first)) true nothing_is
          ∙ ap inners (laws.items_front shape caps state.inner first rest is.inner items))
      go (NoItem front_is some) =
          subst (λ (f : List (FirstItem X I)). items_with nothing is_nothing inner shape (made shape f) ≡ f)
          (sym front_is)
          (with_test nothing (inner.items shape (inner.empty shape)) true nothing_is
          ∙ ap inners (laws.items_front shape caps state.inner [] (inner.items shape state.inner) is.inner refl))
      go (With first rest items front_is others_are some) =
          subst (λ (f : List (FirstItem X I)). items_with nothing is_nothing inner shape (made shape f) ≡ f)
          (sym front_is)
          (ap (items_with nothing is_nothing inner shape) (made_inners shape state.more (inner.empty shape) first)
          ∙ with_test state.more (inner.items shape (content_of_items inner shape first)) false some
          ∙ ap (λ (l : List I). More state.more ∷ inners l)
          (laws.items_front shape caps state.inner first rest is.inner items))

  pub content-front : (shape : Shape) (caps other : Caps) (state : At) (front others : List (FirstItem X I))
      → IsTrue (is_kind shape.kind) → IsBeside nothing is_nothing Keeps IsContent shape caps state
      → items_with nothing is_nothing inner shape state ≡ front ++ others
      → Fits shape.kind (need_with nothing is_nothing inner front) other
      → IsBeside nothing is_nothing Keeps IsContent shape other (made shape front)
  content-front shape caps other state front others kind is split fits = go (front_of shape state front others split)
    where
      inside : (first rest : List I) → inner.items shape state.inner ≡ first ++ rest
          → inner_items front ≡ first → IsContent shape other (content_of_items inner shape first)
      inside first rest items same =
          laws.content_front shape caps other state.inner first rest kind is.inner items
          (subst (λ (l : List I). Fits shape.kind (inner.need l) other) same fits)

      go : Front shape state front others → IsBeside nothing is_nothing Keeps IsContent shape other (made shape front)
      go (Without first rest items front_is others_are none) =
          let there = inside first rest items (ap inner_items front_is ∙ inner-inners X first) in
          subst (IsBeside nothing is_nothing Keeps IsContent shape other)
          (sym (ap (made shape) front_is ∙ made_inners shape nothing (inner.empty shape) first))
          (record { inner = there; kept = kept_nothing })
      go (NoItem front_is some) =
          let there = inside [] (inner.items shape state.inner) refl (ap inner_items front_is) in
          subst (IsBeside nothing is_nothing Keeps IsContent shape other) (sym (ap (made shape) front_is))
          (record { inner = there; kept = kept_nothing })
      go (With first rest items front_is others_are some) =
          let there = inside first rest items (ap inner_items front_is ∙ inner-inners X first) in
          subst (IsBeside nothing is_nothing Keeps IsContent shape other)
          (sym (ap (made shape) front_is ∙ made_inners shape state.more (inner.empty shape) first))
          (record { inner = there; kept = is.kept })

  -- a content is made again, with what is beside it
  pub made-again : (shape : Shape) (caps : Caps) (state : At) → IsBeside nothing is_nothing Keeps IsContent shape caps state
      → made shape (items_with nothing is_nothing inner shape state)
      ≡ record { inner = inner.forget state.inner; more = state.more }
  made-again shape caps state is = go (is_nothing state.more) refl
    where
      again : content_of_items inner shape (inner.items shape state.inner) ≡ inner.forget state.inner
      again = laws.made_again shape caps state.inner is.inner

      go : (b : Bool) → is_nothing state.more ≡ b
          → made shape (cond b (inners (inner.items shape state.inner))
          (More state.more ∷ inners (inner.items shape state.inner)))
          ≡ record { inner = inner.forget state.inner; more = state.more }
      go true none =
          made_inners shape nothing (inner.empty shape) (inner.items shape state.inner)
          ∙ ap (λ (s : S). record { inner = s; more = nothing }) again
          ∙ ap (λ (x : X). record { inner = inner.forget state.inner; more = x }) (sym (told state.more is.kept none))
      go false some =
          made_inners shape state.more (inner.empty shape) (inner.items shape state.inner)
          ∙ ap (λ (s : S). record { inner = s; more = state.more }) again

  pub need-first : ((items others : List I) → IsNoMore (inner.need items) (inner.need (items ++ others)))
      → (items others : List (FirstItem X I))
      → IsNoMore (need_with nothing is_nothing inner items) (need_with nothing is_nothing inner (items ++ others))
  need-first first items others =
      subst (λ (l : List I). IsNoMore (inner.need (inner_items items)) (inner.need l))
      (sym (filter_map-append inner_of items others)) (first (inner_items items) (inner_items others))

  -- ---- the last item of a front goes

  abbrev less : Shape → At → At
  less = unplace_with nothing is_nothing inner

  unplaced_some : (shape : Shape) (state : At) (items first : List I) (item : I) → items ≡ first ++ item ∷ []
      → unplaced nothing is_nothing inner shape state items
      ≡ record { inner = inner.unplace shape state.inner; more = state.more }
  unplaced_some shape state items [] item is =
      ap (unplaced nothing is_nothing inner shape state) is
  unplaced_some shape state items (x ∷ first) item is =
      ap (unplaced nothing is_nothing inner shape state) is

  unplaced_none : (shape : Shape) (state : At) (items : List I) → items ≡ []
      → unplaced nothing is_nothing inner shape state items ≡ record { inner = state.inner; more = nothing }
  unplaced_none shape state items is = ap (unplaced nothing is_nothing inner shape state) is

  inners-push : (first : List I) (item : I) → inners {X = X} first ++ Inner item ∷ [] ≡ inners (first ++ item ∷ [])
  inners-push [] item = refl
  inners-push (x ∷ first) item = ap (λ (l : List (FirstItem X I)). Inner x ∷ l) (inners-push first item)

  -- the last inner item of a front
  last_inner : (shape : Shape) (caps : Caps) (state : At) (more : X) (first : List I) (item : I) (rest : List I)
      → IsContent shape caps state.inner → inner.items shape state.inner ≡ first ++ item ∷ rest
      → less shape (record { inner = content_of_items inner shape (first ++ item ∷ []); more = more })
      ≡ record { inner = content_of_items inner shape first; more = more }
  last_inner shape caps state more first item rest is items =
      unplaced_some shape (record { inner = content_of_items inner shape (first ++ item ∷ []); more = more })
      (inner.items shape (content_of_items inner shape (first ++ item ∷ []))) first item
      (laws.items_front shape caps state.inner (first ++ item ∷ []) rest is
      (items ∙ sym (append_assoc first (item ∷ []) rest)))
      ∙ ap (λ (s : S). record { inner = s; more = more })
      (laws.unplace_front shape caps state.inner first item rest is items)

  -- what is behind a front of inner items begins with one
  record Next (rest : List I) (item : FirstItem X I) : Type 0 where
    one : I
    behind : List I
    rest_is : rest ≡ one ∷ behind
    item_is : item ≡ Inner one

  next_in : (rest : List I) (item : FirstItem X I) (others : List (FirstItem X I)) → item ∷ others ≡ inners rest
      → Next rest item
  next_in [] item others e = absurd cc
  next_in (one ∷ behind) item others e =
      record { one = one; behind = behind; rest_is = refl; item_is = head_same _ _ _ _ e }

  pub unplace-front : (shape : Shape) (caps : Caps) (state : At) (front : List (FirstItem X I))
      (item : FirstItem X I) (others : List (FirstItem X I))
      → IsBeside nothing is_nothing Keeps IsContent shape caps state
      → items_with nothing is_nothing inner shape state ≡ front ++ item ∷ others
      → less shape (made shape (front ++ item ∷ [])) ≡ made shape front
  unplace-front shape caps state front item others is split = go (front_of shape state front (item ∷ others) split)
    where
      go : Front shape state front (item ∷ others)
          → less shape (made shape (front ++ item ∷ [])) ≡ made shape front
      go (Without first rest items front_is others_are none) =
          let next = next_in rest item others others_are in
          let longer : front ++ item ∷ [] ≡ inners (first ++ next.one ∷ []) =
          ap (λ (f : List (FirstItem X I)). f ++ item ∷ []) front_is
          ∙ ap (λ (i : FirstItem X I). inners first ++ i ∷ []) next.item_is ∙ inners-push first next.one in
          ap (λ (f : List (FirstItem X I)). less shape (made shape f)) longer
          ∙ ap (less shape) (made_inners shape nothing (inner.empty shape) (first ++ next.one ∷ []))
          ∙ last_inner shape caps state nothing first next.one next.behind is.inner
          (items ∙ ap (λ (l : List I). first ++ l) next.rest_is)
          ∙ sym (made_inners shape nothing (inner.empty shape) first)
          ∙ ap (made shape) (sym front_is)
      go (NoItem front_is some) =
          let whole : item ∷ others ≡ More state.more ∷ inners (inner.items shape state.inner) =
          sym (ap (λ (f : List (FirstItem X I)). f ++ item ∷ others) front_is) ∙ sym split
          ∙ with_test state.more (inner.items shape state.inner) false some in
          let item_is : item ≡ More state.more = head_same _ _ _ _ whole in
          ap (λ (f : List (FirstItem X I)). less shape (made shape (f ++ item ∷ []))) front_is
          ∙ ap (λ (i : FirstItem X I). less shape (made shape (i ∷ []))) item_is
          ∙ unplaced_none shape (record { inner = inner.empty shape; more = state.more })
          (inner.items shape (inner.empty shape))
          (laws.items_front shape caps state.inner [] (inner.items shape state.inner) is.inner refl)
          ∙ ap (made shape) (sym front_is)
      go (With first rest items front_is others_are some) =
          let next = next_in rest item others others_are in
          let longer : front ++ item ∷ [] ≡ More state.more ∷ inners (first ++ next.one ∷ []) =
          ap (λ (f : List (FirstItem X I)). f ++ item ∷ []) front_is
          ∙ ap (λ (i : FirstItem X I). More state.more ∷ (inners first ++ i ∷ [])) next.item_is
          ∙ ap (λ (l : List (FirstItem X I)). More state.more ∷ l) (inners-push first next.one) in
          ap (λ (f : List (FirstItem X I)). less shape (made shape f)) longer
          ∙ ap (less shape) (made_inners shape state.more (inner.empty shape) (first ++ next.one ∷ []))
          ∙ last_inner shape caps state state.more first next.one next.behind is.inner
          (items ∙ ap (λ (l : List I). first ++ l) next.rest_is)
          ∙ sym (made_inners shape state.more (inner.empty shape) first)
          ∙ ap (made shape) (sym front_is)

  -- ---- the next item, and what has just its items

  -- the inner ones of all items
  pub inner-of-items : (shape : Shape) (state : At)
      → inner_items (items_with nothing is_nothing inner shape state) ≡ inner.items shape state.inner
  inner-of-items shape state = go (is_nothing state.more)
    where
      go : (b : Bool) → inner_items (cond b (inners (inner.items shape state.inner))
          (More state.more ∷ inners (inner.items shape state.inner))) ≡ inner.items shape state.inner
      go true = inner-inners X (inner.items shape state.inner)
      go false = inner-inners X (inner.items shape state.inner)

  -- behind all items comes an inner one
  pub inner-next : (shape : Shape) (whole state : At) (item : I) (others : List (FirstItem X I))
      → items_with nothing is_nothing inner shape whole
      ≡ items_with nothing is_nothing inner shape state ++ Inner item ∷ others
      → inner.items shape whole.inner ≡ inner.items shape state.inner ++ item ∷ inner_items others
  inner-next shape whole state item others split =
      sym (inner-of-items shape whole) ∙ ap inner_items split
      ∙ filter_map-append inner_of (items_with nothing is_nothing inner shape state) (Inner item ∷ others)
      ∙ ap (λ (l : List I). l ++ item ∷ inner_items others) (inner-of-items shape state)

  -- what has just its items has just the inner ones inside
  pub alone-inner : (shape : Shape) (state : At) → made shape (items_with nothing is_nothing inner shape state) ≡ state
      → content_of_items inner shape (inner.items shape state.inner) ≡ state.inner
  alone-inner shape state is = inside (is_nothing state.more) ∙ ap (λ (s : At). s.inner) is
    where
      inside : (b : Bool) → content_of_items inner shape (inner.items shape state.inner)
          ≡ (made shape (cond b (inners (inner.items shape state.inner))
          (More state.more ∷ inners (inner.items shape state.inner)))).inner
      inside true = ap (λ (s : At). s.inner)
          (sym (made_inners shape nothing (inner.empty shape) (inner.items shape state.inner)))
      inside false = ap (λ (s : At). s.inner)
          (sym (made_inners shape state.more (inner.empty shape) (inner.items shape state.inner)))

  -- where what is beside a content comes next, it is what is beside the whole
  abbrev more_of : FirstItem X I → Option X
  more_of (More x) = Some x
  more_of (Inner item) = None

  abbrev more_items : List (FirstItem X I) → List X
  more_items items = filter_map more_of items

  no_more : (items : List I) → more_items (inners items) ≡ []
  no_more [] = refl
  no_more (item ∷ items) = no_more items

  none_is : (y : X) (xs ys : List X) → [] ≡ xs ++ y ∷ ys → ⊥
  none_is y [] ys e = cc
  none_is y (x ∷ xs) ys e = cc

  one_is : (x y : X) (xs ys : List X) → x ∷ [] ≡ xs ++ y ∷ ys → x ≡ y
  one_is x y [] ys e = head_same _ _ _ _ e
  one_is x y (z ∷ xs) ys e = absurd (none_is y xs ys (tail_same _ _ _ _ e))

  more_in : (more : X) (items : List I) (b : Bool) → more_items (cond b (inners items) (More more ∷ inners items))
      ≡ cond b [] (more ∷ [])
  more_in more items true = no_more items
  more_in more items false = ap (λ (l : List X). more ∷ l) (no_more items)

  pub more-next : (shape : Shape) (whole state : At) (more : X) (others : List (FirstItem X I))
      → items_with nothing is_nothing inner shape whole
      ≡ items_with nothing is_nothing inner shape state ++ More more ∷ others → whole.more ≡ more
  more-next shape whole state more others split = go (is_nothing whole.more)
      (sym (more_in whole.more (inner.items shape whole.inner) (is_nothing whole.more)) ∙ ap more_items split
      ∙ filter_map-append more_of (items_with nothing is_nothing inner shape state) (More more ∷ others))
    where
      go : (b : Bool) → cond b [] (whole.more ∷ [])
          ≡ more_items (items_with nothing is_nothing inner shape state) ++ more ∷ more_items others
          → whole.more ≡ more
      go true e = absurd (none_is more _ _ e)
      go false e = one_is whole.more more _ _ e
