-- Items where there may be one in front of the inner ones.
use Rattle.std.specs.Prelude.{◌≡◌, Bool, true, if◌then◌else◌, List, [], ◌∷◌, Option, None, Some}
use Rattle.std.specs.List.{filter_map}
use Rattle.cf_types.specs.declared.forms.Caps.{Caps}
use Rattle.engine_api.specs.declared.shapes.Shape.{Shape}
use Rattle.engine_api.specs.Meaning.{Meaning}
use Rattle.queue_model.specs.declared.items.Beside.{Beside}
use Rattle.queue_model.specs.declared.items.FirstItem.{FirstItem}
use Rattle.queue_model.specs.declared.items.FirstItem.TheVariants.{More, Inner}

-- the inner item that an item is
abbrev pub inner_of : {X I : Type 0} → FirstItem X I → Option I
inner_of (More x) = None
inner_of (Inner item) = Some item

abbrev pub inner_items : {X I : Type 0} → List (FirstItem X I) → List I
inner_items items = filter_map inner_of items

abbrev pub inners : {X I : Type 0} → List I → List (FirstItem X I)
inners [] = []
inners (item ∷ items) = Inner item ∷ inners items

-- what is kept beside the content is one item, unless it is nothing
module _ {X : Type 0} (nothing : X) (is_nothing : X → Bool) where
  abbrev pub front_with : {I : Type 0} → X → List I → List (FirstItem X I)
  front_with more items = if is_nothing more then inners items else More more ∷ inners items

  -- where it counts as nothing, it is that
  abbrev pub IsTold : X → Type 0
  IsTold more = is_nothing more ≡ true → more ≡ nothing

  -- an inner content, and beside it what keeps a rule
  pub record IsBeside (Keeps : X → Type 0) {S : Type 0} (IsContent : Shape → Caps → S → Type 0) (shape : Shape)
      (caps : Caps) (state : Beside S X) : Type 0 where
    pub inner : IsContent shape caps state.inner
    pub kept : Keeps state.more

  module _ {C R I S : Type 0} (inner : Meaning C R I S) where
    abbrev pub items_with : Shape → Beside S X → List (FirstItem X I)
    items_with shape state = front_with state.more (inner.items shape state.inner)

    abbrev pub place_with : Shape → Beside S X → FirstItem X I → Beside S X
    place_with shape state (More more) = record state { more = more }
    place_with shape state (Inner item) = record state { inner = inner.place shape state.inner item }

    -- the item in front goes last
    abbrev pub unplaced : Shape → Beside S X → List I → Beside S X
    unplaced shape state [] = record state { more = nothing }
    unplaced shape state (item ∷ items) = record state { inner = inner.unplace shape state.inner }

    abbrev pub unplace_with : Shape → Beside S X → Beside S X
    unplace_with shape state = unplaced shape state (inner.items shape state.inner)

    abbrev pub need_with : List (FirstItem X I) → Caps
    need_with items = inner.need (inner_items items)
