-- The items of a content: what a copy is made of, one after another.
use Rattle.std.specs.Prelude.{◌≡◌, ◌≤◌, List, ◌∷◌, ◌++◌, fold}
use Rattle.cf_types.specs.declared.forms.Caps.{Caps}
use Rattle.cf_types.specs.declared.forms.Kind.{Kind}
use Rattle.cf_types.specs.declared.forms.Kind.TheVariants as kind
use Rattle.engine_api.specs.declared.shapes.Shape.{Shape}
use Rattle.engine_api.specs.Meaning.{Meaning}

-- the need is within the capacity; a lock structure has no limit of interests, and its record data alone decide
abbrev pub Fits : Kind → Caps → Caps → Type 0
Fits kind.Cache need caps = (need.entries ≤ caps.entries) × (need.elements ≤ caps.elements)
Fits (kind.List headers locks refs) need caps = (need.entries ≤ caps.entries) × (need.elements ≤ caps.elements)
Fits kind.Lock need caps = need.elements ≤ caps.elements

-- no more in both numbers
abbrev pub IsNoMore : Caps → Caps → Type 0
IsNoMore need other = (need.entries ≤ other.entries) × (need.elements ≤ other.elements)

-- no more elements, and but for a lock structure no more entries
abbrev pub IsNoMoreOf : Kind → Caps → Caps → Type 0
IsNoMoreOf kind.Cache need other = IsNoMore need other
IsNoMoreOf (kind.List headers locks refs) need other = IsNoMore need other
IsNoMoreOf kind.Lock need other = need.elements ≤ other.elements

module _ {C R I S : Type 0} (meaning : Meaning C R I S) where
  -- the content that these items make
  abbrev pub content_of_items : Shape → List I → S
  content_of_items shape items = fold (meaning.place shape) (meaning.empty shape) items

  -- it has just its items
  abbrev pub IsAlone : Shape → S → Type 0
  IsAlone shape state = content_of_items shape (meaning.items shape state) ≡ state

  -- it has just its items; and these, followed by this one, are the first of some content's, at whatever capacity
  pub record IsNextItem (IsContent : Shape → Caps → S → Type 0) (shape : Shape) (state : S) (item : I) : Type 0 where
    pub at : Caps
    pub whole : S
    pub others : List I
    pub content : IsContent shape at whole
    pub first : meaning.items shape whole ≡ meaning.items shape state ++ item ∷ others
    pub alone : IsAlone shape state
