-- A copy of what an engine holds, item by item, in a new engine.
use Rattle.std.specs.Prelude.{◌≡◌, ℕ, ◌+◌, ◌-◌, min, Bool, IsTrue, List, ◌++◌, length, take}
use Rattle.cf_types.specs.declared.forms.Caps.{Caps}
use Rattle.cf_types.specs.declared.forms.Kind.{Kind}
use Rattle.engine_api.specs.declared.shapes.Shape.{Shape}
use Rattle.engine_api.specs.Meaning.{Meaning, Held, items_of}
use Rattle.engine_api.specs.Items.{Fits, IsAlone, content_of_items}
use Rattle.rebuild_copy.specs.declared.moved.Moved.{Moved}

-- a new engine as it is filled: its shape, its capacity, and the items so far
pub record Copy (I : Type 0) : Type 0 where
  pub shape : Shape
  pub caps : Caps
  pub items : List I

module _ {C R I S : Type 0} (meaning : Meaning C R I S) where
  abbrev pub copy_in : Held S → Copy I
  copy_in held = record { shape = held.shape; caps = held.caps; items = items_of meaning held }

  -- what an engine holds that has just these items
  abbrev pub held_of : Copy I → Held S
  held_of copy =
      record {
        shape = copy.shape;
        base = copy.caps;
        caps = copy.caps;
        state = content_of_items meaning copy.shape copy.items;
      }

  -- an engine has just its items, and they are the first of some content's, at whatever capacity; its own capacity is
  -- the one that it was made with
  pub record IsFilled (IsContent : Shape → Caps → S → Type 0) (held : Held S) : Type 0 where
    pub at : Caps
    pub whole : S
    pub others : List I
    pub content : IsContent held.shape at whole
    pub first : meaning.items held.shape whole ≡ items_of meaning held ++ others
    pub alone : IsAlone meaning held.shape held.state
    pub unaltered : held.base ≡ held.caps

  -- a copy of the first items of a content of the same shape, all of which fit
  pub record IsCopyOf (is_kind : Kind → Bool) (IsContent : Shape → Caps → S → Type 0) (copy : Copy I) (old : Held S) :
      Type 0 where
    pub shape : copy.shape ≡ old.shape
    pub kind : IsTrue (is_kind old.shape.kind)
    pub content : IsContent old.shape old.caps old.state
    pub first : copy.items ≡ take (length copy.items) (items_of meaning old)
    pub fits : Fits old.shape.kind (meaning.need (items_of meaning old)) copy.caps

  -- how many items aren't copied yet
  abbrev pub left_of : Copy I → Held S → ℕ
  left_of copy old = length (items_of meaning old) - length copy.items

  -- the next items are copied, so many or those that are left
  abbrev pub with_next : ℕ → Held S → Copy I → Copy I
  with_next n old copy = record copy { items = take (length copy.items + n) (items_of meaning old) }

  abbrev pub moved_by : ℕ → Held S → Copy I → Moved
  moved_by n old copy =
      record { moved = min n (left_of copy old); left = left_of copy old - min n (left_of copy old) }
