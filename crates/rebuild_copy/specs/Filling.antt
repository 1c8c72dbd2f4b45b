-- A new instance that is filled with a content's items.
use Rattle.std.specs.Prelude.{ℕ, ◌+◌, ◌-◌, Bool, IfSome, List, [], length, take, Option, None, Some}
use Rattle.cf_types.specs.declared.forms.Caps.{Caps}
use Rattle.cf_types.specs.declared.forms.Kind.{Kind}
use Rattle.engine_api.specs.declared.shapes.Shape.{Shape}
use Rattle.engine_api.specs.Meaning.{Meaning, Held, items_of}
use Rattle.rebuild_copy.specs.Copies.{Copy, IsCopyOf}

-- the copy so far, and the order of what is copied, where it was taken
pub record FillingView (I O : Type 0) : Type 0 where
  pub copy : Copy I
  pub order : Option O

-- a new instance: its capacity, and how many of the first items it has
pub record Fresh : Type 0 where
  pub caps : Caps
  pub copied : ℕ

-- the new instance is emptied; so many items more are copied
abbrev pub emptied : Option Fresh → Option Fresh
emptied None = None
emptied (Some fresh) = Some (record fresh { copied = 0 })

abbrev pub with_copied : ℕ → Option Fresh → Option Fresh
with_copied n None = None
with_copied n (Some fresh) = Some (record fresh { copied = fresh.copied + n })

-- the capacity of the new instance, or else of the primary
abbrev pub caps_or : Option Fresh → Caps → Caps
caps_or None caps = caps
caps_or (Some fresh) caps = fresh.caps

abbrev pub fresh_of : {I : Type 0} → Copy I → Fresh
fresh_of copy = record { caps = copy.caps; copied = length copy.items }

module _ {C R I S : Type 0} (meaning : Meaning C R I S) where
  -- how many of the primary's items the new instance lacks, none where none stands
  abbrev pub lacking : Held S → Option Fresh → ℕ
  lacking held None = 0
  lacking held (Some fresh) = length (items_of meaning held) - fresh.copied

  -- the items that the new instance has, where one stands: the first of the primary's
  abbrev pub front_of : Held S → Option Fresh → List I
  front_of held None = []
  front_of held (Some fresh) = take fresh.copied (items_of meaning held)

  -- the new instance in the primary's place: what there was, without registrations, at its own capacity
  abbrev pub switched : Held S → Option Fresh → Held S
  switched held fresh =
      record {
        shape = held.shape;
        base = caps_or fresh held.base;
        caps = caps_or fresh held.caps;
        state = meaning.forget held.state;
      }

  -- a copy of the first items of what an old instance holds; the order, where it was taken, is that of its items
  pub record IsFillingOf (is_kind : Kind → Bool) (IsContent : Shape → Caps → S → Type 0) {O : Type 0}
      (IsOrder : O → Held S → Type 0) (filling : FillingView I O) (old : Held S) : Type 0 where
    pub copy : IsCopyOf meaning is_kind IsContent filling.copy old
    pub ordered : IfSome filling.order (λ o. IsOrder o old)
