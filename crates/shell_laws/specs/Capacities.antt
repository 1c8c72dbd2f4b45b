-- What fits an instance, what is to fit a rebuild's new one, and what deeds make of the capacities of both.
use Rattle.std.specs.Prelude.{◌≡◌, ◌||◌, ◌&&◌, true, false, is_some, if◌then◌else◌, Option, None, Some}
use Rattle.cf_types.specs.declared.forms.Caps.{Caps}
use Rattle.cf_types.specs.declared.forms.StrForm.{StrForm}
use Rattle.engine_api.specs.declared.shapes.Shape.{Shape}
use Rattle.engine_api.specs.declared.deeds.Deeds.{Deeds}
use Rattle.engine_api.specs.Items.{Fits}
use Rattle.engine_api.specs.Machine.{Machine, items_of, room_of}
use Rattle.engine_api.specs.Meaning.{Meaning}
use Rattle.engine_api.specs.Rebuilds.{fresh_of}
use Rattle.engine_api.specs.Shapes.{shape_of}
use Rattle.engine_api.specs.Shell.{Shell, caps_made}
use Rattle.engine_api.specs.RebuildCore.declared.rebuild.Rebuild.{Rebuild}

-- a rebuild's new instance, where it stands, has room for the content
abbrev pub HasRoom : {C R I S : Type 0} → Meaning C R I S → StrForm → Option Rebuild → S → Type 0
HasRoom meaning form None content = Unit {0}
HasRoom meaning form (Some rebuild) content =
    is_some rebuild.fresh ≡ true
    → Fits form.kind (meaning.need (meaning.items (shape_of form) content)) rebuild.caps

-- the content is one at the capacity of the instances
pub record IsHeld {C R I S : Type 0} (meaning : Meaning C R I S) (IsContent : Shape → Caps → S → Type 0)
    (form : StrForm) (machine : Machine S) : Type 0 where
  pub content : IsContent (shape_of form) machine.shell.caps machine.content
  pub room : HasRoom meaning form machine.shell.rebuild machine.content

-- ---- deeds

-- the capacity of a rebuild's new instance, where one stands
abbrev pub fresh_caps : Option Rebuild → Option Caps
fresh_caps None = None
fresh_caps (Some rebuild) = if is_some rebuild.fresh then Some rebuild.caps else None

-- the primary's behind a command with these deeds: all instances end, or the new one takes its place
abbrev pub caps_behind : StrForm → Shell → Deeds → Caps
caps_behind form shell deeds =
    if deeds.drop_all then form.caps else if deeds.switch then caps_made shell else shell.caps

-- the new instance's: it ends, it is made, or it is as it was
abbrev pub fresh_behind : Shell → Deeds → Option Caps
fresh_behind shell deeds =
    if deeds.drop_all || (deeds.switch || deeds.drop_fresh) then None
    else if is_some deeds.make && is_some shell.rebuild then Some (caps_made shell)
    else fresh_caps shell.rebuild

-- the deeds that a machine may do: outside a rebuild a failed connection is taken up again; a rebuild's new instance is
-- made where none stands, and what there is fits it; and it takes the primary's place once it lacks nothing
pub record AreFitting {C R I S : Type 0} (meaning : Meaning C R I S) (form : StrForm) (machine : Machine S)
    (deeds : Deeds) : Type 0 where
  pub back : is_some deeds.back ≡ true → machine.shell.rebuild ≡ None
  pub alone : is_some deeds.make ≡ true → fresh_of machine.shell.rebuild ≡ None
  pub room : is_some deeds.make ≡ true → is_some machine.shell.rebuild ≡ true
      → Fits form.kind (meaning.need (items_of meaning form machine)) (caps_made machine.shell)
  pub stands : deeds.switch ≡ true → is_some (fresh_of machine.shell.rebuild) ≡ true
  pub unmade : deeds.switch ≡ true → deeds.make ≡ None
  pub filled : deeds.switch ≡ true → (room_of meaning form machine).left ≡ 0
  pub whole : deeds.switch ≡ true → deeds.restart ≡ false
