-- The engine as contracts see it.
use Rattle.std.specs.Prelude.{◌≡◌, Bool, IsTrue, Option}
use Rattle.cf_types.specs.declared.effects.Effects.{Effects}
use Rattle.cf_types.specs.declared.forms.Caps.{Caps}
use Rattle.cf_types.specs.declared.forms.Kind.{Kind}
use Rattle.cf_types.specs.Forms.{IsCapacity}
use Rattle.engine_api.specs.Instances.{units_of}
use Rattle.engine_api.specs.Meaning.{Held, Wish}
use Rattle.engine_api.specs.Meaning.Wish.{ForCmd, ForLeave, ForForget}
use Rattle.cf_types.specs.declared.alter_commands.AlterCmd.{AlterCmd}
use Rattle.cf_types.specs.declared.alter_commands.AlterCmd.TheVariants as alter
use Rattle.alter_model.specs.declared.contents.AlterContent.{AlterContent}
use Rattle.alter_model.specs.Meaning.{caps_or, IsWithin}

pub record AlteredView (E : Type 0) : Type 0 where
  pub inner : E
  pub limits : Option Caps
  pub target : Option Caps

-- the capacity is the base; the inner engine's is that of the limits
abbrev pub held_of : {S : Type 0} → Held S → Option Caps → Option Caps → Held (AlterContent S)
held_of held limits target =
    record {
      shape = held.shape;
      base = held.base;
      caps = held.base;
      state = record { inner = held.state; limits = limits; target = target };
    }

-- what the inner engine holds, where the whole holds this
abbrev pub inner_held : {S : Type 0} → Held (AlterContent S) → Held S
inner_held held =
    record {
      shape = held.shape;
      base = held.base;
      caps = caps_or held.state.limits held.base;
      state = held.state.inner;
    }

-- the inner engine's capacity is that of the limits, and neither these nor the target take more units than the base
pub record IsKept {S : Type 0} (is_kind : Kind → Bool) (held : Held S) (kind : Kind) (limits target : Option Caps) :
    Type 0 where
  pub kind_is : kind ≡ held.shape.kind
  pub base : IsCapacity held.base
  pub caps : held.caps ≡ caps_or limits held.base
  pub limits_within : IsWithin (units_of held.base) limits
  pub target_within : IsWithin (units_of held.base) target

-- an alteration needs no memory
module _ {E C : Type 0} (is_ready : E → Wish C → Effects → Type 0) where
  abbrev pub IsReady : AlteredView E → Wish (AlterCmd C) → Effects → Type 0
  IsReady e (ForCmd by (alter.Inner cmd)) out = is_ready e.inner (ForCmd by cmd) out
  IsReady e (ForCmd by (alter.Start target)) out = Unit {0}
  IsReady e (ForCmd by (alter.Step n)) out = Unit {0}
  IsReady e (ForCmd by alter.Stop) out = Unit {0}
  IsReady e (ForLeave conn) out = is_ready e.inner (ForLeave conn) out
  IsReady e ForForget out = is_ready e.inner ForForget out
