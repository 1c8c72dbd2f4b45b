-- The new instance while it is filled.
use Rattle.std.specs.Prelude.{◌≡◌, ◌≤◌, ◌⊎◌, true, is_some, length, Option, None, Some}
use Rattle.cf_types.specs.declared.events.Stage.TheVariants.{Copy}
use Rattle.cf_types.specs.declared.forms.StrForm.{StrForm}
use Rattle.engine_api.specs.Meaning.{Meaning}
use Rattle.engine_api.specs.RebuildCore.declared.rebuild.Rebuild.{Rebuild}
use Rattle.engine_api.specs.Machine.{Machine, items_of}

-- a rebuild is in COPY, and its new instance stands
abbrev pub IsFilling : Option Rebuild → Type 0
IsFilling None = ⊥
IsFilling (Some rebuild) = (rebuild.stage ≡ Copy) × (is_some rebuild.fresh ≡ true)

-- a new instance has items in COPY alone, and no more than there are
pub record IsFilled {C R I S : Type 0} (meaning : Meaning C R I S) (form : StrForm) (machine : Machine S) : Type 0 where
  pub filling : (machine.copied ≡ 0) ⊎ IsFilling machine.shell.rebuild
  pub within : machine.copied ≤ length (items_of meaning form machine)
