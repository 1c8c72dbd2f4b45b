-- What deeds do to the instances of a structure, and to a rebuild's new one.
use Rattle.std.specs.Prelude.{◌≡◌, ◌≢◌, ◌||◌, ◌&&◌, not, Bool, true, false, is_some, if◌then◌else◌, IfSome, Option, None, Some, option_map}
use Rattle.cf_types.specs.declared.forms.StrForm.{StrForm}
use Rattle.cf_types.specs.declared.numbers.CfId.{CfId}
use Rattle.cf_types.specs.declared.numbers.ConnId.{ConnId}
use Rattle.cf_types.specs.declared.shell_commands.ShellCmd.{ShellCmd}
use Rattle.cf_types.specs.declared.shell_commands.ShellCmd.TheVariants as cmd
use Rattle.cf_types.specs.Forms.{IsCaller, IsFacility}
use Rattle.engine_api.specs.declared.deeds.Deeds.{Deeds}
use Rattle.engine_api.specs.Instances.{Instances, no_instance, is_at}
use Rattle.engine_api.specs.Items.{Fits}
use Rattle.engine_api.specs.Meaning.{Meaning, Held, new_held, items_of, with_back}
use Rattle.engine_api.specs.Rebuilds.{fresh_of}
use Rattle.engine_api.specs.Shapes.{shape_of}
use Rattle.engine_api.specs.Shell.{Shell, Leaver, leaver, caps_made}
use Rattle.rebuild_copy.specs.Filling.{Fresh, emptied, switched}
use Rattle.struct_machine.specs.Content.{Kept, new_fresh, lacking_in}

-- ---- engines that are made before a command acts

-- the commands that make an empty instance, where none of its kind stands; and the one that makes a second
abbrev pub makes_empty : Shell → ShellCmd → Bool
makes_empty shell (cmd.Connect keep) = not (is_some shell.instances.primary)
makes_empty shell cmd.RebuildConnect = not (is_some (fresh_of shell.rebuild))
makes_empty shell _ = false

abbrev pub makes_second : ShellCmd → Bool
makes_second cmd.DuplexStart = true
makes_second _ = false

-- what they hold
pub record Spares (S : Type 0) : Type 0 where
  pub empty : Option (Held S)
  pub second : Option (Held S)

module _ {C R I S : Type 0} (meaning : Meaning C R I S) where
  -- the engines that a command needs are there
  pub record AreSpares (form : StrForm) (shell : Shell) (command : ShellCmd) (held : Option (Held S))
      (spares : Spares S) : Type 0 where
    pub empty : makes_empty shell command ≡ true
        → spares.empty ≡ Some (new_held meaning (shape_of form) (caps_made shell))
    pub second : makes_second command ≡ true → spares.second ≡ held

-- ---- where the instances stand

-- the one in a facility is dropped, and the other is the primary
abbrev pub at_left : CfId → Instances → Instances
at_left cf at =
    record { primary = if is_at cf at.primary then at.secondary else at.primary; secondary = None }

abbrev pub at_dropped : Option CfId → Instances → Instances
at_dropped None at = at
at_dropped (Some cf) at = at_left cf at

abbrev pub at_second : Option CfId → Instances → Instances
at_second None at = at
at_second (Some cf) at = record at { secondary = Some cf }

-- a primary is made where no rebuild is under way
abbrev pub at_made : (rebuilding : Bool) → Option CfId → Instances → Instances
at_made rebuilding None at = at
at_made true (Some cf) at = at
at_made false (Some cf) at = record at { primary = Some cf }

abbrev pub at_switched : Bool → Option CfId → Instances → Instances
at_switched switch fresh at = record at { primary = if switch then fresh else at.primary }

abbrev pub places_past : (rebuilding : Bool) → Deeds → (fresh : Option CfId) → Instances → Instances
places_past rebuilding deeds fresh at =
    if deeds.drop_all then no_instance
    else at_switched deeds.switch fresh (at_dropped deeds.drop_at (at_second deeds.second
    (at_made rebuilding deeds.make at)))

-- ---- the new instance

-- it is emptied where somebody departs from the content
abbrev pub fresh_left : Shell → Option Leaver → Option Fresh → Option Fresh
fresh_left shell leaver fresh =
    if is_some leaver && is_some shell.instances.primary then emptied fresh else fresh

-- one that is made is empty
abbrev pub fresh_made : {S : Type 0} → (rebuilding : Bool) → Option CfId → Option (Held S) → Option Fresh → Option Fresh
fresh_made rebuilding None empty fresh = fresh
fresh_made true (Some cf) empty fresh = option_map new_fresh empty
fresh_made false (Some cf) empty fresh = fresh

-- it ends, or is emptied
abbrev pub fresh_ended : Deeds → Option Fresh → Option Fresh
fresh_ended deeds fresh =
    if deeds.switch || deeds.drop_fresh then None else if deeds.restart then emptied fresh else fresh

abbrev pub fresh_past : {S : Type 0} → (rebuilding : Bool) → Deeds → Option (Held S) → Option Fresh → Option Fresh
fresh_past rebuilding deeds empty fresh =
    if deeds.drop_all then None else fresh_ended deeds (fresh_made rebuilding deeds.make empty fresh)

-- ---- what the instances hold

abbrev pub HasNone : {X : Type 0} → Option X → Type 0
HasNone o = o ≡ None

-- a primary that is made is empty
abbrev pub held_made : {S : Type 0} → (rebuilding : Bool) → Option CfId → Option (Held S) → Option (Held S)
    → Option (Held S)
held_made rebuilding None empty held = held
held_made true (Some cf) empty held = held
held_made false (Some cf) empty held = empty

-- a second instance may be made in this facility
pub record MayAdd {S : Type 0} (kept : Kept S) (second : Option (Held S)) (cf : CfId) : Type 0 where
  pub place : IsFacility cf
  pub stands : is_some kept.held ≡ true
  pub alone : kept.at.secondary ≡ None
  pub apart : IfSome kept.at.primary (λ at. cf.0 ≢ at.0)
  pub there : is_some second ≡ true
  pub alike : second ≡ kept.held

-- one of two may be dropped
pub record MayDrop {S : Type 0} (kept : Kept S) (cf : CfId) : Type 0 where
  pub there : (is_at cf kept.at.primary || is_at cf kept.at.secondary) ≡ true
  pub stands : is_some kept.at.primary ≡ true
  pub two : is_some kept.at.secondary ≡ true
  pub apart : is_at cf kept.at.primary ≡ true → is_at cf kept.at.secondary ≡ false

module _ {C R I S : Type 0} (meaning : Meaning C R I S) where
  -- a failed connection is taken up again
  abbrev pub held_back : Option ConnId → Option (Held S) → Option (Held S)
  held_back None held = held
  held_back (Some conn) held = option_map (λ h. with_back meaning h conn) held

  -- the new instance takes the primary's place
  abbrev pub held_switched : Bool → Option Fresh → Option (Held S) → Option (Held S)
  held_switched switch fresh held = if switch then option_map (λ h. switched meaning h fresh) held else held

  abbrev pub held_past : (rebuilding : Bool) → Deeds → (empty : Option (Held S)) → Option Fresh → Option (Held S)
      → Option (Held S)
  held_past rebuilding deeds empty fresh held =
      if deeds.drop_all then None
      else held_switched deeds.switch fresh (held_made rebuilding deeds.make empty (held_back deeds.back held))

  -- instances behind deeds; the new one stands in this facility
  abbrev pub kept_past : (rebuilding : Bool) → Deeds → (fresh : Option CfId) → Spares S → Kept S → Kept S
  kept_past rebuilding deeds fresh spares kept =
      record {
        at = places_past rebuilding deeds fresh kept.at;
        held = held_past rebuilding deeds spares.empty kept.fresh kept.held;
        fresh = fresh_past rebuilding deeds spares.empty kept.fresh;
      }

  -- an empty instance may be made in this facility: a rebuild's new one, or the primary
  pub record MayMake (rebuilding : Bool) (kept : Kept S) (empty : Option (Held S)) (cf : CfId) : Type 0 where
    pub place : IsFacility cf
    pub there : is_some empty ≡ true
    pub new : IfSome empty (λ held. held ≡ new_held meaning held.shape held.caps)
    pub alone : kept.fresh ≡ None
    pub bare : rebuilding ≡ false → kept.at.primary ≡ None
    pub stands : rebuilding ≡ true → is_some kept.held ≡ true
    pub shape : rebuilding ≡ true → IfSome kept.held (λ held. IfSome empty (λ new. new.shape ≡ held.shape))
    pub room : rebuilding ≡ true → IfSome kept.held (λ held. IfSome empty (λ new.
        Fits held.shape.kind (meaning.need (items_of meaning held)) new.caps))

  -- the new one may take the primary's place
  pub record MaySwitch (fresh : Option CfId) (kept : Kept S) : Type 0 where
    pub stands : is_some kept.fresh ≡ true
    pub there : is_some fresh ≡ true
    pub place : IfSome fresh IsFacility
    pub alone : kept.at.secondary ≡ None
    pub filled : lacking_in meaning kept.held kept.fresh ≡ 0

  -- deeds that instances like these admit: a pair is changed, or the new one takes the primary's place, where nothing
  -- else is done
  pub record AreAdmitted (rebuilding : Bool) (deeds : Deeds) (fresh : Option CfId) (spares : Spares S)
      (kept : Kept S) : Type 0 where
    pub back : IfSome deeds.back (λ conn. IsCaller conn × (kept.fresh ≡ None) × (rebuilding ≡ false))
    pub make : IfSome deeds.make (MayMake rebuilding kept spares.empty)
    pub second : IfSome deeds.second (λ cf. MayAdd kept spares.second cf × HasNone deeds.back × HasNone deeds.make)
    pub dropped : IfSome deeds.drop_at (λ cf.
        MayDrop kept cf × HasNone deeds.back × HasNone deeds.make × HasNone deeds.second)
    pub switch : deeds.switch ≡ true → MaySwitch fresh kept × HasNone deeds.back × HasNone deeds.make
        × HasNone deeds.second × HasNone deeds.drop_at × (deeds.restart ≡ false)
