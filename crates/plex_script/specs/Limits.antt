-- The scripts that keep the forms, the ranges and the limits of the language.
use Rattle.std.specs.Prelude.{◌≡◌, ◌≢◌, ◌≤◌, IsTrue, List, length, map, slice_get, Some, All, AllPairs}
use Rattle.cf_types.specs.declared.limits.TheConstants.{STRUCTURES, CONNECTORS}
use Rattle.cf_types.specs.declared.numbers.CfId.{CfId}
use Rattle.cf_types.specs.declared.forms.Pref.{Pref}
use Rattle.cf_types.specs.declared.forms.StrForm.{StrForm}
use Rattle.cf_types.specs.Forms.{IsForm, IsPref}
use Rattle.plex_plain.specs.PlexSpell.Tokens.{is_declared}
use Rattle.plex_plain.specs.Ranges.{AreNames, AreWithin}
use Rattle.plex_script.specs.declared.scripts.Line.{Line}
use Rattle.plex_script.specs.declared.scripts.Script.{Script}
use Rattle.plex_script.specs.LineWords.{MayDo}
use Rattle.plex_script.specs.Causes.{declared_in, facility_units, units_of, all_prefs}
use Rattle.plex_script.specs.Printed.{class_in, line_tokens}

-- the facilities, each once
abbrev pub AreFacilities : List Pref → Type 0
AreFacilities facilities = All IsPref facilities × AllPairs (λ one other. one.cf.0 ≢ other.cf.0) facilities

-- its instances stand at declared facilities
pub record IsStructureIn (facilities : List Pref) (form : StrForm) : Type 0 where
  pub formed : IsForm form
  pub declared : All (λ (pref : Pref). IsTrue (is_declared facilities pref.cf)) form.prefs

-- no more units of a facility are set aside than it has
abbrev pub HasRoom : Script → Type 0
HasRoom script = (cf : CfId) → units_of (all_prefs script.structures) cf ≤ facility_units script.facilities cf

-- its caller may do this at its structure, and each value in it is in its range
pub record IsLineIn (script : Script) (line : Line) : Type 0 where
  pub form : StrForm
  pub known : slice_get script.structures line.on.0 ≡ Some form
  pub caller : line.by.0 ≤ length script.connectors
  pub allowed : MayDo line.by form.kind (class_in line.act) line.act line.retry
  pub within : AreWithin (declared_in script) (line_tokens line)

-- as many structures and connectors as there may be at most
pub record KeepsLimits (script : Script) : Type 0 where
  pub facilities : AreFacilities script.facilities
  pub few_structures : length script.structures ≤ STRUCTURES
  pub structures : All (IsStructureIn script.facilities) script.structures
  pub structure_names : AreNames (map (λ (form : StrForm). form.name) script.structures)
  pub few_connectors : length script.connectors ≤ CONNECTORS
  pub connectors : AreNames script.connectors
  pub room : HasRoom script
  pub lines : All (IsLineIn script) script.lines
