-- What a reader of lines answers.
use Rattle.std.specs.Prelude.{◌≡◌, ℕ, ◌-◌, ◌<◌, nat_le, if◌then◌else◌, length, List, Bool, true, false, Option, None, Some, Result, Ok, Err}
use Rattle.std.specs.Option.{is_some}
use Rattle.cf_types.specs.declared.limits.TheConstants.{STRUCTURES, CONNECTORS}
use Rattle.plex_script.specs.declared.declarations.Declaration.{Declaration}
use Rattle.plex_script.specs.declared.declarations.Declaration.TheVariants as declaration
use Rattle.plex_script.specs.Causes.{IsFirst}
use Rattle.plex_script.specs.declared.faults.Why.{Why}
use Rattle.plex_script.specs.declared.faults.Why.TheVariants.{Syntax, Limit, Unknown}
use Rattle.plex_script.specs.declared.line_faults.LineFault.{LineFault}
use Rattle.plex_script.specs.declared.line_faults.LineFault.TheVariants.{Wrong, NoMemory}
use Rattle.plex_script.specs.declared.faults.ReadFault.{ReadFault}
use Rattle.plex_script.specs.declared.faults.ReadFault.TheVariants as read
use Rattle.plex_script.specs.Scripts.{IsFault}
use Rattle.plex_script.specs.declared.draft.Draft.{Draft}
use Rattle.plex_script.specs.declared.scripts.Script.{Script}

-- a script as far as it is read
abbrev pub script_of : Draft → Script
script_of draft =
    record {
      facilities = draft.facilities.items;
      structures = draft.structures.items;
      connectors =
          draft.connectors.items;
      lines = draft.lines.items;
    }

-- why words are not read: they have no form; they, or the line, don't keep the limits; what they name isn't declared
abbrev pub unread_why : Bool → Bool → Bool → Why
unread_why false excess limits = Syntax
unread_why true true limits = Limit
unread_why true false false = Limit
unread_why true false true = Unknown

-- this fault, unless there was no memory
abbrev pub IsFaultOf : LineFault → Why → Type 0
IsFaultOf (Wrong why) told = why ≡ told
IsFaultOf (NoMemory cause) told = Unit {0}

-- what was read of words, by form, by limits and by names
abbrev pub Judged : {V : Type 0} → Result V LineFault → Bool → Option V → Option V → Option V → Type 0
Judged (Ok value) excess forms limits names = (excess ≡ false) × (names ≡ Some value)
Judged (Err (Wrong why)) excess forms limits names = (why ≡ unread_why (is_some forms) excess (is_some limits))
    × (excess ≡ false → names ≡ None)
Judged (Err (NoMemory cause)) excess forms limits names = Unit {0}

-- the first cause that holds, unless there was no memory
abbrev pub IsFaultBy : (Why → Type 0) → LineFault → Type 0
IsFaultBy holds (Wrong why) = IsFirst holds why
IsFaultBy holds (NoMemory cause) = Unit {0}

-- there is a place for what is declared
abbrev pub HasRoom : Script → Declaration → Type 0
HasRoom script (declaration.Facility pref) = Unit {0}
HasRoom script (declaration.Structure form) = length script.structures < STRUCTURES
HasRoom script (declaration.Pref on pref) = Unit {0}
HasRoom script (declaration.Connector name) = length script.connectors < CONNECTORS

-- what is left where so much is taken away, if it is there
abbrev pub remainder : ℕ → ℕ → Option ℕ
remainder left taken = if nat_le taken left then Some (left - taken) else None

-- what a fault of a line is to the reader of a text
abbrev pub fault_at : ℕ → LineFault → ReadFault
fault_at line (Wrong why) = read.Script line why
fault_at line (NoMemory cause) = read.NoMemory cause

-- the first fault of the text is told; want of memory says nothing of it
abbrev pub TellsFault : List ℕ → ReadFault → Type 0
TellsFault text (read.Script line why) = IsFault text line why
TellsFault text (read.NoMemory cause) = Unit {0}
