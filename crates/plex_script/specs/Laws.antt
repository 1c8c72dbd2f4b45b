-- What is true of all texts.
use Rattle.std.specs.Prelude.{◌≡◌, ℕ, List, ◌⊎◌}
use Rattle.plex_script.specs.declared.faults.Why.{Why}
use Rattle.plex_script.specs.declared.scripts.Script.{Script}
use Rattle.plex_script.specs.Scripts.{IsScript, IsFault}
use Rattle.plex_script.specs.Printed.{script_text, with_line_numbers}
use Rattle.plex_script.specs.Limits.{KeepsLimits}

-- a text says one script
abbrev pub SaysOne : Type 0
SaysOne = (text : List ℕ) (one other : Script) → IsScript text one → IsScript text other → one ≡ other

-- each text is a script or has a first fault
abbrev pub IsDecided : Type 0
IsDecided = (text : List ℕ)
    → ((script : Script) × IsScript text script) ⊎ ((number : ℕ) × (why : Why) × IsFault text number why)

-- a text has one fault
abbrev pub HasOneFault : Type 0
HasOneFault = (text : List ℕ) (number other : ℕ) (why another : Why) → IsFault text number why
    → IsFault text other another → (number ≡ other) × (why ≡ another)

-- and not both
abbrev pub IsExclusive : Type 0
IsExclusive = (text : List ℕ) (script : Script) (number : ℕ) (why : Why) → IsScript text script
    → IsFault text number why → ⊥

-- the printed text of a script says the script again, but for the numbers of its lines
abbrev pub IsReadBack : Type 0
IsReadBack = (script : Script) → KeepsLimits script → IsScript (script_text script) (with_line_numbers script)

-- each script of a text keeps the limits
abbrev pub KeepLimits : Type 0
KeepLimits = (text : List ℕ) (script : Script) → IsScript text script → KeepsLimits script
