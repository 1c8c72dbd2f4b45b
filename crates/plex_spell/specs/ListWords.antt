-- The words of the commands of a list structure.
use Rattle.std.specs.Prelude.{List, [], ◌∷◌, Option, None, Some, codes}
use Rattle.cf_types.specs.declared.names.Name16.{Name16}
use Rattle.cf_types.specs.declared.names.Key16.{Key16}
use Rattle.cf_types.specs.declared.list_commands.At.{At}
use Rattle.cf_types.specs.declared.list_commands.At.TheVariants as at
use Rattle.cf_types.specs.declared.list_commands.Cond.{Cond}
use Rattle.cf_types.specs.declared.list_commands.Cond.TheVariants.{NotHeld, HeldBy}
use Rattle.cf_types.specs.declared.list_commands.ListCmd.{ListCmd}
use Rattle.cf_types.specs.declared.list_commands.ListCmd.TheVariants.{Write, Update, Read, Move, Delete, ReadList, LockSet, LockReset, LockTest, LControls, SetLimit, Monitor, Unmonitor}
use Rattle.plex_spell.specs.declared.labels.LockUse.{LockUse}
use Rattle.plex_spell.specs.declared.labels.LockUse.TheVariants.{Set, Reset, Test}
use Rattle.plex_spell.specs.Tokens.{Token}
use Rattle.plex_spell.specs.Tokens.Token.{Literal, Term, Record}
use Rattle.plex_spell.specs.Fields.{all_tokens, number, name_tokens, key_tokens, version_tokens, short_tokens, data_tokens, option_tokens, end}

-- which record is meant
abbrev pub at_tokens : At → List Token
at_tokens (at.Id id) = Record id ∷ []
at_tokens (at.Name name) = Literal (codes "NAME") ∷ Term name.0 ∷ []
at_tokens (at.Head header) = Literal (codes "HEAD") ∷ number header ∷ []
at_tokens (at.Tail header) = Literal (codes "TAIL") ∷ number header ∷ []
at_tokens (at.Key header key) = Literal (codes "KEY") ∷ number header ∷ Term key.0 ∷ []

-- the condition on a list lock, where there is one
abbrev pub cond_tokens : Option Cond → List Token
cond_tokens None = []
cond_tokens (Some (NotHeld lock)) = Literal (codes "NOTHELD") ∷ number lock ∷ []
cond_tokens (Some (HeldBy lock)) = Literal (codes "HELDBY") ∷ number lock ∷ []

-- what is done with a list lock
abbrev pub lock_use : LockUse → Token
lock_use Set = Literal (codes "SET")
lock_use Reset = Literal (codes "RESET")
lock_use Test = Literal (codes "TEST")

abbrev pub list_tokens : ListCmd → List Token
list_tokens (Write header head name key body adj cond) =
    Literal (codes "WRITE") ∷ number header ∷ end head
    ∷ all_tokens (option_tokens (codes "NAME") name_tokens name ∷ option_tokens (codes "KEY") key_tokens key
    ∷ option_tokens (codes "DATA") data_tokens body ∷ option_tokens (codes "ADJ") short_tokens adj ∷ cond_tokens cond
    ∷ [])
list_tokens (Update ref body adj version cond) =
    Literal (codes "UPDATE")
    ∷ all_tokens (at_tokens ref ∷ option_tokens (codes "DATA") data_tokens body
    ∷ option_tokens (codes "ADJ") short_tokens adj
    ∷ option_tokens (codes "VERSION") version_tokens version ∷ cond_tokens cond ∷ [])
list_tokens (Read ref cond) = Literal (codes "READ") ∷ all_tokens (at_tokens ref ∷ cond_tokens cond ∷ [])
list_tokens (Move ref header head key version cond) =
    Literal (codes "MOVE")
    ∷ all_tokens (at_tokens ref ∷ (number header ∷ end head ∷ []) ∷ option_tokens (codes "KEY") key_tokens key
    ∷ option_tokens (codes "VERSION") version_tokens version ∷ cond_tokens cond ∷ [])
list_tokens (Delete ref version cond) =
    Literal (codes "DELETE")
    ∷ all_tokens (at_tokens ref ∷ option_tokens (codes "VERSION") version_tokens version ∷ cond_tokens cond ∷ [])
list_tokens (ReadList header) = Literal (codes "READLIST") ∷ number header ∷ []
list_tokens (LockSet lock) = Literal (codes "LOCK") ∷ number lock ∷ Literal (codes "SET") ∷ []
list_tokens (LockReset lock) = Literal (codes "LOCK") ∷ number lock ∷ Literal (codes "RESET") ∷ []
list_tokens (LockTest lock) = Literal (codes "LOCK") ∷ number lock ∷ Literal (codes "TEST") ∷ []
list_tokens (LControls header) = Literal (codes "LCONTROLS") ∷ number header ∷ []
list_tokens (SetLimit header n) = Literal (codes "SETLIMIT") ∷ number header ∷ number n ∷ []
list_tokens (Monitor header index) = Literal (codes "MONITOR") ∷ number header ∷ number index ∷ []
list_tokens (Unmonitor header) = Literal (codes "UNMONITOR") ∷ number header ∷ []

-- a new record has a name or a key, and not both
abbrev pub IsOneLabel : Option Name16 → Option Key16 → Type 0
IsOneLabel None key = Unit {0}
IsOneLabel (Some name) None = Unit {0}
IsOneLabel (Some name) (Some key) = ⊥

abbrev pub IsListLine : ListCmd → Type 0
IsListLine (Write header head name key body adj cond) = IsOneLabel name key
IsListLine (Update ref body adj version cond) = Unit {0}
IsListLine (Read ref cond) = Unit {0}
IsListLine (Move ref header head key version cond) = Unit {0}
IsListLine (Delete ref version cond) = Unit {0}
IsListLine (ReadList header) = Unit {0}
IsListLine (LockSet lock) = Unit {0}
IsListLine (LockReset lock) = Unit {0}
IsListLine (LockTest lock) = Unit {0}
IsListLine (LControls header) = Unit {0}
IsListLine (SetLimit header n) = Unit {0}
IsListLine (Monitor header index) = Unit {0}
IsListLine (Unmonitor header) = Unit {0}
