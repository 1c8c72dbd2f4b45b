-- The forms of the commands of a list structure, and what a reader makes of their words.
use Rattle.std.specs.Prelude.{ℕ, List, [], ◌∷◌, Option, None, Some, codes}
use Rattle.cf_types.specs.declared.names.Name16.{Name16}
use Rattle.cf_types.specs.declared.names.Key16.{Key16}
use Rattle.cf_types.specs.declared.list_commands.ListCmd.{ListCmd}
use Rattle.cf_types.specs.declared.list_commands.ListCmd.TheVariants.{Write, Update, Read, Move, Delete, ReadList, LockSet, LockReset, LockTest, LControls, SetLimit, Monitor, Unmonitor}
use Rattle.plex_spell.specs.declared.labels.Label.{Label}
use Rattle.plex_spell.specs.declared.labels.Label.TheVariants as label
use Rattle.plex_spell.specs.declared.labels.LockUse.{LockUse}
use Rattle.plex_spell.specs.declared.labels.LockUse.TheVariants.{Set, Reset, Test}
use Rattle.plex_spell.specs.declared.rigour.Rigour.{Rigour}
use Rattle.plex_spell.specs.Tokens.{Declared}
use Rattle.plex_spell.specs.Patterns.{Place, Values}
use Rattle.plex_spell.specs.Patterns.Place.{Amount, AKey, AShort, AData, Either, ALockUse, ARecord, ACond, ALabel, AnOption}
use Rattle.plex_spell.specs.Forms.{Forms, ◌or◌, command_at}
use Rattle.plex_spell.specs.Forms.Forms.{NoForms, Row}
use Rattle.plex_spell.specs.CacheReading.{a_number, number_places}

abbrev pub an_end : Place
an_end = Either (codes "HEAD") (codes "TAIL")

-- the version that a list record must have
abbrev pub a_version : Place
a_version = AnOption (codes "VERSION") (Amount 1 4294967295)

abbrev pub label_name : Option Label → Option Name16
label_name None = None
label_name (Some (label.Name name)) = Some name
label_name (Some (label.Key key)) = None

abbrev pub label_key : Option Label → Option Key16
label_key None = None
label_key (Some (label.Name name)) = None
label_key (Some (label.Key key)) = Some key

abbrev pub make_places : List Place
make_places = a_number ∷ an_end ∷ ALabel ∷ AnOption (codes "DATA") AData ∷ AnOption (codes "ADJ") AShort ∷ ACond ∷ []

abbrev pub make_of : Values make_places → ListCmd
make_of v = Write v.0 v.1.0 (label_name v.1.1.0) (label_key v.1.1.0) v.1.1.1.0 v.1.1.1.1.0 v.1.1.1.1.1.0

abbrev pub update_places : List Place
update_places = ARecord ∷ AnOption (codes "DATA") AData ∷ AnOption (codes "ADJ") AShort ∷ a_version ∷ ACond ∷ []

abbrev pub update_of : Values update_places → ListCmd
update_of v = Update v.0 v.1.0 v.1.1.0 v.1.1.1.0 v.1.1.1.1.0

abbrev pub record_places : List Place
record_places = ARecord ∷ ACond ∷ []

abbrev pub move_places : List Place
move_places = ARecord ∷ a_number ∷ an_end ∷ AnOption (codes "KEY") AKey ∷ a_version ∷ ACond ∷ []

abbrev pub move_of : Values move_places → ListCmd
move_of v = Move v.0 v.1.0 v.1.1.0 v.1.1.1.0 v.1.1.1.1.0 v.1.1.1.1.1.0

abbrev pub delete_places : List Place
delete_places = ARecord ∷ a_version ∷ ACond ∷ []

abbrev pub delete_of : Values delete_places → ListCmd
delete_of v = Delete v.0 v.1.0 v.1.1.0

abbrev pub two_places : List Place
two_places = a_number ∷ a_number ∷ []

-- the command that does this with a list lock
abbrev pub lock_command : ℕ → LockUse → ListCmd
lock_command lock Set = LockSet lock
lock_command lock Reset = LockReset lock
lock_command lock Test = LockTest lock

abbrev pub lock_places : List Place
lock_places = a_number ∷ ALockUse ∷ []

abbrev pub list_forms : Forms ListCmd
list_forms =
    Row (codes "WRITE") make_places make_of
    or Row (codes "UPDATE") update_places update_of
    or Row (codes "READ") record_places (λ v. Read v.0 v.1.0)
    or Row (codes "MOVE") move_places move_of
    or Row (codes "DELETE") delete_places delete_of
    or Row (codes "READLIST") number_places (λ v. ReadList v.0)
    or Row (codes "LOCK") lock_places (λ v. lock_command v.0 v.1.0)
    or Row (codes "LCONTROLS") number_places (λ v. LControls v.0)
    or Row (codes "SETLIMIT") two_places (λ v. SetLimit v.0 v.1.0)
    or Row (codes "MONITOR") two_places (λ v. Monitor v.0 v.1.0)
    or Row (codes "UNMONITOR") number_places (λ v. Unmonitor v.0)
    or NoForms

abbrev pub list_at : Rigour → Declared → List (List ℕ) → Option (ListCmd × List (List ℕ))
list_at rigour declared words = command_at rigour declared list_forms words
