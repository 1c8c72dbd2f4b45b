-- The forms of the commands of a list structure with event queues, and what a reader makes of their words.
use Rattle.std.specs.Prelude.{ℕ, List, [], ◌∷◌, Option, codes}
use Rattle.cf_types.specs.declared.list_commands.QueueCmd.{QueueCmd}
use Rattle.cf_types.specs.declared.list_commands.QueueCmd.TheVariants as queue
use Rattle.plex_spell.specs.declared.rigour.Rigour.{Rigour}
use Rattle.plex_spell.specs.Tokens.{Declared}
use Rattle.plex_spell.specs.Patterns.{Place, Values}
use Rattle.plex_spell.specs.Patterns.Place.{AKey, Behind}
use Rattle.plex_spell.specs.Forms.{Forms, ◌or◌, each_made, command_at}
use Rattle.plex_spell.specs.Forms.Forms.{Row}
use Rattle.plex_spell.specs.CacheReading.{a_number}
use Rattle.plex_spell.specs.ListReading.{list_forms}

-- a sublist: a header, and a key
abbrev pub sublist_places : List Place
sublist_places = a_number ∷ Behind (codes "KEY") AKey ∷ []

abbrev pub monitor_of : Values sublist_places → QueueCmd
monitor_of v = queue.MonSub v.0 v.1.0

abbrev pub unmonitor_of : Values sublist_places → QueueCmd
unmonitor_of v = queue.UnmonSub v.0 v.1.0

-- those of the list itself
abbrev pub record_forms : Forms QueueCmd
record_forms = each_made queue.List list_forms

abbrev pub queue_forms : Forms QueueCmd
queue_forms =
    Row (codes "MONSUB") sublist_places monitor_of
    or Row (codes "UNMONSUB") sublist_places unmonitor_of
    or Row (codes "DEQ") [] (λ v. queue.Deq)
    or record_forms

abbrev pub queue_at : Rigour → Declared → List (List ℕ) → Option (QueueCmd × List (List ℕ))
queue_at rigour declared words = command_at rigour declared queue_forms words
