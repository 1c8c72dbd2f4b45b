-- The forms of the commands of a cache structure whose capacity can be altered, and what a reader makes of their words.
use Rattle.std.specs.Prelude.{ℕ, List, [], ◌∷◌, Option, codes}
use Rattle.cf_types.specs.declared.limits.TheConstants.{ALTER_STEP}
use Rattle.cf_types.specs.declared.alter_commands.AlterCmd.{AlterCmd}
use Rattle.cf_types.specs.declared.alter_commands.AlterCmd.TheVariants.{Inner, Start, Step, Stop}
use Rattle.cf_types.specs.declared.cache_commands.CacheCmd.{CacheCmd}
use Rattle.plex_spell.specs.declared.rigour.Rigour.{Rigour}
use Rattle.plex_spell.specs.Tokens.{Declared}
use Rattle.plex_spell.specs.Patterns.{Place, Values}
use Rattle.plex_spell.specs.Patterns.Place.{Amount}
use Rattle.plex_spell.specs.Forms.{Forms, ◌or◌, each_made, command_at}
use Rattle.plex_spell.specs.Forms.Forms.{NoForms, Row, Under}
use Rattle.plex_spell.specs.ShellReading.{caps_places}
use Rattle.plex_spell.specs.CacheReading.{cache_forms}

abbrev pub step_places : List Place
step_places = Amount 1 ALTER_STEP ∷ []

abbrev pub target_of : Values caps_places → AlterCmd CacheCmd
target_of v = Start (record { entries = v.0; elements = v.1.0 })

-- behind ALTER
abbrev pub alterations : Forms (AlterCmd CacheCmd)
alterations =
    Row (codes "START") caps_places target_of
    or Row (codes "STEP") step_places (λ v. Step v.0)
    or Row (codes "STOP") [] (λ v. Stop)
    or NoForms

-- those of the cache itself
abbrev pub inner_forms : Forms (AlterCmd CacheCmd)
inner_forms = each_made Inner cache_forms

abbrev pub alter_forms : Forms (AlterCmd CacheCmd)
alter_forms = Under (codes "ALTER") alterations or inner_forms

abbrev pub alteration_at : Rigour → Declared → List (List ℕ) → Option (AlterCmd CacheCmd × List (List ℕ))
alteration_at rigour declared words = command_at rigour declared alterations words

abbrev pub alter_at : Rigour → Declared → List (List ℕ) → Option (AlterCmd CacheCmd × List (List ℕ))
alter_at rigour declared words = command_at rigour declared alter_forms words
