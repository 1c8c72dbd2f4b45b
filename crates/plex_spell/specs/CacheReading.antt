-- The forms of the commands of a cache structure, and what a reader makes of their words.
use Rattle.std.specs.Prelude.{ℕ, List, [], ◌∷◌, Option, codes, unwrap_or}
use Rattle.cf_types.specs.declared.cache_commands.CacheCmd.{CacheCmd}
use Rattle.cf_types.specs.declared.cache_commands.CacheCmd.TheVariants.{Read, Write, CrossInval, RegList, Castout, Unlock, CoClass, CoStats, DirInfo, Delete, StgStats}
use Rattle.plex_spell.specs.declared.rigour.Rigour.{Rigour}
use Rattle.plex_spell.specs.Tokens.{Declared}
use Rattle.plex_spell.specs.Patterns.{Place, Values}
use Rattle.plex_spell.specs.Patterns.Place.{Amount, AName, AShort, AData, AClass, AFlag, AnOption}
use Rattle.plex_spell.specs.Forms.{Forms, ◌or◌, command_at}
use Rattle.plex_spell.specs.Forms.Forms.{NoForms, Row}

abbrev pub a_number : Place
a_number = Amount 0 4294967295

abbrev pub read_places : List Place
read_places = AName ∷ a_number ∷ AnOption (codes "OLD") AName ∷ AnOption (codes "STG") a_number ∷ []

abbrev pub read_of : Values read_places → CacheCmd
read_of v = Read v.0 v.1.0 v.1.1.0 (unwrap_or v.1.1.1.0 1)

abbrev pub write_places : List Place
write_places =
    AName ∷ a_number ∷ AData ∷ AClass ∷ AnOption (codes "ADJ") AShort ∷ AnOption (codes "OLD") AName ∷ AnOption
    (codes "STG") a_number
    ∷ AFlag (codes "WHENREG") ∷ []

abbrev pub write_of : Values write_places → CacheCmd
write_of v =
    Write v.0 v.1.0 v.1.1.0 v.1.1.1.0 v.1.1.1.1.0 v.1.1.1.1.1.0 (unwrap_or v.1.1.1.1.1.1.0 1) v.1.1.1.1.1.1.1.0

abbrev pub name_places : List Place
name_places = AName ∷ []

abbrev pub number_places : List Place
number_places = a_number ∷ []

abbrev pub cache_forms : Forms CacheCmd
cache_forms =
    Row (codes "READ") read_places read_of
    or Row (codes "WRITE") write_places write_of
    or Row (codes "CROSSINVAL") name_places (λ v. CrossInval v.0)
    or Row (codes "REGLIST") [] (λ v. RegList)
    or Row (codes "CASTOUT") name_places (λ v. Castout v.0)
    or Row (codes "UNLOCK") name_places (λ v. Unlock v.0)
    or Row (codes "COCLASS") number_places (λ v. CoClass v.0)
    or Row (codes "COSTATS") [] (λ v. CoStats)
    or Row (codes "DIRINFO") name_places (λ v. DirInfo v.0)
    or Row (codes "DELETE") name_places (λ v. Delete v.0)
    or Row (codes "STGSTATS") number_places (λ v. StgStats v.0)
    or NoForms

abbrev pub cache_at : Rigour → Declared → List (List ℕ) → Option (CacheCmd × List (List ℕ))
cache_at rigour declared words = command_at rigour declared cache_forms words
