-- The forms of the commands of a lock structure, and what a reader makes of their words.
use Rattle.std.specs.Prelude.{ℕ, List, [], ◌∷◌, Option, codes}
use Rattle.cf_types.specs.declared.lock_commands.LockCmd.{LockCmd}
use Rattle.cf_types.specs.declared.lock_commands.LockCmd.TheVariants.{Obtain, Alter, Release, Decide, RtRead, RtDelete}
use Rattle.plex_spell.specs.declared.rigour.Rigour.{Rigour}
use Rattle.plex_spell.specs.Tokens.{Declared}
use Rattle.plex_spell.specs.Patterns.{Place}
use Rattle.plex_spell.specs.Patterns.Place.{AShort, AResource, AConnector, Either, ADecision, AnOption}
use Rattle.plex_spell.specs.Forms.{Forms, ◌or◌, command_at}
use Rattle.plex_spell.specs.Forms.Forms.{NoForms, Row}

abbrev pub ask_places : List Place
ask_places = AResource ∷ Either (codes "EXCL") (codes "SHR") ∷ AnOption (codes "REC") AShort ∷ []

abbrev pub decide_places : List Place
decide_places = AResource ∷ AConnector ∷ ADecision ∷ []

abbrev pub lock_forms : Forms LockCmd
lock_forms =
    Row (codes "OBTAIN") ask_places (λ v. Obtain v.0 v.1.0 v.1.1.0)
    or Row (codes "ALTER") ask_places (λ v. Alter v.0 v.1.0 v.1.1.0)
    or Row (codes "RELEASE") (AResource ∷ []) (λ v. Release v.0)
    or Row (codes "DECIDE") decide_places (λ v. Decide v.0 v.1.0 v.1.1.0)
    or Row (codes "RTREAD") (AConnector ∷ []) (λ v. RtRead v.0)
    or Row (codes "RTDELETE") (AConnector ∷ AResource ∷ []) (λ v. RtDelete v.0 v.1.0)
    or NoForms

abbrev pub lock_at : Rigour → Declared → List (List ℕ) → Option (LockCmd × List (List ℕ))
lock_at rigour declared words = command_at rigour declared lock_forms words
