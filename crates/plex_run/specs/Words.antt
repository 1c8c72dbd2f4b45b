-- Which words of the command line ask for which work.
use Rattle.std.specs.Prelude.{◌≡◌, ℕ, List, [], ◌∷◌, map, Option, Some, codes, String, string_bytes}
use Rattle.plex_load.specs.PlexSpell.declared.rigour.Rigour.TheVariants.{Limits}
use Rattle.plex_load.specs.PlexSpell.Places.{number_of}
use Rattle.plex_run.specs.declared.way.Way.TheVariants as ways
use Rattle.plex_run.specs.declared.way.Work.{Work}
use Rattle.plex_run.specs.declared.way.Work.TheVariants as works

-- the number that a word says, as scripts spell numbers of 32 bits
abbrev pub number_said : List ℕ → Option ℕ
number_said word = number_of Limits 0 4294967295 word

-- the words ask for this work: each form of the program's command line
abbrev pub Say : {A : Type 0} → List (String A) → Work → Type 0
Say words (works.Script ways.InTurn) = map string_bytes words ≡ codes "serial" ∷ []
Say words (works.Script ways.OnThreads) = map string_bytes words ≡ codes "threads" ∷ []
Say words (works.Load n) =
    (word : List ℕ) × (map string_bytes words ≡ codes "load" ∷ word ∷ []) × (number_said word ≡ Some n)
Say words works.Locks = map string_bytes words ≡ codes "locks" ∷ []
Say words works.Check = map string_bytes words ≡ codes "check" ∷ []
