-- The lines that tell how a run ended.
use Rattle.std.specs.Prelude.{ℕ, List, [], ◌∷◌, ◌++◌, Option, None, Some, codes}
use Rattle.std.specs.Fmt.{decimal}
use Rattle.plex_run.specs.declared.program.TheConstants.{JOURNAL_LIMIT}
use Rattle.plex_load.specs.CfTypes.declared.names.Name16.{Name16}
use Rattle.plex_load.specs.PlexSpell.Tokens.{name_word}
use Rattle.plex_load.specs.PlexScript.declared.faults.Why.{Why}
use Rattle.plex_load.specs.PlexScript.declared.faults.Why.TheVariants.{Late, Syntax, Limit, Unknown, Twice, Space}

abbrev pub why_word : Why → List ℕ
why_word Late = codes "LATE"
why_word Syntax = codes "SYNTAX"
why_word Limit = codes "LIMIT"
why_word Unknown = codes "UNKNOWN"
why_word Twice = codes "TWICE"
why_word Space = codes "SPACE"

-- the line of a text that isn't served, and why
abbrev pub script_line : ℕ → List ℕ → List ℕ
script_line number why = codes "SCRIPT " ++ decimal number ++ 32 ∷ [] ++ why ++ 10 ∷ []

-- the structure whose journal got full is told before the report
abbrev pub full_line : Option Name16 → List ℕ
full_line None = []
full_line (Some name) = codes "JOURNALFULL " ++ name_word name ++ 32 ∷ decimal JOURNAL_LIMIT ++ 10 ∷ []

-- a text that is too long: more than so many bytes
abbrev pub too_long_line : ℕ → List ℕ
too_long_line limit = codes "TOOLONG " ++ decimal limit ++ 10 ∷ []

abbrev pub memory_line : List ℕ
memory_line = codes "NOMEMORY\n"
