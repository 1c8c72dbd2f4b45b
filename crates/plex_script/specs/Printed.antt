-- The text of a script, line by line.
use Rattle.std.specs.Prelude.{ℕ, ◌+◌, List, [], ◌∷◌, ◌++◌, length, map, Option, None}
use Rattle.std.specs.List.{flat_map}
use Rattle.engine_api.specs.declared.asks.Ask.TheVariants.{Shell, Content}
use Rattle.plex_plain.specs.PlexSpell.Words.{line_of, line_text}
use Rattle.plex_plain.specs.PlexSpell.Tokens.{Token}
use Rattle.plex_plain.specs.Naming.{caller_name, structure_name}
use Rattle.plex_plain.specs.PlainWords.{plain_words, alter_storage_told}
use Rattle.plex_plain.specs.PolicyLines.{facility_line, structure_lines, connector_line}
use Rattle.plex_script.specs.declared.scripts.AnyAsk.TheVariants as any
use Rattle.plex_script.specs.declared.scripts.Act.{Act}
use Rattle.plex_script.specs.declared.scripts.Act.TheVariants.{Call, Test, TestWord, Post, Take, Events}
use Rattle.plex_script.specs.declared.scripts.Line.{Line}
use Rattle.plex_script.specs.declared.scripts.Script.{Script}
use Rattle.plex_script.specs.LineWords.{act_tokens, retry_tokens}
use Rattle.plex_script.specs.Scripts.{line_number}

-- the storage class that is written out, if one is
abbrev pub class_in : Act → Option ℕ
class_in (Call (any.Cache (Shell cmd))) = None
class_in (Call (any.Cache (Content cmd))) = alter_storage_told cmd
class_in (Call (any.List ask)) = None
class_in (Call (any.Lock ask)) = None
class_in (Test index) = None
class_in (TestWord word) = None
class_in Post = None
class_in Take = None
class_in Events = None

-- what a line says behind who and structure
abbrev pub line_tokens : Line → List Token
line_tokens line = act_tokens (class_in line.act) line.act ++ retry_tokens line.retry

-- who, at which structure, and what
abbrev pub body_line : Script → Line → List ℕ
body_line script line =
    line_of (caller_name script.connectors line.by.0 ∷ structure_name script.structures line.on.0
    ∷ plain_words [] script.connectors (line_tokens line))

-- facilities, structures with where their instances may stand, connectors
abbrev pub policy_lines : Script → List (List ℕ)
policy_lines script =
    map facility_line script.facilities ++
    (flat_map structure_lines script.structures ++ map connector_line script.connectors)

abbrev pub printed_lines : Script → List (List ℕ)
printed_lines script = policy_lines script ++ map (body_line script) script.lines

-- each line with its line feed
abbrev pub script_text : Script → List ℕ
script_text script = flat_map line_text (printed_lines script)

-- lines, numbered behind so many others
abbrev pub numbered_behind : ℕ → List Line → List Line
numbered_behind count [] = []
numbered_behind count (line ∷ lines) =
    record line { at = line_number (count + 1) } ∷ numbered_behind (count + 1) lines

-- the script, with its lines numbered as they stand in its text
abbrev pub with_line_numbers : Script → Script
with_line_numbers script = record script { lines = numbered_behind (length (policy_lines script)) script.lines }
