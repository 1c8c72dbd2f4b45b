-- The words for callers and structures of a script.
use Rattle.std.specs.Prelude.{ℕ, List}
use Rattle.plex_script.specs.CfTypes.declared.numbers.ConnId.{ConnId}
use Rattle.plex_script.specs.CfTypes.declared.numbers.StrNo.{StrNo}
use Rattle.plex_script.specs.PlexPlain.Naming as plain
use Rattle.plex_script.specs.declared.scripts.Script.{Script}

abbrev pub caller_name : Script → ℕ → List ℕ
caller_name script n = plain.caller_name script.connectors n

abbrev pub caller_word : Script → ConnId → List ℕ
caller_word script by = caller_name script by.0

abbrev pub structure_name : Script → ℕ → List ℕ
structure_name script n = plain.structure_name script.structures n

abbrev pub structure_word : Script → StrNo → List ℕ
structure_word script on = structure_name script on.0
