-- One call, as an entry of a history has it: what stands behind who and structure of a line.
use Rattle.std.specs.Prelude.{◌≡◌, ◌⊎◌, ℕ, ◌+◌, ◌-◌, ◌&&◌, nat_lt, not, IsTrue, if◌then◌else◌, List, ◌∷◌, ◌++◌, length, Option, None, Some, codes}
use Rattle.cf_types.specs.declared.numbers.ConnId.{ConnId}
use Rattle.cf_types.specs.declared.numbers.StrNo.{StrNo}
use Rattle.cf_types.specs.declared.shell_commands.ShellCmd.TheVariants.{Next}
use Rattle.plex_plain.specs.Naming.{caller_name, structure_name}
use Rattle.plex_plain.specs.PlexSpell.declared.rigour.Rigour.TheVariants.{Names}
use Rattle.plex_plain.specs.PlexSpell.Places.{◌>>=◌}
use Rattle.plex_plain.specs.PlexSpell.ShellWords.{is_operator}
use Rattle.plex_plain.specs.PlexSpell.Words.{same_word, words_of}
use Rattle.plex_script.specs.declared.scripts.Act.{Act}
use Rattle.plex_script.specs.declared.scripts.Act.TheVariants.{Call, Test, TestWord, Post, Take, Events}
use Rattle.plex_script.specs.declared.scripts.AnyAsk.{AnyAsk}
use Rattle.plex_script.specs.declared.scripts.Script.{Script}
use Rattle.plex_script.specs.Agent.{shell_ask}
use Rattle.plex_script.specs.Causes.{declared_in, kind_of, is_long}
use Rattle.plex_script.specs.LineReading.{act_at}
use Rattle.plex_script.specs.LineWords.{SaysDone}

-- the text as a line of a caller at a structure
abbrev pub called_line : Script → StrNo → ConnId → List ℕ → List ℕ
called_line script on by text =
    caller_name script.connectors by.0 ++ 32 ∷ (structure_name script.structures on.0 ++ 32 ∷ text)

-- the text is a line's call behind who and structure, without RETRY; or it is the operator's NEXT, which no line says
abbrev pub MakesCommand : Script → StrNo → ConnId → List ℕ → AnyAsk → Type 0
MakesCommand script on by text asked =
    (SaysDone Names (declared_in script) by (kind_of script.structures on) (words_of text) (Call asked) 0
    × IsTrue (not (is_long (called_line script on by text))))
    ⊎ ((by.0 ≡ 0) × (text ≡ codes "NEXT") × (asked ≡ shell_ask (kind_of script.structures on) Next))

-- ---- as it is read

-- a call that isn't asked again
abbrev pub call_alone : Act × ℕ → Option AnyAsk
call_alone (Call asked, ℕ.zero) = Some asked
call_alone (Call asked, ℕ.suc retry) = None
call_alone (Test index, retry) = None
call_alone (TestWord word, retry) = None
call_alone (Post, retry) = None
call_alone (Take, retry) = None
call_alone (Events, retry) = None

abbrev pub call_in : Option (Act × ℕ) → Option AnyAsk
call_in told = told >>= call_alone

-- the call that a text makes, if it makes one
abbrev pub command_at : Script → StrNo → ConnId → List ℕ → Option AnyAsk
command_at script on by text =
    if is_operator by && same_word text (codes "NEXT") then Some (shell_ask (kind_of script.structures on) Next)
    else if is_long (called_line script on by text) then None
    else call_in (act_at Names (declared_in script) by (kind_of script.structures on) (words_of text))

-- how much of a line is left behind a word and a blank
abbrev pub space_behind : ℕ → List ℕ → Option ℕ
space_behind space word = if nat_lt (length word) space then Some (space - (length word + 1)) else None
