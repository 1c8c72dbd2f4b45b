-- The lines of a report.
use Rattle.std.specs.Prelude.{ℕ, ◌+◌, ◌/◌, ◌%◌, Bool, true, false, List, [], ◌∷◌, ◌++◌, zero, suc, length, map, codes}
use Rattle.std.specs.Fmt.{decimal}
use Rattle.plex_script.specs.CfTypes.declared.numbers.ConnId.{ConnId}
use Rattle.plex_script.specs.CfTypes.declared.forms.Kind.{Kind}
use Rattle.plex_script.specs.CfTypes.declared.forms.Kind.TheVariants as kind
use Rattle.plex_script.specs.CfTypes.declared.shell_commands.ShellCmd.{ShellCmd}
use Rattle.plex_script.specs.CfTypes.declared.shell_commands.ShellCmd.TheVariants as cmd
use Rattle.plex_script.specs.CfTypes.declared.shell_commands.ShellReply.{ShellReply}
use Rattle.plex_script.specs.CfTypes.declared.shell_commands.ShellReply.TheVariants as shell
use Rattle.plex_script.specs.EngineApi.declared.asks.Ask.TheVariants as ask
use Rattle.plex_script.specs.EngineApi.declared.asks.Reply.{Reply}
use Rattle.plex_script.specs.EngineApi.declared.asks.Reply.TheVariants as reply
use Rattle.plex_script.specs.EngineApi.declared.asks.What.{What}
use Rattle.plex_script.specs.EngineApi.declared.asks.What.TheVariants as what
use Rattle.plex_script.specs.EngineApi.declared.histories.Entry.{Entry}
use Rattle.plex_script.specs.PlexSpell.Words.{line_of}
use Rattle.plex_script.specs.declared.asks.AnyHistory.{AnyHistory}
use Rattle.plex_script.specs.declared.asks.AnyHistory.TheVariants as any
use Rattle.plex_script.specs.declared.scripts.Script.{Script}
use Rattle.plex_script.specs.declared.transcripts.Shown.{Shown}
use Rattle.plex_script.specs.declared.transcripts.Shown.TheVariants.{Call, Test, Word, BadIndex, Posted, Took}
use Rattle.plex_script.specs.declared.transcripts.Transcript.{Transcript}
use Rattle.plex_script.specs.Causes.{kind_of}
use Rattle.plex_script.specs.PlexPlain.Naming.{facility_word}
use Rattle.plex_report.specs.Naming.{caller_name, caller_word, structure_name, structure_word}
use Rattle.plex_report.specs.CommandWords.{ask_words, alter_words, queue_words, lock_words}
use Rattle.plex_report.specs.RefusalWords.{refusal_words}
use Rattle.plex_report.specs.ReplyWords.{shell_reply_words, alter_reply_words, queue_reply_words, lock_reply_words}

-- ---- histories

-- a heading: a word, a name, and how many lines follow
abbrev pub heading : List ℕ → List ℕ → ℕ → List ℕ
heading word name n = line_of (word ∷ name ∷ decimal n ∷ [])

-- a loss that VARY brings about is told behind OK, and one that comes by itself is not
abbrev pub vary_words : ShellReply → List (List ℕ)
vary_words (shell.Simplex cf) = codes "OK" ∷ []
vary_words (shell.Stopped number) = codes "OK" ∷ []
vary_words shell.FailedNow = codes "OK" ∷ []
vary_words _ = []

abbrev pub is_vary : ShellCmd → Bool
is_vary (cmd.Vary cf off) = true
is_vary _ = false

abbrev pub is_of_vary : {C : Type 0} → What C → Bool
is_of_vary (what.Call (ask.Shell cmd)) = is_vary cmd
is_of_vary (what.Call (ask.Content cmd)) = false
is_of_vary (what.Lost cf) = false

abbrev pub ok_words : Bool → ShellReply → List (List ℕ)
ok_words true answer = vary_words answer
ok_words false answer = []

-- who did what: a caller its command, or the system lost a facility
abbrev pub what_words : {C : Type 0} → (Script → C → List (List ℕ)) → Script → ConnId → What C → List (List ℕ)
what_words cmd_words script by (what.Call ask) = caller_word script by ∷ ask_words cmd_words script ask
what_words cmd_words script by (what.Lost cf) = codes "SYS" ∷ codes "LOST" ∷ facility_word cf ∷ []

abbrev pub reply_words : {R : Type 0} → (Script → R → List (List ℕ)) → Script → Bool → Reply R → List (List ℕ)
reply_words answer_words script vary (reply.Shell answer) = ok_words vary answer ++ shell_reply_words script answer
reply_words answer_words script vary (reply.Content answer) = answer_words script answer
reply_words answer_words script vary (reply.Refused refusal) = codes "REFUSED" ∷ refusal_words script refusal

module _ {C R : Type 0} where
  -- an entry: its number, who did what, and the reply
  abbrev pub entry_line : (Script → C → List (List ℕ)) → (Script → R → List (List ℕ)) → Script → Entry C R → List ℕ
  entry_line cmd_words answer_words script entry =
      line_of (decimal entry.no ∷ what_words cmd_words script entry.by entry.what
      ++ codes "->" ∷ reply_words answer_words script (is_of_vary entry.what) entry.reply)

  abbrev pub entry_lines : (Script → C → List (List ℕ)) → (Script → R → List (List ℕ)) → Script → ℕ → List (Entry C R)
      → List (List ℕ)
  entry_lines cmd_words answer_words script n entries =
      heading (codes "HISTORY") (structure_name script n) (length entries) ∷ map
      (entry_line cmd_words answer_words script) entries

-- the history of the structure with this number
abbrev pub history_lines : Script → ℕ → AnyHistory → List (List ℕ)
history_lines script n (any.Cache entries) = entry_lines alter_words alter_reply_words script n entries
history_lines script n (any.List entries) = entry_lines queue_words queue_reply_words script n entries
history_lines script n (any.Lock entries) = entry_lines lock_words lock_reply_words script n entries

-- how many entries there are
abbrev pub any_length : AnyHistory → ℕ
any_length (any.Cache entries) = length entries
any_length (any.List entries) = length entries
any_length (any.Lock entries) = length entries

-- ---- transcripts

-- what a bit says: that a header has records, or else that a copy is valid
abbrev pub bit_word : Kind → Bool → List ℕ
bit_word kind.Cache true = codes "VALID"
bit_word kind.Cache false = codes "INVALID"
bit_word (kind.List headers locks refs) true = codes "NOTEMPTY"
bit_word (kind.List headers locks refs) false = codes "EMPTY"
bit_word kind.Lock true = codes "VALID"
bit_word kind.Lock false = codes "INVALID"

-- so many binary digits of a number, the lowest first
unfoldable pub binary_digits : ℕ → ℕ → List ℕ
binary_digits zero n = []
binary_digits (suc count) n = (48 + n % 2) ∷ binary_digits count (n / 2)

abbrev pub test_word : Bool → List ℕ
test_word true = codes "TESTWORD"
test_word false = codes "TEST"

-- what was shown of a structure
abbrev pub shown_line : Script → Shown → List ℕ
shown_line script (Call on number) = line_of (structure_word script on ∷ decimal number ∷ [])
shown_line script (Test on index bit at) =
    line_of (structure_word script on ∷ codes "TEST" ∷ decimal index ∷ bit_word
    (kind_of script.structures on) bit ∷ decimal at ∷ [])
shown_line script (Word on word bits at) =
    line_of (structure_word script on ∷ codes "TESTWORD" ∷ decimal word ∷ binary_digits 32 bits ∷ decimal at ∷ [])
shown_line script (BadIndex on index word len) =
    line_of (structure_word script on ∷ test_word word ∷ decimal index ∷ codes "BADINDEX" ∷ decimal len ∷ [])
shown_line script (Posted on sure) = line_of (structure_word script on ∷ codes "POST" ∷ decimal sure ∷ [])
shown_line script (Took on sure) = line_of (structure_word script on ∷ codes "TAKE" ∷ decimal sure ∷ [])

-- the transcript of the caller with this number
abbrev pub transcript_lines : Script → ℕ → Transcript → List (List ℕ)
transcript_lines script n transcript =
    heading (codes "TRANSCRIPT") (caller_name script n) (length transcript.items) ∷ map
    (shown_line script) transcript.items
