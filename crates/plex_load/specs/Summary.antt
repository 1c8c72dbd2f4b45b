-- What is told of a load: its number, and counts of what was done.
use Rattle.std.specs.Prelude.{ℕ, ◌+◌, Bool, true, false, List, [], ◌∷◌, ◌++◌, length, map, count_by, sum_by, codes}
use Rattle.std.specs.Fmt.{decimal}
use Rattle.std.specs.List.{flat_map, range_with_len}
use Rattle.plex_script.specs.CfTypes.declared.numbers.ConnId.{ConnId}
use Rattle.plex_script.specs.EngineApi.declared.asks.Reply.{Reply}
use Rattle.plex_script.specs.EngineApi.declared.asks.Reply.TheVariants as reply
use Rattle.plex_script.specs.EngineApi.declared.histories.Entry.{Entry}
use Rattle.plex_script.specs.PlexSpell.Words.{line_of, line_text}
use Rattle.plex_script.specs.declared.asks.AnyHistory.{AnyHistory}
use Rattle.plex_script.specs.declared.asks.AnyHistory.TheVariants as history
use Rattle.plex_script.specs.declared.transcripts.Shown.{Shown}
use Rattle.plex_script.specs.declared.transcripts.Shown.TheVariants.{Call, Test, Word, BadIndex, Posted, Took}
use Rattle.plex_script.specs.declared.transcripts.Transcript.{Transcript}
use Rattle.plex_script.specs.Heard.{any_calls, any_length, own_calls}
use Rattle.plex_load.specs.Generated.{letter}

-- ---- counts

-- the calls of a connector in histories, its departures among them
abbrev pub calls_by : ConnId → List AnyHistory → ℕ
calls_by conn histories = sum_by (λ entries. length (own_calls (any_calls entries) conn)) histories

-- a test of a bit
abbrev pub is_test : Shown → Bool
is_test (Call on number) = false
is_test (Test on index bit at) = true
is_test (Word on word bits at) = false
is_test (BadIndex on index word len) = false
is_test (Posted on sure) = false
is_test (Took on sure) = false

abbrev pub tests_of : Transcript → ℕ
tests_of transcript = count_by is_test transcript.items

abbrev pub is_refusal : {R : Type 0} → Reply R → Bool
is_refusal (reply.Shell answer) = false
is_refusal (reply.Content answer) = false
is_refusal (reply.Refused refusal) = true

abbrev pub refusals : {C R : Type 0} → List (Entry C R) → ℕ
refusals entries = count_by (λ entry. is_refusal entry.reply) entries

abbrev pub refusals_of : AnyHistory → ℕ
refusals_of (history.Cache entries) = refusals entries
refusals_of (history.List entries) = refusals entries
refusals_of (history.Lock entries) = refusals entries

-- ---- lines

abbrev pub count_line : List ℕ → ℕ → List ℕ
count_line word n = line_of (word ∷ decimal n ∷ [])

-- the calls of connector c, from 0
abbrev pub calls_line : List AnyHistory → ℕ → List ℕ
calls_line histories c =
    line_of (codes "CALLS" ∷ letter c ∷ decimal (calls_by (record { 0 = c + 1 }) histories) ∷ [])

-- of so many connectors
unfoldable pub calls_lines : List AnyHistory → ℕ → List (List ℕ)
calls_lines histories count = map (calls_line histories) (range_with_len 0 count)

abbrev pub summary_lines : ℕ → List AnyHistory → List Transcript → List (List ℕ)
summary_lines n histories transcripts =
    count_line (codes "LOAD") n ∷ (calls_lines histories 4
    ++ count_line (codes "TESTS") (sum_by tests_of transcripts)
    ∷ count_line (codes "ENTRIES") (sum_by any_length histories)
    ∷ count_line (codes "REFUSED") (sum_by refusals_of histories) ∷ codes "END" ∷ [])

-- each line with its line feed
abbrev pub summary : ℕ → List AnyHistory → List Transcript → List ℕ
summary n histories transcripts = flat_map line_text (summary_lines n histories transcripts)
