-- What a run shows: a legal history of each structure, each caller's calls in it once and in their order, and tests
-- that tell what stood at a numbered point of it.
use Rattle.std.specs.Prelude.{◌≡◌, ℕ, ◌+◌, ◌*◌, ◌^◌, ◌≤◌, ◌<◌, ◌&&◌, nat_lt, Bool, if◌then◌else◌, List, length, take, slice_get, Some, All, sum_by}
use Rattle.plex_script.specs.CfTypes.declared.forms.StrForm.{StrForm}
use Rattle.plex_script.specs.CfTypes.declared.numbers.ConnId.{ConnId}
use Rattle.plex_script.specs.CfTypes.declared.numbers.StrNo.{StrNo}
use Rattle.plex_script.specs.declared.asks.AnyHistory.{AnyHistory}
use Rattle.plex_script.specs.declared.scripts.Script.{Script}
use Rattle.plex_script.specs.declared.transcripts.AgentEnd.{AgentEnd}
use Rattle.plex_script.specs.declared.transcripts.AgentEnd.TheVariants as ended
use Rattle.plex_script.specs.declared.transcripts.Shown.{Shown}
use Rattle.plex_script.specs.declared.transcripts.Shown.TheVariants as shown
use Rattle.plex_script.specs.declared.transcripts.Transcript.{Transcript}
use Rattle.plex_script.specs.Heard.{any_calls}
use Rattle.plex_script.specs.Follows.{Follows, Stops, surest_on}
use Rattle.run_shown.specs.Kinds.{IsOfKind, IsAnyLegal, AnyTells, numbers_from}
use Rattle.run_shown.specs.Numbers.{seen_on}

-- ---- tests

-- a test of one bit: the number isn't before anything seen, and the bit is what stood at a numbered point that isn't
-- before anything seen complete
pub record TellsBit (form : StrForm) (entries : AnyHistory) (conn : ConnId) (on : StrNo) (before : List Shown)
    (at index : ℕ) (bit : Bool) : Type 0 where
  pub seen : seen_on on before ≤ at
  pub tells : AnyTells form entries at (surest_on on before) conn index bit

-- 32 bits as a word, those past the vector's end 0
abbrev pub word_of : ℕ → ℕ → (ℕ → Bool) → ℕ
word_of vector word bits = sum_by (λ k. if nat_lt (32 * word + k) vector && bits k then 2 ^ k else 0)
    (numbers_from 0 32)

-- a test of a word is 32 tests of its bits
pub record TellsWord (form : StrForm) (entries : AnyHistory) (conn : ConnId) (on : StrNo) (before : List Shown)
    (at word value : ℕ) : Type 0 where
  pub bits : ℕ → Bool
  pub made : value ≡ word_of form.vector word bits
  pub each : (k : ℕ) → k < 32 → 32 * word + k < form.vector → TellsBit form entries conn on before at (32 * word + k)
      (bits k)

-- what an item of a caller tells of a structure
abbrev pub TellsOf : StrForm → AnyHistory → ConnId → StrNo → List Shown → Shown → Type 0
TellsOf form entries conn on before (shown.Test place index bit at) = TellsBit form entries conn on before at index
    bit
TellsOf form entries conn on before (shown.Word place word bits at) = TellsWord form entries conn on before at word
    bits
TellsOf form entries conn on before (shown.Call place number) = Unit {0}
TellsOf form entries conn on before (shown.BadIndex place index word len) = Unit {0}
TellsOf form entries conn on before (shown.Posted place sure) = Unit {0}
TellsOf form entries conn on before (shown.Took place sure) = Unit {0}

-- the structure of an item
abbrev pub place_of : Shown → StrNo
place_of (shown.Call place number) = place
place_of (shown.Test place index bit at) = place
place_of (shown.Word place word bits at) = place
place_of (shown.BadIndex place index word len) = place
place_of (shown.Posted place sure) = place
place_of (shown.Took place sure) = place

-- each test that a caller's items show tells what stood
abbrev pub TestsTell : List StrForm → List AnyHistory → ConnId → List Shown → Type 0
TestsTell forms histories conn items =
    (k : ℕ) (item : Shown) (form : StrForm) (entries : AnyHistory) → slice_get items k ≡ Some item
    → slice_get forms (place_of item).0 ≡ Some form → slice_get histories (place_of item).0 ≡ Some entries
    → TellsOf form entries conn (place_of item) (take k items) item

-- ---- the whole

-- a transcript follows the script, or stops where a journal is full
abbrev pub EndsRight : ℕ → Script → List AnyHistory → ConnId → List Shown → AgentEnd → Type 0
EndsRight limit script histories conn items ended.Done = Follows script histories conn items
EndsRight limit script histories conn items (ended.JournalFull on) = Stops limit script histories conn items on
EndsRight limit script histories conn items (ended.NoMemory cause) = ⊥

-- the history of a structure: of its kind, legal, and with calls of the script's callers alone
pub record IsHistoryOf (script : Script) (form : StrForm) (entries : AnyHistory) : Type 0 where
  pub kind : IsOfKind form.kind entries
  pub legal : IsAnyLegal form entries
  pub callers : All (λ call. call.by.0 ≤ length script.connectors) (any_calls entries)

pub record ShowsHistories (limit : ℕ) (script : Script) (histories : List AnyHistory)
    (transcripts : List Transcript) : Type 0 where
  pub structures : length histories ≡ length script.structures
  pub histories_right : (x : ℕ) (form : StrForm) (entries : AnyHistory) → slice_get script.structures x ≡ Some form
      → slice_get histories x ≡ Some entries → IsHistoryOf script form entries
  pub callers : length transcripts ≡ length script.connectors + 1
  pub ends : (c : ℕ) (transcript : Transcript) → slice_get transcripts c ≡ Some transcript
      → EndsRight limit script histories (record { 0 = c }) transcript.items transcript.end
  pub tests : (c : ℕ) (transcript : Transcript) → slice_get transcripts c ≡ Some transcript
      → TestsTell script.structures histories (record { 0 = c }) transcript.items
