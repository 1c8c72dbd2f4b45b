-- What a check has found of histories and of the tests of callers.
use Rattle.std.specs.Prelude.{◌≡◌, ℕ, List, length, take, slice_get, Some, All, ◌<◌}
use Rattle.cf_types.specs.declared.forms.StrForm.{StrForm}
use Rattle.cf_types.specs.declared.numbers.ConnId.{ConnId}
use Rattle.cf_types.specs.declared.numbers.StrNo.{StrNo}
use Rattle.vector_waits.specs.Waits.{QueueView}
use Rattle.history_check.specs.declared.judged.Judged.{Judged}
use Rattle.history_check.specs.declared.judged.Judged.TheVariants as judged
use Rattle.history_check.specs.Judging.{IsJudged}
use Rattle.check_model.specs.RunShown.Meanings.{altered_caches}
use Rattle.check_model.specs.RunShown.QueueModel.ListQueues.{queued_lists}
use Rattle.check_model.specs.RunShown.LockModel.Meaning.{lock_meaning}
use Rattle.check_model.specs.RunShown.PlexScript.declared.asks.AnyHistory.{AnyHistory}
use Rattle.check_model.specs.RunShown.PlexScript.declared.asks.AnyHistory.TheVariants as history
use Rattle.check_model.specs.RunShown.PlexScript.declared.scripts.Script.{Script}
use Rattle.check_model.specs.RunShown.PlexScript.declared.transcripts.Shown.{Shown}
use Rattle.check_model.specs.RunShown.PlexScript.declared.transcripts.Transcript.{Transcript}
use Rattle.check_model.specs.RunShown.Kinds.{IsAnyLegal}
use Rattle.check_model.specs.declared.printed.Printed.{Printed}
use Rattle.caller_waits.specs.CallerItems.Orders.{AreInOrder}
use Rattle.caller_waits.specs.Tests.{queue_of}
use Rattle.check_model.specs.Judged.{AreLegalBelow, IsAnyBadBlock, IsBadEntryOf}
use Rattle.check_model.specs.RunShown.Headline.{place_of}
use Rattle.caller_check.specs.Tables.{IsAnswered, rows_of}
use Rattle.plex_check.specs.declared.structures.AllJudged.{AllJudged}
use Rattle.plex_check.specs.declared.structures.AllJudged.TheVariants as all

-- a history of whatever kind is legal, or its first bad block begins at this place, from 1
abbrev pub IsAnyJudged : StrForm → AnyHistory → Judged → Type 0
IsAnyJudged form (history.Cache entries) found = IsJudged altered_caches form entries found
IsAnyJudged form (history.List entries) found = IsJudged queued_lists form entries found
IsAnyJudged form (history.Lock entries) found = IsJudged lock_meaning form entries found

-- each item is one of a structure that has a history
abbrev pub AreShownOf : Printed → Type 0
AreShownOf printed =
    (c : ℕ) (transcript : Transcript) → slice_get printed.transcripts c ≡ Some transcript
    → All (λ item. (place_of item).0 < length printed.histories) transcript.items

-- the tests of a structure that a caller's items show, as far as the items are in order
pub record IsQueueOf (histories : List AnyHistory) (on : StrNo) (vector : ℕ) (conn : ConnId) (items : List Shown)
    (queue : QueueView) : Type 0 where
  pub many : ℕ
  pub order : AreInOrder histories items many
  pub tests : queue ≡ queue_of on vector conn (take many items)

-- a queue of each of the first callers, so many
pub record AreQueuesOf (histories : List AnyHistory) (on : StrNo) (vector : ℕ) (transcripts : List Transcript) (n : ℕ)
    (queues : List QueueView) : Type 0 where
  pub size : length queues ≡ n
  pub each : (conn : ConnId) (transcript : Transcript) (queue : QueueView)
      → slice_get transcripts conn.0 ≡ Some transcript → slice_get queues conn.0 ≡ Some queue
      → IsQueueOf histories on vector conn transcript.items queue

-- a structure's history is legal, and has answered the tests of all callers
pub record IsTable (printed : Printed) (on : StrNo) (form : StrForm) (entries : AnyHistory) (table : List QueueView)
    : Type 0 where
  pub legal : IsAnyLegal form entries
  pub row : length table ≡ length printed.transcripts
  pub each : (conn : ConnId) (transcript : Transcript) (queue : QueueView)
      → slice_get printed.transcripts conn.0 ≡ Some transcript → slice_get table conn.0 ≡ Some queue
      → IsAnswered printed.histories on form entries conn transcript.items queue

-- or it isn't legal, and its first bad block begins at this place
abbrev pub IsTableWhere : Printed → StrNo → StrForm → AnyHistory → List QueueView → Judged → Type 0
IsTableWhere printed on form entries table judged.Legal = IsTable printed on form entries table
IsTableWhere printed on form entries table (judged.Bad place) = IsAnyBadBlock form entries place

-- the tables of the first structures, so many
pub record AreTables (script : Script) (printed : Printed) (n : ℕ) (tables : List (List QueueView)) : Type 0 where
  pub size : length tables ≡ n
  pub each : (on : StrNo) (form : StrForm) (entries : AnyHistory) (table : List QueueView)
      → slice_get script.structures on.0 ≡ Some form → slice_get printed.histories on.0 ≡ Some entries
      → slice_get tables on.0 ≡ Some table → IsTable printed on form entries table

-- what is found of a structure of the script
pub record IsStructureJudged (script : Script) (printed : Printed) (on : StrNo) (table : List QueueView)
    (found : Judged) : Type 0 where
  pub form : StrForm
  pub entries : AnyHistory
  pub known : slice_get script.structures on.0 ≡ Some form
  pub there : slice_get printed.histories on.0 ≡ Some entries
  pub is : IsTableWhere printed on form entries table found

-- what is found of all
abbrev pub AreJudged : Script → Printed → AllJudged → Type 0
AreJudged script printed (all.Tables tables) =
    AreTables script printed (length script.structures) (rows_of tables.items)
AreJudged script printed (all.Bad on place) =
    AreLegalBelow script printed.histories on.0 × IsBadEntryOf script printed.histories on place
