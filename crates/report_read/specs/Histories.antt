-- The entries that the lines of a structure's history show, and histories.
use Rattle.std.specs.Prelude.{◌≡◌, ℕ, ◌<◌, ◌^◌, List, [], map, replicate, Some, slice_get}
use Rattle.report_texts.specs.CheckModel.RunShown.CfTypes.declared.forms.Kind.{Kind}
use Rattle.report_texts.specs.CheckModel.RunShown.CfTypes.declared.forms.Kind.TheVariants as kinds
use Rattle.report_texts.specs.CheckModel.RunShown.CfTypes.declared.forms.StrForm.{StrForm}
use Rattle.report_texts.specs.CheckModel.RunShown.CfTypes.declared.numbers.StrNo.{StrNo}
use Rattle.report_texts.specs.CheckModel.RunShown.PlexScript.declared.asks.AnyHistory.{AnyHistory}
use Rattle.report_texts.specs.CheckModel.RunShown.PlexScript.declared.asks.AnyHistory.TheVariants as history
use Rattle.report_texts.specs.CheckModel.RunShown.PlexScript.declared.scripts.Script.{Script}
use Rattle.report_texts.specs.CheckModel.RunShown.PlexScript.Causes.{kind_of}
use Rattle.report_texts.specs.CheckModel.RunShown.PlexScript.Heard.{any_length}
use Rattle.report_texts.specs.CheckModel.RunShown.Kinds.{IsOfKind}
use Rattle.report_texts.specs.PlexReport.CommandWords.{alter_words, queue_words, lock_words}
use Rattle.report_texts.specs.PlexReport.Lines.{entry_line}
use Rattle.report_texts.specs.PlexReport.ReplyWords.{alter_reply_words, queue_reply_words, lock_reply_words}
use Rattle.report_texts.specs.Readable.{AreEntries}
use Rattle.report_fronts.specs.Slots.{IsEntryLine}
use Rattle.report_fronts.specs.Slots.Slot.{Entered}
use Rattle.report_read.specs.declared.cursor.Cursor.{Cursor}
use Rattle.report_read.specs.Picked.{ArePickedEntries}
use Rattle.report_read.specs.Reads.{IsRead}

-- a line is an entry's of the structure just where one of these prints so
pub record Shows {E : Type 0} (prints : Script → E → List ℕ) (may : Script → StrNo → E → Type 0) (script : Script)
    (on : StrNo) : Type 0 where
  pub told : (entry : E) → may script on entry
      → IsEntryLine script on (kind_of script.structures on) (prints script entry)
  pub only : (line : List ℕ) → IsEntryLine script on (kind_of script.structures on) line
      → (entry : E) × may script on entry × (line ≡ prints script entry)

-- the lines of its entries
abbrev pub entries_behind : Script → AnyHistory → List (List ℕ)
entries_behind script (history.Cache entries) = map (entry_line alter_words alter_reply_words script) entries
entries_behind script (history.List entries) = map (entry_line queue_words queue_reply_words script) entries
entries_behind script (history.Lock entries) = map (entry_line lock_words lock_reply_words script) entries

-- a history that a report may show of the structure with this number, each entry the one that is meant
pub record IsHistory (script : Script) (x : ℕ) (entries : AnyHistory) : Type 0 where
  pub kind : (form : StrForm) → slice_get script.structures x ≡ Some form → IsOfKind form.kind entries
  pub count : any_length entries < 2 ^ 64
  pub each : AreEntries script (record { 0 = x }) entries
  pub picked : ArePickedEntries script (record { 0 = x }) entries

-- so many entries are read, behind the heading of the history of the structure with this number
pub record AreBehind (script : Script) (text : List ℕ) (from : Cursor) (x n : ℕ) (entries : AnyHistory) (to : Cursor)
    : Type 0 where
  pub kind : IsOfKind (kind_of script.structures (record { 0 = x })) entries
  pub count : any_length entries ≡ n
  pub each : AreEntries script (record { 0 = x }) entries
  pub picked : ArePickedEntries script (record { 0 = x }) entries
  pub read : IsRead script text from (replicate n (Entered (record { 0 = x }))) (entries_behind script entries) [] to

abbrev pub IsList : Kind → Type 0
IsList kinds.Cache = ⊥
IsList (kinds.List headers locks refs) = Unit {0}
IsList kinds.Lock = ⊥
