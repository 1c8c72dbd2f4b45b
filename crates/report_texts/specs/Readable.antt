-- Which histories and transcripts a report of a script may show.
use Rattle.std.specs.Prelude.{◌≡◌, ℕ, ◌+◌, ◌<◌, ◌^◌, length, slice_get, Some, All}
use Rattle.check_model.specs.RunShown.CfTypes.declared.forms.StrForm.{StrForm}
use Rattle.check_model.specs.RunShown.CfTypes.declared.numbers.StrNo.{StrNo}
use Rattle.check_model.specs.RunShown.PlexScript.declared.asks.AnyHistory.{AnyHistory}
use Rattle.check_model.specs.RunShown.PlexScript.declared.asks.AnyHistory.TheVariants as history
use Rattle.check_model.specs.RunShown.PlexScript.declared.scripts.AnyAsk.TheVariants as ask
use Rattle.check_model.specs.RunShown.PlexScript.declared.scripts.Script.{Script}
use Rattle.check_model.specs.RunShown.PlexScript.declared.transcripts.Transcript.{Transcript}
use Rattle.check_model.specs.RunShown.PlexScript.Heard.{any_length}
use Rattle.check_model.specs.RunShown.Kinds.{IsOfKind}
use Rattle.check_model.specs.declared.printed.Printed.{Printed}
use Rattle.check_model.specs.Printings.{AreDone}
use Rattle.reply_rows.specs.Within.{IsAlterReply, IsQueueReply, IsLockReply}
use Rattle.report_lines.specs.Readable.{IsEntry, IsItem}

-- each entry is one that a line may show
abbrev pub AreEntries : Script → StrNo → AnyHistory → Type 0
AreEntries script on (history.Cache entries) = All (IsEntry ask.Cache IsAlterReply script on) entries
AreEntries script on (history.List entries) = All (IsEntry ask.List IsQueueReply script on) entries
AreEntries script on (history.Lock entries) = All (IsEntry ask.Lock (λ connectors. IsLockReply) script on) entries

-- ---- the whole

-- a history for each structure, and a transcript for each caller, as the lines of a report can have them. A heading
-- tells how many lines follow, in 64 bits
pub record AreReadable (script : Script) (printed : Printed) : Type 0 where
  pub structures : length printed.histories ≡ length script.structures
  pub kinds : (x : ℕ) (form : StrForm) (entries : AnyHistory) → slice_get script.structures x ≡ Some form
      → slice_get printed.histories x ≡ Some entries → IsOfKind form.kind entries
  pub counts : (x : ℕ) (entries : AnyHistory) → slice_get printed.histories x ≡ Some entries
      → any_length entries < 2 ^ 64
  pub entries : (x : ℕ) (entries : AnyHistory) → slice_get printed.histories x ≡ Some entries
      → AreEntries script (record { 0 = x }) entries
  pub callers : length printed.transcripts ≡ length script.connectors + 1
  pub done : AreDone printed
  pub item_counts : (c : ℕ) (transcript : Transcript) → slice_get printed.transcripts c ≡ Some transcript
      → length transcript.items < 2 ^ 64
  pub items : (c : ℕ) (transcript : Transcript) → slice_get printed.transcripts c ≡ Some transcript
      → All (IsItem script) transcript.items
