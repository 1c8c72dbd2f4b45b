-- What is printed of a script's structures and callers, whatever it says of them.
use Rattle.std.specs.Prelude.{◌≡◌, ℕ, ◌+◌, ◌≤◌, ◌<◌, length, slice_get, Some, All}
use Rattle.caller_slots.specs.RunShown.CfTypes.declared.forms.StrForm.{StrForm}
use Rattle.caller_slots.specs.RunShown.PlexScript.declared.asks.AnyHistory.{AnyHistory}
use Rattle.caller_slots.specs.RunShown.PlexScript.declared.scripts.Script.{Script}
use Rattle.caller_slots.specs.RunShown.PlexScript.declared.transcripts.AgentEnd.TheVariants as ended
use Rattle.caller_slots.specs.RunShown.PlexScript.declared.transcripts.Transcript.{Transcript}
use Rattle.caller_slots.specs.RunShown.PlexScript.Heard.{AnyCall, any_calls}
use Rattle.caller_slots.specs.RunShown.Headline.{place_of}
use Rattle.caller_slots.specs.RunShown.Kinds.{IsOfKind, MayAskAny}
use Rattle.check_model.specs.declared.printed.Printed.{Printed}

-- a call is one of the script's callers, who may ask it
abbrev pub IsCallOf : Script → AnyCall → Type 0
IsCallOf script call = (call.by.0 ≤ length script.connectors) × MayAskAny call.by call.ask

-- a history is one of a structure of this form, with calls of the script's callers alone
pub record IsPrintedHistory (script : Script) (form : StrForm) (entries : AnyHistory) : Type 0 where
  pub kind : IsOfKind form.kind entries
  pub callers : All (IsCallOf script) (any_calls entries)

-- each transcript has the end Done
abbrev pub AreDone : Printed → Type 0
AreDone printed =
    (c : ℕ) (transcript : Transcript) → slice_get printed.transcripts c ≡ Some transcript
    → transcript.end ≡ ended.Done

-- a history for each structure, and a transcript for each caller, the operator's first
pub record IsPrintedOf (script : Script) (printed : Printed) : Type 0 where
  pub structures : length printed.histories ≡ length script.structures
  pub histories : (x : ℕ) (form : StrForm) (entries : AnyHistory) → slice_get script.structures x ≡ Some form
      → slice_get printed.histories x ≡ Some entries → IsPrintedHistory script form entries
  pub callers : length printed.transcripts ≡ length script.connectors + 1
  pub done : AreDone printed
  pub items : (c : ℕ) (transcript : Transcript) → slice_get printed.transcripts c ≡ Some transcript
      → All (λ item. (place_of item).0 < length script.structures) transcript.items
