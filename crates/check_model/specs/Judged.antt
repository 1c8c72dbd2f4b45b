-- What a checker answers of histories and transcripts, and what each answer says.
use Rattle.std.specs.Prelude.{◌≡◌, ◌⊎◌, ℕ, ◌+◌, ◌-◌, ◌<◌, ◌≤◌, List, ◌++◌, length, take, slice_get, Some, sum_by}
use Rattle.caller_slots.specs.RunShown.CfTypes.declared.forms.StrForm.{StrForm}
use Rattle.caller_slots.specs.RunShown.CfTypes.declared.numbers.ConnId.{ConnId}
use Rattle.caller_slots.specs.RunShown.CfTypes.declared.numbers.StrNo.{StrNo}
use Rattle.caller_slots.specs.RunShown.Meanings.{altered_caches}
use Rattle.caller_slots.specs.RunShown.QueueModel.ListQueues.{queued_lists}
use Rattle.caller_slots.specs.RunShown.LockModel.Meaning.{lock_meaning}
use Rattle.caller_slots.specs.RunShown.PlexScript.declared.asks.AnyHistory.{AnyHistory}
use Rattle.caller_slots.specs.RunShown.PlexScript.declared.asks.AnyHistory.TheVariants as history
use Rattle.caller_slots.specs.RunShown.PlexScript.declared.scripts.Script.{Script}
use Rattle.caller_slots.specs.RunShown.PlexScript.declared.transcripts.Shown.{Shown}
use Rattle.caller_slots.specs.RunShown.PlexScript.declared.transcripts.Transcript.{Transcript}
use Rattle.caller_slots.specs.RunShown.PlexScript.Heard.{any_length}
use Rattle.caller_slots.specs.RunShown.PlexScript.Follows.{Follows}
use Rattle.caller_slots.specs.RunShown.Headline.{TestsTell, ShowsHistories}
use Rattle.caller_slots.specs.RunShown.Kinds.{IsAnyLegal}
use Rattle.block_laws.specs.Blocks.{IsBadBlock}
use Rattle.check_model.specs.declared.checked.Checked.{Checked}
use Rattle.check_model.specs.declared.checked.Checked.TheVariants as checked
use Rattle.check_model.specs.declared.printed.Printed.{Printed}

-- the first block with which a history of whatever kind isn't legal begins at this place, from 1
abbrev pub IsAnyBadBlock : StrForm → AnyHistory → ℕ → Type 0
IsAnyBadBlock form (history.Cache entries) place = IsBadBlock altered_caches form entries place
IsAnyBadBlock form (history.List entries) place = IsBadBlock queued_lists form entries place
IsAnyBadBlock form (history.Lock entries) place = IsBadBlock lock_meaning form entries place

-- a caller's transcript follows the script, and its tests tell what stood
abbrev pub IsGood : Script → List AnyHistory → ConnId → List Shown → Type 0
IsGood script histories conn items =
    Follows script histories conn items × TestsTell script.structures histories conn items

-- the first item after which no transcript with this beginning is good; the first where none is good at all; the number
-- after the last item where items are lacking
pub record IsBadItem (script : Script) (histories : List AnyHistory) (conn : ConnId) (items : List Shown) (item : ℕ)
    : Type 0 where
  pub some : 1 ≤ item
  pub last : item ≤ length items + 1
  pub before : (item ≡ 1) ⊎ ((more : List Shown) × IsGood script histories conn (take (item - 1) items ++ more))
  pub here : item ≤ length items → (more : List Shown) → IsGood script histories conn (take item items ++ more) → ⊥
  pub lacks : item ≡ length items + 1 → IsGood script histories conn items → ⊥

-- the histories of the first structures are legal, so many
abbrev pub AreLegalBelow : Script → List AnyHistory → ℕ → Type 0
AreLegalBelow script histories n =
    (x : ℕ) (form : StrForm) (entries : AnyHistory) → x < n → slice_get script.structures x ≡ Some form
    → slice_get histories x ≡ Some entries → IsAnyLegal form entries

pub record IsBadEntryOf (script : Script) (histories : List AnyHistory) (on : StrNo) (place : ℕ) : Type 0 where
  pub form : StrForm
  pub entries : AnyHistory
  pub known : slice_get script.structures on.0 ≡ Some form
  pub there : slice_get histories on.0 ≡ Some entries
  pub bad : IsAnyBadBlock form entries place

pub record IsBadItemOf (script : Script) (printed : Printed) (by : ConnId) (item : ℕ) : Type 0 where
  pub transcript : Transcript
  pub there : slice_get printed.transcripts by.0 ≡ Some transcript
  pub bad : IsBadItem script printed.histories by transcript.items item

abbrev pub AreGoodBelow : Script → Printed → ℕ → Type 0
AreGoodBelow script printed n =
    (c : ℕ) (transcript : Transcript) → c < n → slice_get printed.transcripts c ≡ Some transcript
    → IsGood script printed.histories (record { 0 = c }) transcript.items

-- what each answer says
abbrev pub Judges : Script → Printed → Checked → Type 0
Judges script printed (checked.Yes n) =
    ShowsHistories 0 script printed.histories printed.transcripts × (n ≡ sum_by any_length printed.histories)
Judges script printed (checked.BadEntry on place) =
    AreLegalBelow script printed.histories on.0 × IsBadEntryOf script printed.histories on place
Judges script printed (checked.BadItem by item) =
    AreLegalBelow script printed.histories (length script.structures) × AreGoodBelow script printed by.0
    × IsBadItemOf script printed by item
