-- The first item of a caller that is wrong.
use Rattle.std.specs.Prelude.{◌≡◌, ℕ, ◌+◌, ◌≤◌, ◌==◌, ◌&&◌, not, min, if◌then◌else◌, List, length, take, slice_get, Option, None, Some}
use Rattle.cf_types.specs.declared.forms.StrForm.{StrForm}
use Rattle.cf_types.specs.declared.numbers.ConnId.{ConnId}
use Rattle.caller_slots.specs.RunShown.PlexScript.declared.asks.AnyHistory.{AnyHistory}
use Rattle.caller_slots.specs.RunShown.PlexScript.declared.scripts.Script.{Script}
use Rattle.caller_slots.specs.RunShown.PlexScript.declared.transcripts.Shown.{Shown}
use Rattle.caller_slots.specs.RunShown.PlexScript.declared.transcripts.Transcript.{Transcript}
use Rattle.caller_slots.specs.RunShown.Headline.{TellsOf, TestsTell, place_of}
use Rattle.caller_slots.specs.Slots.{AreNotes}
use Rattle.caller_items.specs.Orders.{AreInOrder, IsInOrder}
use Rattle.caller_walk.specs.declared.counts.Count.{Count}
use Rattle.check_model.specs.Judged.{IsGood}
use Rattle.check_model.specs.declared.printed.Printed.{Printed}
use Rattle.vector_waits.specs.Waits.{QueueView}
use Rattle.caller_check.specs.Untold.{HaveQueues}

-- the transcript of a caller is good
abbrev pub IsGoodOf : Script → Printed → ConnId → Type 0
IsGoodOf script printed conn =
    (transcript : Transcript) → slice_get printed.transcripts conn.0 ≡ Some transcript
    → IsGood script printed.histories conn transcript.items

-- these are the items of a caller's transcript
pub record AreItemsOf (printed : Printed) (conn : ConnId) (items : List Shown) : Type 0 where
  pub transcript : Transcript
  pub there : slice_get printed.transcripts conn.0 ≡ Some transcript
  pub are : items ≡ transcript.items

-- each structure has this caller's queue of the items that are in order
abbrev pub HaveQueuesInOrder : List StrForm → List AnyHistory → List (List QueueView) → ConnId → List Shown → Type 0
HaveQueuesInOrder forms histories tables conn items =
    (many : ℕ) → AreInOrder histories items many → HaveQueues forms histories tables conn (take many items)

-- an item tells what stood
abbrev pub IsTrueHere : List StrForm → List AnyHistory → ConnId → List Shown → Shown → Type 0
IsTrueHere forms histories conn before item =
    (form : StrForm) (entries : AnyHistory) → slice_get forms (place_of item).0 ≡ Some form
    → slice_get histories (place_of item).0 ≡ Some entries → TellsOf form entries conn (place_of item) before item

-- the first items, so many, are in order and tell what stood, and the next one isn't or doesn't
pub record IsFirstWrong (forms : List StrForm) (histories : List AnyHistory) (conn : ConnId) (items : List Shown)
    (many : ℕ) : Type 0 where
  pub within : many ≤ length items
  pub notes : AreNotes histories (take many items)
  pub tests : TestsTell forms histories conn (take many items)
  pub wrong : (item : Shown) → slice_get items many ≡ Some item → IsInOrder histories (take many items) item
      → IsTrueHere forms histories conn (take many items) item → ⊥

-- from 1: the first item that isn't what is due, that isn't there, that is one too many, or that is wrong
abbrev pub least_bad : Count → (right many : ℕ) → Option ℕ
least_bad count right many =
    if (min count.fitting right == many) && not count.differs then None else Some (min count.fitting right + 1)

-- the first where the calls aren't what the lines ask
abbrev pub first_bad : Option Count → (right many : ℕ) → Option ℕ
first_bad None right many = Some 1
first_bad (Some count) right many = least_bad count right many
