-- The tests of a caller's items as waits, and what of the items they leave to be looked at.
use Rattle.std.specs.Prelude.{◌≡◌, ℕ, ◌+◌, ◌*◌, ◌^◌, ◌<◌, ◌≤◌, ◌==◌, nat_lt, Bool, true, false, if◌then◌else◌, List, [], ◌∷◌, ◌++◌, take, slice_get, Some, length, max}
use Rattle.std.specs.Int.{bit_at}
use Rattle.caller_slots.specs.RunShown.CfTypes.declared.forms.StrForm.{StrForm}
use Rattle.caller_slots.specs.RunShown.CfTypes.declared.numbers.ConnId.{ConnId}
use Rattle.caller_slots.specs.RunShown.CfTypes.declared.numbers.StrNo.{StrNo}
use Rattle.caller_slots.specs.RunShown.PlexScript.declared.asks.AnyHistory.{AnyHistory}
use Rattle.caller_slots.specs.RunShown.PlexScript.declared.transcripts.Shown.{Shown}
use Rattle.caller_slots.specs.RunShown.PlexScript.declared.transcripts.Shown.TheVariants as shown
use Rattle.caller_slots.specs.RunShown.PlexScript.Follows.{surest_on}
use Rattle.caller_slots.specs.RunShown.Headline.{place_of}
use Rattle.caller_slots.specs.RunShown.Kinds.{AnyTells}
use Rattle.vector_waits.specs.declared.wait.Wait.{Wait}
use Rattle.vector_waits.specs.Waits.{QueueView}

abbrev pub wait_of : (at sure index : ℕ) → Bool → Wait
wait_of at sure index bit = record { at = at; sure = sure; index = index; bit = bit; told = false }

-- a bit of a number
abbrev pub own_bit : ℕ → ℕ → Bool
own_bit value k = bit_at value k == 1

-- the test of one bit of a word, if it lies in the vector
abbrev pub bit_waits : (vector at sure word value k : ℕ) → List Wait
bit_waits vector at sure word value k =
    if nat_lt (32 * word + k) vector then wait_of at sure (32 * word + k) (own_bit value k) ∷ [] else []

-- the tests of a word's bits from one on, so many
abbrev pub word_waits : (vector at sure word value first many : ℕ) → List Wait
word_waits vector at sure word value first ℕ.zero = []
word_waits vector at sure word value first (ℕ.suc many) =
    bit_waits vector at sure word value first ++ word_waits vector at sure word value (first + 1) many

-- the tests of an item, at a structure whose vectors have so many bits, of whose calls this one is seen complete
abbrev pub item_waits : (vector sure : ℕ) → Shown → List Wait
item_waits vector sure (shown.Test place index bit at) = wait_of at sure index bit ∷ []
item_waits vector sure (shown.Word place word bits at) = word_waits vector at sure word bits 0 32
item_waits vector sure (shown.Call place number) = []
item_waits vector sure (shown.BadIndex place index word len) = []
item_waits vector sure (shown.Posted place number) = []
item_waits vector sure (shown.Took place number) = []

-- the same, if the item is one of this structure
abbrev pub waits_here : StrNo → (vector sure : ℕ) → Shown → List Wait
waits_here on vector sure item = if (place_of item).0 == on.0 then item_waits vector sure item else []

abbrev pub waits_at : StrNo → (vector : ℕ) → (before : List Shown) → Shown → List Wait
waits_at on vector before item = waits_here on vector (surest_on on before) item

-- the tests of a structure that items show, one behind another
abbrev pub waits_of : StrNo → (vector : ℕ) → (before items : List Shown) → List Wait
waits_of on vector before [] = []
waits_of on vector before (item ∷ items) =
    waits_at on vector before item ++ waits_of on vector (before ++ item ∷ []) items

-- what is seen complete behind an item of the structure, and behind one of whatever structure
abbrev pub surer : ℕ → Shown → ℕ
surer sure (shown.Call place number) = max sure number
surer sure (shown.Test place index bit at) = sure
surer sure (shown.Word place word bits at) = sure
surer sure (shown.BadIndex place index word len) = sure
surer sure (shown.Posted place number) = max sure number
surer sure (shown.Took place number) = max sure number

abbrev pub sure_after : StrNo → ℕ → Shown → ℕ
sure_after on sure item = if (place_of item).0 == on.0 then surer sure item else sure

-- a caller's queue of a structure
abbrev pub queue_of : StrNo → (vector : ℕ) → ConnId → (items : List Shown) → QueueView
queue_of on vector conn items = record { conn = conn; waits = waits_of on vector [] items; next = 0 }

-- a queue for each structure
pub record AreQueues (forms : List StrForm) (conn : ConnId) (items : List Shown) (queues : List QueueView)
    : Type 0 where
  pub size : length queues ≡ length forms
  pub each : (on : StrNo) (form : StrForm) (queue : QueueView) → slice_get forms on.0 ≡ Some form
      → slice_get queues on.0 ≡ Some queue → queue ≡ queue_of on form.vector conn items

-- a word's bits past the vector's end are 0
abbrev pub IsWithin : (vector : ℕ) → Shown → Type 0
IsWithin vector (shown.Word place word bits at) =
    (k : ℕ) → k < 32 → nat_lt (32 * word + k) vector ≡ false → own_bit bits k ≡ false
IsWithin vector (shown.Test place index bit at) = Unit {0}
IsWithin vector (shown.Call place number) = Unit {0}
IsWithin vector (shown.BadIndex place index word len) = Unit {0}
IsWithin vector (shown.Posted place number) = Unit {0}
IsWithin vector (shown.Took place number) = Unit {0}

-- a word is one of 32 bits
abbrev pub IsSmall : Shown → Type 0
IsSmall (shown.Word place word bits at) = bits < 2 ^ 32
IsSmall (shown.Test place index bit at) = Unit {0}
IsSmall (shown.Call place number) = Unit {0}
IsSmall (shown.BadIndex place index word len) = Unit {0}
IsSmall (shown.Posted place number) = Unit {0}
IsSmall (shown.Took place number) = Unit {0}

abbrev pub AreSmall : List Shown → Type 0
AreSmall items = (k : ℕ) (item : Shown) → slice_get items k ≡ Some item → IsSmall item

-- a history tells what these tests show
abbrev pub AllTell : StrForm → AnyHistory → ConnId → List Wait → Type 0
AllTell form entries conn [] = Unit {0}
AllTell form entries conn (wait ∷ waits) =
    AnyTells form entries wait.at wait.sure conn wait.index wait.bit × AllTell form entries conn waits
