-- The first item of a caller with a test that isn't told, as the queues of its structures have it.
use Rattle.std.specs.Prelude.{◌≡◌, ℕ, ◌+◌, ◌*◌, ◌<◌, ◌≤◌, nat_lt, Bool, true, false, if◌then◌else◌, List, [], length, map, take, slice_get, slice_set, slice_index_or, Option, None, Some}
use Rattle.cf_types.specs.declared.forms.StrForm.{StrForm}
use Rattle.cf_types.specs.declared.numbers.ConnId.{ConnId}
use Rattle.cf_types.specs.declared.numbers.StrNo.{StrNo}
use Rattle.caller_slots.specs.RunShown.PlexScript.declared.asks.AnyHistory.{AnyHistory}
use Rattle.caller_slots.specs.RunShown.PlexScript.declared.transcripts.Shown.{Shown}
use Rattle.caller_slots.specs.RunShown.PlexScript.declared.transcripts.Shown.TheVariants as shown
use Rattle.caller_slots.specs.RunShown.Headline.{TellsOf, TestsTell, place_of}
use Rattle.caller_items.specs.Orders.{IsSeen}
use Rattle.vector_waits.specs.declared.wait.Wait.{Wait}
use Rattle.vector_waits.specs.Waits.{QueueView, untold}
use Rattle.caller_waits.specs.Tests.{IsSmall, own_bit, waits_of}
use Rattle.caller_check.specs.Tables.{AnySettled}

-- ---- as it is computed

abbrev pub is_told : Option Wait → Bool
is_told None = false
is_told (Some wait) = wait.told

-- the place behind a test, if this is told
abbrev pub past : List Wait → ℕ → Option ℕ
past waits place = if is_told (slice_get waits place) then Some (place + 1) else None

abbrev pub unless_one : (value k place : ℕ) → Option ℕ
unless_one value k place = if own_bit value k then None else Some place

-- behind a bit of a word: its test is told, or it lies past the vector's end and is 0
abbrev pub bit_past : (vector word value : ℕ) → List Wait → (k place : ℕ) → Option ℕ
bit_past vector word value waits k place =
    if nat_lt (32 * word + k) vector then past waits place else unless_one value k place

abbrev pub then_past : Option ℕ → (ℕ → Option ℕ) → Option ℕ
then_past None rest = None
then_past (Some place) rest = rest place

-- behind a word's bits from one on, so many
abbrev pub word_past : (vector word value : ℕ) → List Wait → (first many place : ℕ) → Option ℕ
word_past vector word value waits first ℕ.zero place = Some place
word_past vector word value waits first (ℕ.suc many) place =
    then_past (bit_past vector word value waits first place) (word_past vector word value waits (first + 1) many)

-- behind an item, at a structure whose vectors have so many bits
abbrev pub item_past : (vector : ℕ) → List Wait → Shown → (place : ℕ) → Option ℕ
item_past vector waits (shown.Test on index bit at) place = past waits place
item_past vector waits (shown.Word on word bits at) place = word_past vector word bits waits 0 32 place
item_past vector waits (shown.Call on number) place = Some place
item_past vector waits (shown.BadIndex on index word len) place = Some place
item_past vector waits (shown.Posted on sure) place = Some place
item_past vector waits (shown.Took on sure) place = Some place

-- ---- where it is found

-- a structure, and this caller's queue of it
pub record IsQueueAt (forms : List StrForm) (tables : List (List QueueView)) (conn : ConnId) (on : StrNo)
    (vector : ℕ) (waits : List Wait) : Type 0 where
  pub form : StrForm
  pub known : slice_get forms on.0 ≡ Some form
  pub vector_is : vector ≡ form.vector
  pub table : List QueueView
  pub row : slice_get tables on.0 ≡ Some table
  pub queue : QueueView
  pub there : slice_get table conn.0 ≡ Some queue
  pub waits_are : waits ≡ queue.waits

-- each structure has a queue of this caller
pub record HaveRows (forms : List StrForm) (tables : List (List QueueView)) (conn : ConnId) : Type 0 where
  pub size : length tables ≡ length forms
  pub rows : (x : ℕ) (table : List QueueView) → slice_get tables x ≡ Some table → conn.0 < length table

-- the place in the queue of the item's structure is moved behind the item, if its tests are told
pub record IsItemPast (forms : List StrForm) (tables : List (List QueueView)) (conn : ConnId) (item : Shown)
    (old new : List ℕ) (done : Bool) : Type 0 where
  pub vector : ℕ
  pub waits : List Wait
  pub queue : IsQueueAt forms tables conn (place_of item) vector waits
  pub small : IsSmall item
  pub goes : done ≡ true → (next : ℕ) × (item_past vector waits item (slice_index_or old (place_of item).0 0) ≡ Some next)
      × (new ≡ slice_set old (place_of item).0 next)
  pub stays : done ≡ false → item_past vector waits item (slice_index_or old (place_of item).0 0) ≡ None

-- ---- what it says

-- a queue has the tests of these items, each told exactly where the history tells what it shows
pub record IsQueueOf (on : StrNo) (form : StrForm) (entries : AnyHistory) (conn : ConnId) (items : List Shown)
    (queue : QueueView) : Type 0 where
  pub caller : queue.conn ≡ conn
  pub tests : map untold queue.waits ≡ map untold (waits_of on form.vector [] items)
  pub settled : AnySettled form entries queue

-- each structure has this caller's queue of these items
pub record HaveQueues (forms : List StrForm) (histories : List AnyHistory) (tables : List (List QueueView))
    (conn : ConnId) (items : List Shown) : Type 0 where
  pub each : (on : StrNo) (form : StrForm) (entries : AnyHistory) (table : List QueueView) (queue : QueueView)
      → slice_get forms on.0 ≡ Some form → slice_get histories on.0 ≡ Some entries → slice_get tables on.0 ≡ Some table
      → slice_get table conn.0 ≡ Some queue → IsQueueOf on form entries conn items queue

-- no test is before what was seen
abbrev pub AreSeen : List Shown → Type 0
AreSeen items = (k : ℕ) (item : Shown) → slice_get items k ≡ Some item → IsSeen (take k items) item

-- the tests of the first items, so many, tell what stood, and those of the next one don't
pub record IsFirstUntold (forms : List StrForm) (histories : List AnyHistory) (conn : ConnId) (items : List Shown)
    (many : ℕ) : Type 0 where
  pub within : many ≤ length items
  pub tests : TestsTell forms histories conn (take many items)
  pub wrong : (item : Shown) (form : StrForm) (entries : AnyHistory) → slice_get items many ≡ Some item
      → slice_get forms (place_of item).0 ≡ Some form → slice_get histories (place_of item).0 ≡ Some entries
      → TellsOf form entries conn (place_of item) (take many items) item → ⊥
