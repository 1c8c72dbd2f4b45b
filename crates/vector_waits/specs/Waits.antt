-- Tests of vector bits that wait for their numbers, and what a history tells of them as far as it has come.
use Rattle.std.specs.Prelude.{◌≡◌, ◌↔◌, ◌<◌, ◌≤◌, ◌==◌, ◌&&◌, ◌||◌, nat_lt, not, ℕ, Bool, true, false, if◌then◌else◌, List, slice_get, Some, All}
use Rattle.cf_types.specs.declared.forms.StrForm.{StrForm}
use Rattle.cf_types.specs.declared.numbers.ConnId.{ConnId}
use Rattle.cf_types.specs.Forms.{IsCaller}
use Rattle.engine_api.specs.declared.histories.Entry.{Entry}
use Rattle.engine_api.specs.History.{Tells}
use Rattle.engine_api.specs.Meaning.{Meaning}
use Rattle.vector_waits.specs.declared.wait.Wait.{Wait}

-- the waits of a connector, and how many of them the history has passed
pub record QueueView : Type 0 where
  pub conn : ConnId
  pub waits : List Wait
  pub next : ℕ

-- ---- what is done to a wait

abbrev pub same_bit : Bool → Bool → Bool
same_bit true bit = bit
same_bit false bit = not bit

-- before the block of a call of this number: what stands then is told where the call wasn't seen complete
abbrev pub told_before : ℕ → (ℕ → Bool) → Wait → Bool
told_before number stood wait =
    if wait.at == number then nat_lt wait.sure wait.at && same_bit (stood wait.index) wait.bit else wait.told

abbrev pub before_block : ℕ → (ℕ → Bool) → Wait → Wait
before_block number stood wait = record wait { told = told_before number stood wait }

-- behind it: what stands then is told too, where nothing later was seen complete
abbrev pub told_behind : ℕ → (ℕ → Bool) → Wait → Bool
told_behind number stood wait =
    if wait.at == number
    then wait.told || (not (nat_lt wait.at wait.sure) && same_bit (stood wait.index) wait.bit)
    else wait.told

abbrev pub behind_block : ℕ → (ℕ → Bool) → Wait → Wait
behind_block number stood wait = record wait { told = told_behind number stood wait }

-- before anything is told
abbrev pub untold : Wait → Wait
untold wait = record wait { told = false }

-- ---- the order of waits

-- no wait shows a smaller number than one before it
abbrev pub AreRising : List Wait → Type 0
AreRising waits =
    (i j : ℕ) (x y : Wait) → i ≤ j → slice_get waits i ≡ Some x → slice_get waits j ≡ Some y → x.at ≤ y.at

-- the first ones show smaller numbers than this
abbrev pub ArePast : List Wait → (next number : ℕ) → Type 0
ArePast waits next number = (i : ℕ) (x : Wait) → i < next → slice_get waits i ≡ Some x → x.at < number

-- a queue at which calls from this number on are still to come
pub record IsQueue (number : ℕ) (queue : QueueView) : Type 0 where
  pub caller : IsCaller queue.conn
  pub rising : AreRising queue.waits
  pub past : ArePast queue.waits queue.next number

-- ---- what a history tells

module _ {C R I S : Type 0} (meaning : Meaning C R I S) (form : StrForm) (history : List (Entry C R)) where
  -- a wait is told exactly where the history tells what it shows
  abbrev pub IsSettled : ConnId → Wait → Type 0
  IsSettled conn wait = (wait.told ≡ true) ↔ Tells meaning form history wait.at wait.sure conn wait.index wait.bit

  abbrev pub AreSettled : QueueView → Type 0
  AreSettled queue = All (IsSettled queue.conn) queue.waits
