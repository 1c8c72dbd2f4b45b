-- Causes of refusals. Each is none where it doesn't hold.
use Rattle.std.specs.Prelude.{Bool, false, ◌==◌, nat_le, if◌then◌else◌, List, [], ◌∷◌, Option, Some, None}
use Rattle.cf_types.specs.declared.forms.Caps.{Caps}
use Rattle.cf_types.specs.declared.numbers.ConnId.{ConnId}
use Rattle.cf_types.specs.declared.refusals.Refusal.{Refusal}
use Rattle.cf_types.specs.declared.refusals.Refusal.TheVariants.{AlreadyInterested, NotInterested, RecordsFull, NotManager, NoWaiter, NoRecord, StillPending}
use Rattle.cf_types.specs.declared.resources.Resource.{Resource}
use Rattle.lock_queue.specs.declared.waiters.Waiter.{Waiter}
use Rattle.lock_model.specs.Interests.{Interest}
use Rattle.lock_queue.specs.Waiters.{waits}
use Rattle.lock_model.specs.Contents.{Content, records_in}

-- the caller waits for the resource
abbrev pub pending_refusal : Resource → ConnId → List Waiter → Option Refusal
pending_refusal r conn waiters = if waits r conn waiters then Some StillPending else None

-- the caller has an interest in it; has none
abbrev pub interested_refusal : Option Interest → Option Refusal
interested_refusal None = None
interested_refusal (Some interest) = Some (AlreadyInterested interest.held.excl)

abbrev pub interest_refusal : Option Interest → Option Refusal
interest_refusal None = Some NotInterested
interest_refusal (Some interest) = None

-- there would be more record data than records
abbrev pub records_refusal : Caps → Content → Option Refusal
records_refusal caps content =
    if nat_le (records_in content) caps.elements then None else Some (RecordsFull caps.elements)

-- the caller isn't the manager
abbrev pub is_manager : ConnId → Option ConnId → Bool
is_manager by None = false
is_manager by (Some conn) = conn.0 == by.0

abbrev pub manager_refusal : ConnId → Option ConnId → Option Refusal
manager_refusal by manager = if is_manager by manager then None else Some (NotManager manager)

-- that connector doesn't wait for the resource
abbrev pub waiter_refusal : Resource → ConnId → List Waiter → Option Refusal
waiter_refusal r conn waiters = if waits r conn waiters then None else Some NoWaiter

-- no interest with record data is there
abbrev pub record_refusal : List Interest → Option Refusal
record_refusal [] = Some NoRecord
record_refusal (interest ∷ interests) = None
