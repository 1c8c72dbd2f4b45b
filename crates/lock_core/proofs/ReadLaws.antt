-- What is read of waiters and of interests, and what is found among them.
use Rattle.lock_core.proofs.Imports.{◌≡◌, ◌+◌, ◌≤◌, Bool, if◌then◌else◌, List, [], ◌∷◌, Option, Some, None, filter, refl, arith, list_any, sum_by-cons, Waiter, waiter_of, waiters_with, recorded_by, recorded_of, recorded_in, IsQueue, recorded_less, recorded_more, Interest, records_of, records_waiting, record_refusal, Refusal, NoRecord, first_refusal, length-filter-le, sum_by-filter-le}

-- ---- one that is found

pub record_refusal-any : (p : Interest → Bool) (is : List Interest) → record_refusal (filter p is) ≡
    (if list_any p is then None else Some NoRecord)
record_refusal-any p [] = refl
record_refusal-any p (i ∷ is) = grind (arith, record_refusal-any p is)

-- one cause alone is the first
pub first_of_one : (cause : Option Refusal) → cause ≡ first_refusal (cause ∷ [])
first_of_one cause = grind arith

-- ---- record data that waiters bring

brought : (w : Waiter) → recorded_by w ≡ records_of w.rec
brought w = grind arith

pub recorded-waiting : (waiters : List Waiter) → recorded_in waiters ≡ records_waiting waiters
recorded-waiting [] = refl
recorded-waiting (w ∷ ws) = grind (arith, sum_by-cons, brought, recorded-waiting ws)

-- one more waits, in place of its connector's own
pub waiting-counted_with : (w : Waiter) (waiters : List Waiter) → IsQueue waiters → records_waiting
    (waiters_with w waiters) + recorded_of (waiter_of w.r w.conn waiters) ≡ records_waiting waiters + records_of w.rec
waiting-counted_with w waiters queue = omega (
  arith,
  recorded_more w waiters queue.one_each,
  recorded-waiting (waiters_with w waiters),
  recorded-waiting waiters,
  brought w,
)

pub waiting-without : (w : Waiter) (waiters : List Waiter) → IsQueue waiters
    → recorded_of (waiter_of w.r w.conn waiters) ≤ records_waiting waiters
waiting-without w waiters queue =
    omega (arith, recorded_less w.r w.conn waiters queue.one_each, recorded-waiting waiters)

pub ruleset refusal_told = (first_of_one, record_refusal-any)

pub ruleset waiting_told = (waiting-counted_with, waiting-without)

pub ruleset fewer = (length-filter-le, sum_by-filter-le)
