use Rattle.lock_core.proofs.Imports.{◌≡◌, ◌-◌, ◌<◌, List, Some, None, [], ◌∷◌, length, get_or, sym, ◌∙◌, arith, slice_get, slice_get-get_or, Waiter}
use Rattle.lock_core.proofs.locks.Locks.drop_last_waiter.Goals as goal

last_there : (waiters : List Waiter) → 0 < length waiters → slice_get waiters (length waiters - 1) ≡ None → ⊥
last_there [] some h = absurd (omega (arith, some))
last_there (x ∷ xs) some h =
    let there = slice_get-get_or (x ∷ xs) (length (x ∷ xs) - 1) x (omega arith) in
    let gone : None ≡ Some (get_or (x ∷ xs) (length (x ∷ xs) - 1) x) = sym h ∙ there in cc

pub returns-in_default-clause-content : goal.returns-in_default-clause-content
returns-in_default-clause-content c = grind (arith, last_there)
