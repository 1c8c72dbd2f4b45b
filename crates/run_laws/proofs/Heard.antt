-- The calls of a legal history are heard under their numbers.
use Rattle.std.proofs.lemmas.List.Elements.{Contains-append_right}
use Rattle.std.proofs.lemmas.Simd.{map-map}
use Rattle.list_model.proofs.ListLaws.{in-found}
use Rattle.run_laws.proofs.Imports.{◌≡◌, ℕ, ◌≤◌, ◌==◌, Bool, List, [], ◌∷◌, filter, Some, subst, arith, Contains, nat_tests, StrForm, numbered_legal, altered_caches, queued_lists, lock_meaning, AnyHistory, AnyCall, any_calls, any_length, call_numbered, IsAnyLegal, IsAnyPoint, Rising, any_numbers, Every, found_passes, map-append, eqb-true, map, AnyAsk, any_call, calls}

-- each of these is the call with its number
abbrev pub AreHeard : List AnyCall → List AnyCall → Type 0
AreHeard calls some = Every (λ call. call_numbered call.no calls ≡ Some call) some

pub heard_own : (calls some : List AnyCall) (keep : AnyCall → Bool) → AreHeard calls some
    → AreHeard calls (filter keep some)
heard_own calls [] keep h = tt
heard_own calls (call ∷ some) keep h = grind (arith, heard_own calls some keep h.1)

-- ---- numbers that rise

rising_from : (low later : ℕ) (calls : List AnyCall) → low ≤ later → Rising later calls → Rising low calls
rising_from low later [] less rise = tt
rising_from low later (call ∷ calls) less rise = (omega (arith, less, rise.0), rise.1)

heard_longer : (first : AnyCall) (calls some : List AnyCall) → Rising first.no some → AreHeard calls some
    → AreHeard (first ∷ calls) some
heard_longer first calls [] rise h = tt
heard_longer first calls (call ∷ some) rise h = (
  grind (arith, nat_tests),
  heard_longer first calls some (rising_from first.no call.no some (omega (arith, rise.0)) rise.1) h.1,
)

pub heard_each : (low : ℕ) (calls : List AnyCall) → Rising low calls → AreHeard calls calls
heard_each low [] rise = tt
heard_each low (call ∷ calls) rise = grind (arith, nat_tests, heard_longer, heard_each call.no calls rise.1)

-- the numbers of calls
abbrev pub numbers_of : List AnyCall → List ℕ
numbers_of some = map (λ call. call.no) some

-- a call that is found under a number has it
found_in : (number : ℕ) (calls : List AnyCall) (call : AnyCall) → call_numbered number calls ≡ Some call
    → Contains (numbers_of calls) number
found_in number calls call e =
    let w = (in-found (λ call. call.no == number) calls call e).with_it in
    let same = eqb-true call.no number (found_passes (λ call. call.no == number) calls call e) in
    rw (w.is, map-append (λ (c : AnyCall). c.no) w.front (call ∷ w.back))
    (Contains-append_right (numbers_of w.front) (numbers_of (call ∷ w.back)) number (0, omega arith, same))

-- the numbers of a legal history's calls are within its length
pub any_within : (form : StrForm) (h : AnyHistory) → IsAnyLegal form h → (n : ℕ) → IsAnyPoint h n → n ≤ any_length h
any_within form (AnyHistory.Cache entries) legal = (numbered_legal altered_caches form entries legal).within
any_within form (AnyHistory.List entries) legal = (numbered_legal queued_lists form entries legal).within
any_within form (AnyHistory.Lock entries) legal = (numbered_legal lock_meaning form entries legal).within

point_from : (h : AnyHistory) (n : ℕ) → Contains (any_numbers h) n → IsAnyPoint h n
point_from h n there = grind arith

-- as their callers hear of them
heard_number : (h : AnyHistory) (n : ℕ) → Contains (numbers_of (any_calls h)) n → Contains (any_numbers h) n
heard_number (AnyHistory.Cache entries) n there = subst (λ (ns : List ℕ). Contains ns n)
    (map-map (λ (call : AnyCall). call.no) (any_call AnyAsk.Cache) (calls entries)) there
heard_number (AnyHistory.List entries) n there = subst (λ (ns : List ℕ). Contains ns n)
    (map-map (λ (call : AnyCall). call.no) (any_call AnyAsk.List) (calls entries)) there
heard_number (AnyHistory.Lock entries) n there = subst (λ (ns : List ℕ). Contains ns n)
    (map-map (λ (call : AnyCall). call.no) (any_call AnyAsk.Lock) (calls entries)) there

pub heard_within : (form : StrForm) (h : AnyHistory) → IsAnyLegal form h → (number : ℕ) (call : AnyCall)
    → call_numbered number (any_calls h) ≡ Some call → number ≤ any_length h
heard_within form h legal number call found = any_within form h legal number
    (point_from h number (heard_number h number (found_in number (any_calls h) call found)))
