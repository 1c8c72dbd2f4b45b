-- Connections: what each change leaves at the same and at other connectors, who is active then, and how many are
-- defined.
use Rattle.cf_types.proofs.Imports.{◌≡◌, ◌≢◌, ℕ, zero, suc, ◌<◌, ◌≤◌, Bool, true, false, cond, IsTrue, map, List, [], ◌∷◌, length, get_or, set, Option, Some, None, is_some, slice_get, slice_set, refl, sym, ap, ◌∙◌, ⊎_elim, arith, false≢true, cases_eq, cases_lt, length-set, length-map, get_or-set_same, get_or-set_other, get_or_past, set-get_or, get_or-le-sum_by, unwrap_or-slice_get, unwrap_or, CALLERS, ConnId, ConnState, Active, Leaving, Failed, is_member, without_member, Connections, no_connections, state_of, is_active_state, is_leaving_state, is_active, is_leaving, actives, defined_count, departed_state, excused_state, with_departure, with_answer, with_forced}
use Rattle.cf_types.proofs.ConnSetLaws.{filter_agree_from, is_member-from, without_member-from}

-- ---- one connector's state

state_of-get_or : (conns : Connections) (conn : ConnId) → state_of conns conn ≡ get_or conns conn.0 None
state_of-get_or conns conn = unwrap_or-slice_get conns conn.0 None

pub state_of-set_same : (conns : Connections) (conn : ConnId) (state : Option ConnState) → conn.0 < length conns
    → state_of (slice_set conns conn.0 state) conn ≡ state
state_of-set_same conns conn state within = state_of-get_or (set conns conn.0 state) conn
    ∙ get_or-set_same conns conn.0 state None within

-- the same past the last place, where there is nothing to set
state_of-set : (conns : Connections) (conn : ConnId) (state : Option ConnState)
    → (length conns ≤ conn.0 → state ≡ None) → state_of (slice_set conns conn.0 state) conn ≡ state
state_of-set conns conn state past =
    grind (arith, ⊎_elim, state_of-set_same, state_of-get_or, get_or_past, length-set, cases_lt)

state_of_past : (conns : Connections) (conn : ConnId) → length conns ≤ conn.0 → state_of conns conn ≡ None
state_of_past conns conn past = state_of-get_or conns conn ∙ get_or_past conns conn.0 None past

pub state_of-set_other : (conns : Connections) (conn other : ConnId) (state : Option ConnState) → other.0 ≢ conn.0
    → state_of (slice_set conns conn.0 state) other ≡ state_of conns other
state_of-set_other conns conn other state apart = state_of-get_or (set conns conn.0 state) other
    ∙ get_or-set_other conns conn.0 other.0 state None apart ∙ sym (state_of-get_or conns other)

pub state_of-map : (f : Option ConnState → Option ConnState) → f None ≡ None → (conns : Connections) (conn : ConnId)
    → state_of (map f conns) conn ≡ f (state_of conns conn)
state_of-map f none conns conn = go conns conn.0
  where
    go : (conns : Connections) (n : ℕ) → unwrap_or (slice_get (map f conns) n) None
        ≡ f (unwrap_or (slice_get conns n) None)
    go [] n = sym none
    go (x ∷ xs) zero = refl
    go (x ∷ xs) (suc n) = go xs n

pub is_active-within : (conns : Connections) (conn : ConnId) → IsTrue (is_active conns conn) → conn.0 < length conns
is_active-within conns conn is = go conns conn.0 is
  where
    go : (conns : Connections) (n : ℕ) → IsTrue (is_active_state (unwrap_or (slice_get conns n) None))
        → n < length conns
    go [] n is = absurd (false≢true is)
    go (x ∷ xs) zero is = omega arith
    go (x ∷ xs) (suc n) is = omega (arith, go xs n is)

-- ---- each change, at the connector itself and at another

pub state_of-with_departure_same : (conn : ConnId) (keep : Bool) (conns : Connections) → conn.0 < length conns
    → state_of (with_departure conn keep conns) conn ≡ departed_state keep (without_member conn (actives conns))
state_of-with_departure_same conn keep conns within =
    state_of-set_same (map (excused_state conn) conns) conn _ (omega (arith, length-map conns (excused_state conn)))

pub state_of-with_departure_other : (conn : ConnId) (keep : Bool) (conns : Connections) (other : ConnId)
    → other.0 ≢ conn.0 → state_of (with_departure conn keep conns) other ≡ excused_state conn (state_of conns other)
state_of-with_departure_other conn keep conns other apart = grind (arith, state_of-set_other, state_of-map)

pub state_of-with_answer_same : (by about : ConnId) (conns : Connections)
    → state_of (with_answer by about conns) about ≡ excused_state by (state_of conns about)
state_of-with_answer_same by about conns = state_of-set conns about _
    (λ past. ap (excused_state by) (state_of_past conns about past))

pub state_of-with_answer_other : (by about : ConnId) (conns : Connections) (other : ConnId) → other.0 ≢ about.0
    → state_of (with_answer by about conns) other ≡ state_of conns other
state_of-with_answer_other by about conns other apart = state_of-set_other conns about other _ apart

pub state_of-with_forced_same : (conn : ConnId) (conns : Connections) → state_of (with_forced conn conns) conn ≡ None
state_of-with_forced_same conn conns = state_of-set conns conn None (λ past. refl)

pub state_of-with_forced_other : (conn : ConnId) (conns : Connections) (other : ConnId) → other.0 ≢ conn.0
    → state_of (with_forced conn conns) other ≡ state_of conns other
state_of-with_forced_other conn conns other apart = state_of-set_other conns conn other None apart

-- ---- who is active

is_active-departed_state : (keep : Bool) (awaits : List ConnId) → is_active_state (departed_state keep awaits) ≡ false
is_active-departed_state keep (other ∷ others) = refl
is_active-departed_state true [] = refl
is_active-departed_state false [] = refl

is_active-excused_state : (conn : ConnId) (state : Option ConnState)
    → is_active_state (excused_state conn state) ≡ is_active_state state
is_active-excused_state conn (Some (Active keep)) = refl
is_active-excused_state conn (Some (Leaving keep awaits)) = is_active-departed_state keep (without_member conn awaits)
is_active-excused_state conn (Some Failed) = refl
is_active-excused_state conn None = refl

pub is_member-actives : (conns : Connections) (conn : ConnId) → conn.0 < CALLERS
    → is_member conn (actives conns) ≡ is_active conns conn
unfolding actives
is_member-actives conns conn within = is_member-from (is_active conns) conn 0 CALLERS (omega arith) within

-- a departing connector is active no more
pub is_active-with_departure_same : (conn : ConnId) (keep : Bool) (conns : Connections) → conn.0 < length conns
    → is_active (with_departure conn keep conns) conn ≡ false
is_active-with_departure_same conn keep conns within =
    grind (arith, state_of-with_departure_same, is_active-departed_state)

pub is_active-with_departure_other : (conn : ConnId) (keep : Bool) (conns : Connections) (other : ConnId)
    → other.0 ≢ conn.0 → is_active (with_departure conn keep conns) other ≡ is_active conns other
is_active-with_departure_other conn keep conns other apart = ap is_active_state
    (state_of-with_departure_other conn keep conns other apart) ∙ is_active-excused_state conn (state_of conns other)

pub is_active-with_answer : (by about : ConnId) (conns : Connections) (conn : ConnId)
    → is_active (with_answer by about conns) conn ≡ is_active conns conn
is_active-with_answer by about conns conn =
    grind (arith, ⊎_elim, state_of-with_answer_same, is_active-excused_state, state_of-with_answer_other, cases_eq)

pub actives-with_departure : (conn : ConnId) (keep : Bool) (conns : Connections) → conn.0 < length conns
    → actives (with_departure conn keep conns) ≡ without_member conn (actives conns)
unfolding actives
actives-with_departure conn keep conns within = without_member-from _ _
    _ 0 _ (is_active-with_departure_same _ _ _ within) (λ c apart high. is_active-with_departure_other _ _ _ c apart)

pub actives-with_answer : (by about : ConnId) (conns : Connections)
    → actives (with_answer by about conns) ≡ actives conns
unfolding actives
actives-with_answer by about conns = filter_agree_from _ _ 0 _ (λ c low high. is_active-with_answer _ _ _ c)

-- whoever is forced away wasn't active
pub actives-with_forced : (conn : ConnId) (conns : Connections) → is_active conns conn ≡ false
    → actives (with_forced conn conns) ≡ actives conns
unfolding actives
actives-with_forced conn conns idle =
    grind (arith, filter_agree_from, ⊎_elim, state_of-with_forced_same, state_of-with_forced_other, cases_eq)

-- ---- who is awaited

excused_state-same : (conn : ConnId) (state : Option ConnState) → is_leaving_state state ≡ false
    → excused_state conn state ≡ state
excused_state-same conn (Some (Active keep)) idle = refl
excused_state-same conn (Some (Leaving keep awaits)) idle = cc
excused_state-same conn (Some Failed) idle = refl
excused_state-same conn None idle = refl

-- an answer about a connector that isn't leaving changes nothing
pub with_answer-same : (by about : ConnId) (conns : Connections) → is_leaving conns about ≡ false
    → with_answer by about conns ≡ conns
with_answer-same by about conns idle = grind (arith, excused_state-same, state_of-get_or, set-get_or)

-- ---- how many are defined

pub defined_count-unconnected : defined_count no_connections ≡ 0
unfolding no_connections
defined_count-unconnected = refl

none_counted : (state : Option ConnState) → cond (is_some state) 1 0 ≤ 0 → state ≡ None
none_counted (Some state) few = absurd (omega arith)
none_counted None few = refl

-- where no connection is defined, nobody has one
pub gone-from_none_defined : (conns : Connections) → defined_count conns ≡ 0 → (conn : ConnId)
    → state_of conns conn ≡ None
gone-from_none_defined conns none conn =
    grind (arith, ⊎_elim, state_of-get_or, none_counted, get_or-le-sum_by, state_of_past, cases_lt)
