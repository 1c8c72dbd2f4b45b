-- The connections of a structure: for each connector's number, the state of its connection.
use Rattle.std.specs.Prelude.{◌≡◌, ℕ, Bool, true, false, IsTrue, List, [], ◌∷◌, filter, map, length, count_by, replicate, Option, Some, None, is_some, is_none, unwrap_or, slice_get, slice_set}
use Rattle.cf_types.specs.declared.limits.TheConstants.{CALLERS}
use Rattle.cf_types.specs.declared.numbers.ConnId.{ConnId}
use Rattle.cf_types.specs.declared.connections.ConnState.{ConnState}
use Rattle.cf_types.specs.declared.connections.ConnState.TheVariants.{Active, Leaving, Failed}
use Rattle.cf_types.specs.ConnSets.{conns_from, without_member}

-- by number, from 0, which is the operator's and never connected; none is a connection that is gone
abbrev pub Connections : Type 0
Connections = List (Option ConnState)

-- nobody is connected
unfoldable pub no_connections : Connections
no_connections = replicate CALLERS None

abbrev pub state_of : Connections → ConnId → Option ConnState
state_of conns conn = unwrap_or (slice_get conns conn.0) None

abbrev pub is_active_state : Option ConnState → Bool
is_active_state (Some (Active keep)) = true
is_active_state (Some (Leaving keep awaits)) = false
is_active_state (Some Failed) = false
is_active_state None = false

abbrev pub is_leaving_state : Option ConnState → Bool
is_leaving_state (Some (Active keep)) = false
is_leaving_state (Some (Leaving keep awaits)) = true
is_leaving_state (Some Failed) = false
is_leaving_state None = false

abbrev pub is_failed_state : Option ConnState → Bool
is_failed_state (Some (Active keep)) = false
is_failed_state (Some (Leaving keep awaits)) = false
is_failed_state (Some Failed) = true
is_failed_state None = false

abbrev pub is_active : Connections → ConnId → Bool
is_active conns conn = is_active_state (state_of conns conn)

abbrev pub is_leaving : Connections → ConnId → Bool
is_leaving conns conn = is_leaving_state (state_of conns conn)

abbrev pub is_failed : Connections → ConnId → Bool
is_failed conns conn = is_failed_state (state_of conns conn)

abbrev pub is_gone : Connections → ConnId → Bool
is_gone conns conn = is_none (state_of conns conn)

-- the active connectors, in number order
unfoldable pub actives : Connections → List ConnId
actives conns = filter (is_active conns) (conns_from 0 CALLERS)

-- how many connections are defined: active, leaving or failed
abbrev pub defined_count : Connections → ℕ
defined_count conns = count_by is_some conns

-- a departure that awaits nobody is finished: the connection is failed where it is kept, and else gone
abbrev pub departed_state : Bool → List ConnId → Option ConnState
departed_state keep (other ∷ others) = Some (Leaving keep (other ∷ others))
departed_state true [] = Some Failed
departed_state false [] = None

-- a connection whose departure awaits this connector no more
abbrev pub excused_state : ConnId → Option ConnState → Option ConnState
excused_state conn (Some (Leaving keep awaits)) = departed_state keep (without_member conn awaits)
excused_state conn (Some (Active keep)) = Some (Active keep)
excused_state conn (Some Failed) = Some Failed
excused_state conn None = None

-- a connector becomes active
abbrev pub with_connect : ConnId → Bool → Connections → Connections
with_connect conn keep conns = slice_set conns conn.0 (Some (Active keep))

-- an active connector departs: it is leaving until each other active one has answered or departed, and is awaited by
-- nobody; it will be failed where `keep`, and else gone
abbrev pub with_departure : ConnId → Bool → Connections → Connections
with_departure conn keep conns =
    slice_set (map (excused_state conn) conns) conn.0 (departed_state keep (without_member conn (actives conns)))

-- a connector has answered the departure of another
abbrev pub with_answer : ConnId → ConnId → Connections → Connections
with_answer by about conns = slice_set conns about.0 (excused_state by (state_of conns about))

-- a connection is gone
abbrev pub with_forced : ConnId → Connections → Connections
with_forced conn conns = slice_set conns conn.0 None

-- what is true of the connections of a structure: there is a place for the operator, which stays empty, and one for
-- each connector that there can be
pub record AreConnections (conns : Connections) : Type 0 where
  pub places : length conns ≡ CALLERS
  pub operator : IsTrue (is_gone conns (record { 0 = 0 }))
