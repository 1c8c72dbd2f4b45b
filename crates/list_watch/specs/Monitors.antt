-- Monitors: which connector watches which header, at which index of its vector. They stand in the order in which they
-- were made.
use Rattle.std.specs.Prelude.{ℕ, Bool, IsTrue, not, ◌&&◌, ◌||◌, ◌==◌, List, [], ◌∷◌, ◌++◌, filter, find, Option, option_map}
use Rattle.std.specs.List.{list_any}
use Rattle.cf_types.specs.declared.numbers.ConnId.{ConnId}
use Rattle.cf_lists.specs.Pairwise.{pairwise}
use Rattle.list_watch.specs.declared.monitors.Monitor.{Monitor}

abbrev pub is_of : ConnId → Monitor → Bool
is_of conn monitor = monitor.conn.0 == conn.0

abbrev pub is_at : ConnId → ℕ → Monitor → Bool
is_at conn index monitor = is_of conn monitor && (monitor.index == index)

-- a connector's monitor of a header
abbrev pub is_for : ConnId → ℕ → Monitor → Bool
is_for conn header monitor = is_of conn monitor && (monitor.header == header)

-- the header that a connector monitors at an index
abbrev pub monitored_at : List Monitor → ConnId → ℕ → Option ℕ
monitored_at monitors conn index = option_map (λ monitor. monitor.header) (find (is_at conn index) monitors)

-- a bit stands exactly where its index monitors a header that isn't empty
abbrev pub stands : List Monitor → (ℕ → Bool) → ConnId → ℕ → Bool
stands monitors is_full conn index =
    list_any (λ monitor. is_at conn index monitor && is_full monitor.header) monitors

-- a monitor takes the place of the connector's own at that index, and of its own for that header
abbrev pub is_replaced : ConnId → ℕ → ℕ → Monitor → Bool
is_replaced conn index header monitor = is_at conn index monitor || is_for conn header monitor

abbrev pub monitors_with : ConnId → ℕ → ℕ → List Monitor → List Monitor
monitors_with conn index header monitors =
    filter (λ other. not (is_replaced conn index header other)) monitors
    ++ record { conn = conn; index = index; header = header } ∷ []

-- a connector's monitor of a header ends; all of a connector's end
abbrev pub monitors_without : ConnId → ℕ → List Monitor → List Monitor
monitors_without conn header monitors = filter (λ monitor. not (is_for conn header monitor)) monitors

abbrev pub monitors_of_others : ConnId → List Monitor → List Monitor
monitors_of_others conn monitors = filter (λ monitor. not (is_of conn monitor)) monitors

-- a connector has one at most at an index, and one at most for a header
abbrev pub places_apart : Monitor → Monitor → Bool
places_apart monitor other = not ((monitor.conn.0 == other.conn.0) && (monitor.index == other.index))

abbrev pub headers_apart : Monitor → Monitor → Bool
headers_apart monitor other = not ((monitor.conn.0 == other.conn.0) && (monitor.header == other.header))

pub record AreMonitors (monitors : List Monitor) : Type 0 where
  pub one_at_index : IsTrue (pairwise places_apart monitors)
  pub one_for_header : IsTrue (pairwise headers_apart monitors)
