-- Monitors with the bits that their connectors were told.
use Rattle.std.specs.Prelude.{ℕ, Bool, not, ◌&&◌, ◌==◌, if◌then◌else◌, List, [], ◌∷◌, ◌++◌, filter, map}
use Rattle.std.specs.List.{list_any}
use Rattle.cf_types.specs.declared.numbers.ConnId.{ConnId}
use Rattle.list_watch.specs.declared.monitors.Monitor.{Monitor}
use Rattle.list_watch.specs.declared.monitors.Watched.{Watched}
use Rattle.list_watch.specs.Monitors.{is_of, is_at, is_for, is_replaced}

abbrev pub monitors_of : List Watched → List Monitor
monitors_of rows = map (λ row. row.monitor) rows

-- the bit of a connector's vector at an index
abbrev pub is_lit : ConnId → ℕ → Watched → Bool
is_lit conn index row = is_at conn index row.monitor && row.full

abbrev pub bit_of : List Watched → ConnId → ℕ → Bool
bit_of rows conn index = list_any (is_lit conn index) rows

-- the connectors that monitor a header are told whether it has records
abbrev pub row_turned : ℕ → Bool → Watched → Watched
row_turned header full row = if row.monitor.header == header then record row { full = full } else row

abbrev pub rows_turned : ℕ → Bool → List Watched → List Watched
rows_turned header full rows = map (row_turned header full) rows

-- a monitor more, in place of the connector's own at that index and of its own for that header
abbrev pub rows_with : ConnId → ℕ → ℕ → Bool → List Watched → List Watched
rows_with conn index header full rows =
    filter (λ row. not (is_replaced conn index header row.monitor)) rows
    ++ record { monitor = record { conn = conn; index = index; header = header }; full = full } ∷ []

-- a connector's monitor of a header ends; all of a connector's end
abbrev pub rows_without : ConnId → ℕ → List Watched → List Watched
rows_without conn header rows = filter (λ row. not (is_for conn header row.monitor)) rows

abbrev pub rows_of_others : ConnId → List Watched → List Watched
rows_of_others conn rows = filter (λ row. not (is_of conn row.monitor)) rows
