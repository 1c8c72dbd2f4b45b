-- Which monitors a call ends, and what is told of it.
use Rattle.std.specs.Prelude.{ℕ, Bool, false, not, ◌&&◌, ◌==◌, List, [], ◌∷◌, ◌++◌, filter, map}
use Rattle.cf_types.specs.declared.effects.BitChange.{BitChange}
use Rattle.list_watch.specs.declared.monitors.Watched.{Watched}
use Rattle.list_watch.specs.declared.ends.Ends.{Ends}
use Rattle.list_watch.specs.declared.ends.Ends.TheVariants.{Elsewhere, Header, Conn}
use Rattle.list_watch.specs.Monitors.{is_of, is_at, is_for}

abbrev pub is_ended : Ends → Watched → Bool
is_ended (Elsewhere conn index header) row = is_for conn header row.monitor && not (row.monitor.index == index)
is_ended (Header conn header) row = is_for conn header row.monitor
is_ended (Conn conn) row = is_of conn row.monitor

abbrev pub rows_ended : Ends → List Watched → List Watched
rows_ended ends rows = filter (λ row. not (is_ended ends row)) rows

-- the bit of a monitor that ends is cleared where it stood
abbrev pub is_cleared : Ends → Watched → Bool
is_cleared ends row = row.full && is_ended ends row

abbrev pub change_to : Bool → Watched → BitChange
change_to bit row = record { conn = row.monitor.conn; index = row.monitor.index; bit = bit }

abbrev pub clear_changes : Ends → List Watched → List BitChange
clear_changes ends rows = map (change_to false) (filter (is_cleared ends) rows)

-- the bit of a monitor of a header that turns is changed where it stood otherwise
abbrev pub differs : Bool → Bool → Bool
differs Bool.true full = not full
differs Bool.false full = full

abbrev pub is_turned : ℕ → Bool → Watched → Bool
is_turned header full row = (row.monitor.header == header) && differs row.full full

abbrev pub turn_changes : ℕ → Bool → List Watched → List BitChange
turn_changes header full rows = map (change_to full) (filter (is_turned header full) rows)

-- a monitor takes the place of what stands at its index
abbrev pub rows_put : Watched → List Watched → List Watched
rows_put new rows =
    filter (λ row. not (is_at new.monitor.conn new.monitor.index row.monitor)) rows ++ new ∷ []
