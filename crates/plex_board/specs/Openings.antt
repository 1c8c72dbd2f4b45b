-- A board as its structures are made, one after the other.
use Rattle.std.specs.Prelude.{◌≡◌, ℕ, ◌+◌, ◌<◌, ◌≤◌, List, [], ◌∷◌, ◌++◌, length, map, All}
use Rattle.std.specs.List.{range_with_len}
use Rattle.std.specs.Vec.{vec_capacity}
use Rattle.plex_script.specs.CfTypes.declared.limits.TheConstants.{STRUCTURES, LINKS}
use Rattle.plex_board.specs.Passes.{PassShown}
use Rattle.plex_board.specs.Cells.{CellShown}
use Rattle.plex_board.specs.declared.rest.Rest.{Rest}
use Rattle.plex_board.specs.declared.opening.Opening.{Opening}
use Rattle.plex_board.specs.Desks.{DeskShown}
use Rattle.plex_board.specs.Boards.{IsStarted, new_desk}
use Rattle.plex_board.specs.Rests.{HomeShown, AreHomes, AreEmpty, homes_shown}

-- the desk of a caller that has seen nothing of these structures
abbrev pub desk_at : {L : Type 0} → List (CellShown L) → ℕ → DeskShown
desk_at cells owner = new_desk (record { cells = cells; callers = 0; spare = [] }) owner

-- a desk without passes
abbrev pub bare_desk : ℕ → DeskShown
bare_desk owner = record { owner = record { 0 = owner }; passes = [] }

abbrev pub desk_with : PassShown → DeskShown → DeskShown
desk_with pass desk = record desk { passes = desk.passes ++ pass ∷ [] }

-- what the end will need is there, for as many structures as a script may have, and their links
pub record IsBegun {L : Type 0} (callers : ℕ) (cells : List (CellShown L)) (rest : Rest L) : Type 0 where
  pub homes : AreHomes (callers + 1) cells (homes_shown rest.homes.items)
  pub empty : AreEmpty (homes_shown rest.homes.items)
  pub homes_room : STRUCTURES ≤ vec_capacity rest.homes
  pub no_histories : rest.histories.items ≡ []
  pub history_room : STRUCTURES ≤ vec_capacity rest.histories
  pub no_links : rest.links.items ≡ []
  pub link_room : LINKS ≤ vec_capacity rest.links
  pub no_spare : rest.spare.items ≡ []
  pub spare_room : LINKS ≤ vec_capacity rest.spare

pub record IsOpening {K L Cache List' Lock Item1 Order1 State1 Item2 Order2 State2 Item3 Order3 State3 : Type 0}
    (callers limit : ℕ) (opening : Opening K L Cache List' Lock Item1 Order1 State1 Item2 Order2 State2 Item3 Order3 State3)
    : Type 0 where
  pub started : All (IsStarted callers limit) opening.stations.items
  pub stations_room : STRUCTURES ≤ vec_capacity opening.stations
  pub desks : opening.desks.items ≡ map (desk_at opening.stations.items) (range_with_len 0 (callers + 1))
  pub begun : IsBegun callers opening.stations.items opening.rest

-- nobody has called these structures yet: there is a desk for each caller, new at each of them, and a home for its pass
pub record IsUnused {L : Type 0} (cells : List (CellShown L)) (homes : List HomeShown) (desks : List DeskShown) :
    Type 0 where
  pub homes_are : AreHomes (length desks) cells homes
  pub empty : AreEmpty homes
  pub desks_are : desks ≡ map (desk_at cells) (range_with_len 0 (length desks))
  pub callers : All (λ cell. cell.callers < length desks) cells
