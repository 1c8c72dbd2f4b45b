-- What a board keeps for its end, and how passes go home.
use Rattle.std.specs.Prelude.{◌≡◌, ℕ, ◌+◌, ◌*◌, ◌≤◌, ◌<◌, List, [], ◌∷◌, ◌++◌, length, map, All}
use Rattle.std.specs.Vec.{vec_capacity}
use Rattle.plex_script.specs.CfTypes.declared.limits.TheConstants.{STRUCTURES, CONNECTORS}
use Rattle.plex_script.specs.declared.asks.AnyHistory.{AnyHistory}
use Rattle.plex_board.specs.declared.any_pass.AnyPasses.{AnyPasses}
use Rattle.plex_board.specs.Types.{StrType}
use Rattle.plex_board.specs.Passes.{PassShown, passes_shown, type_of_passes, room_of}
use Rattle.plex_board.specs.Cells.{CellShown, IsPassOf}
use Rattle.plex_board.specs.declared.rest.Rest.{Rest}
use Rattle.plex_board.specs.Desks.{DeskShown}
use Rattle.plex_board.specs.Boards.{IsClosed, IsAccount}

-- each of the second, changed by its partner of the first
abbrev pub each_with : {A B : Type 0} → (A → B → B) → List A → List B → List B
each_with f [] ys = ys
each_with f (x ∷ xs) [] = []
each_with f (x ∷ xs) (y ∷ ys) = f x y ∷ each_with f xs ys

-- ---- homes

-- a vector in which a structure's passes go home: the structure's type, the passes, and for how many there is room
pub record HomeShown : Type 0 where
  pub str_type : StrType
  pub passes : List PassShown
  pub room : ℕ

abbrev pub home_shown : AnyPasses → HomeShown
home_shown home = record { str_type = type_of_passes home; passes = passes_shown home; room = room_of home }

abbrev pub homes_shown : List AnyPasses → List HomeShown
homes_shown homes = map home_shown homes

abbrev pub home_with : PassShown → HomeShown → HomeShown
home_with pass home = record home { passes = home.passes ++ pass ∷ [] }

-- each of the passes has its home, of its type and with room for it
abbrev pub Fits : List PassShown → List HomeShown → Type 0
Fits [] homes = Unit {0}
Fits (pass ∷ passes) [] = ⊥
Fits (pass ∷ passes) (home ∷ homes) =
    (pass.str_type ≡ home.str_type) × (length home.passes < home.room) × Fits passes homes

-- the homes once the passes of these desks are there too
abbrev pub homes_gathered : List DeskShown → List HomeShown → List HomeShown
homes_gathered [] homes = homes
homes_gathered (desk ∷ desks) homes = homes_gathered desks (each_with home_with desk.passes homes)

abbrev pub AllFit : List DeskShown → List HomeShown → Type 0
AllFit [] homes = Unit {0}
AllFit (desk ∷ desks) homes = Fits desk.passes homes × AllFit desks (each_with home_with desk.passes homes)

-- a home has passes of its structure alone, and room for so many more
pub record IsHomeOf {L : Type 0} (more : ℕ) (cell : CellShown L) (home : HomeShown) : Type 0 where
  pub type_is : home.str_type ≡ cell.str_type
  pub passes : All (IsPassOf cell) home.passes
  pub room : length home.passes + more ≤ home.room

-- a home for each structure
abbrev pub AreHomes : {L : Type 0} → ℕ → List (CellShown L) → List HomeShown → Type 0
AreHomes more [] [] = Unit {0}
AreHomes more [] (home ∷ homes) = ⊥
AreHomes more (cell ∷ cells) [] = ⊥
AreHomes more (cell ∷ cells) (home ∷ homes) = IsHomeOf more cell home × AreHomes more cells homes

abbrev pub AreEmpty : List HomeShown → Type 0
AreEmpty homes = All (λ home. home.passes ≡ []) homes

-- ---- the end

-- a history for each structure, which says of the passes at home what it has to say
abbrev pub AreEnded : {L : Type 0} → List (CellShown L) → List HomeShown → List AnyHistory → Type 0
AreEnded [] [] [] = Unit {0}
AreEnded [] [] (entries ∷ histories) = ⊥
AreEnded [] (home ∷ homes) histories = ⊥
AreEnded (cell ∷ cells) [] histories = ⊥
AreEnded (cell ∷ cells) (home ∷ homes) [] = ⊥
AreEnded (cell ∷ cells) (home ∷ homes) (entries ∷ histories) =
    IsClosed cell entries × All (IsAccount cell entries) home.passes × AreEnded cells homes histories

-- room for the end of so many structures
pub record IsRoomy {L : Type 0} (structures : ℕ) (rest : Rest L) : Type 0 where
  pub no_histories : rest.histories.items ≡ []
  pub history_room : structures ≤ vec_capacity rest.histories
  pub no_links : rest.links.items ≡ []
  pub link_room : 4 * structures + length rest.spare.items ≤ vec_capacity rest.links

pub record IsReady {L : Type 0} (cells : List (CellShown L)) (callers : ℕ) (rest : Rest L) : Type 0 where
  pub few : length cells ≤ STRUCTURES
  pub few_callers : callers ≤ CONNECTORS
  pub homes : AreHomes (callers + 1) cells (homes_shown rest.homes.items)
  pub empty : AreEmpty (homes_shown rest.homes.items)
  pub room : IsRoomy (length cells) rest
