-- The structures of a script that threads share, as contracts see them, what goes with them, and what is left of them
-- at the end.
use Rattle.std.specs.Prelude.{◌≡◌, ℕ, ◌+◌, ◌≤◌, List, [], ◌∷◌, ◌++◌, length, map, replicate, slice_get, slice_index_or, Option, None, Some, All}
use Rattle.std.specs.List.{flat_map}
use Rattle.plex_script.specs.CfTypes.declared.limits.TheConstants.{STRUCTURES, CONNECTORS}
use Rattle.plex_script.specs.CfTypes.declared.numbers.ConnId.{ConnId}
use Rattle.plex_script.specs.CfTypes.declared.numbers.StrNo.{StrNo}
use Rattle.plex_script.specs.CfTypes.Forms.{IsForm}
use Rattle.struct_cell.specs.CfLink.Links.{AreAsked}
use Rattle.struct_cell.specs.CfLink.declared.links.Links.{Links}
use Rattle.plex_script.specs.declared.asks.AnyHistory.{AnyHistory}
use Rattle.plex_script.specs.declared.scripts.Script.{Script}
use Rattle.plex_script.specs.Heard.{any_calls, any_length, own_calls}
use Rattle.plex_board.specs.Types.{type_of_kind, type_of_history}
use Rattle.plex_board.specs.Passes.{PassShown, NoteShown, unused_pass}
use Rattle.struct_cell.specs.Limits.{AreMadeBelow}
use Rattle.run_shown.specs.Kinds.{IsAnyLegal, IsAnyPoint, any_numbers}
use Rattle.plex_board.specs.AnyCalls.{any_answers}
use Rattle.plex_board.specs.Cells.{CellShown, IsNoteOf, IsAnyTold, own_replies}
use Rattle.plex_board.specs.Desks.{DeskShown, Fixed, fixed_of, pass_at}

-- the cells of the structures, the number of connectors, and the links that no structure has
pub record BoardShown (L : Type 0) : Type 0 where
  pub cells : List (CellShown L)
  pub callers : ℕ
  pub spare : List L

abbrev pub cell_on : {L : Type 0} → BoardShown L → StrNo → Option (CellShown L)
cell_on board on = slice_get board.cells on.0

-- ---- links

abbrev pub four_of : {L : Type 0} → Links L → List L
four_of links = links.one ∷ links.two ∷ links.three ∷ links.four ∷ []

-- all links, those of the first structure first
abbrev pub links_of : {L : Type 0} → BoardShown L → List L
links_of board = flat_map (λ cell. four_of cell.links) board.cells ++ board.spare

-- ---- how a board begins

-- the structures and connectors of a script are as many as may be, and the forms are right
pub record IsPolicy (script : Script) : Type 0 where
  pub structures : length script.structures ≤ STRUCTURES
  pub connectors : length script.connectors ≤ CONNECTORS
  pub forms : All IsForm script.structures

-- a cell as it begins
pub record IsStarted {L : Type 0} (callers limit : ℕ) (cell : CellShown L) : Type 0 where
  pub type_is : cell.str_type ≡ type_of_kind cell.form.kind
  pub callers_is : cell.callers ≡ callers
  pub limit_is : cell.limit ≡ limit
  pub conns_is : cell.words.conns ≡ callers
  pub len_is : cell.words.len ≡ cell.form.vector

-- the desk of a caller that has seen nothing
abbrev pub new_desk : {L : Type 0} → BoardShown L → ℕ → DeskShown
new_desk board owner = record {
  owner = record { 0 = owner };
  passes = map (λ cell. unused_pass cell.str_type cell.words owner) board.cells;
}

-- ---- what goes with a board

-- what never changes of an owner's pass to a cell
abbrev pub fixed_at : {L : Type 0} → CellShown L → ConnId → Fixed
fixed_at cell owner = record { str_type = cell.str_type; words = cell.words; owner = owner }

-- a desk of this board
abbrev pub IsDeskOf : {L : Type 0} → BoardShown L → DeskShown → Type 0
IsDeskOf board desk = map fixed_of desk.passes ≡ map (λ cell. fixed_at cell desk.owner) board.cells

-- a tray: for each structure the note that was put in last, if there is one
abbrev pub no_notes : {L : Type 0} → BoardShown L → List (Option NoteShown)
no_notes board = replicate (length board.cells) None

abbrev pub note_in : List (Option NoteShown) → StrNo → Option NoteShown
note_in tray on = slice_index_or tray on.0 None

pub record IsTrayOf {L : Type 0} (board : BoardShown L) (tray : List (Option NoteShown)) : Type 0 where
  pub slots : length tray ≡ length board.cells
  pub notes : (x : ℕ) (cell : CellShown L) (note : NoteShown) → slice_get board.cells x ≡ Some cell
      → slice_get tray x ≡ Some (Some note) → IsNoteOf cell note

-- ---- how a board ends

-- the history of a structure: of its type, legal, not too long, and with calls of its callers alone; each came to a
-- journal with fewer entries than the limit
pub record IsClosed {L : Type 0} (cell : CellShown L) (entries : AnyHistory) : Type 0 where
  pub history_type : type_of_history entries ≡ cell.str_type
  pub legal : IsAnyLegal cell.form entries
  pub most : any_length entries ≤ cell.limit + 2
  pub room : AreMadeBelow cell.limit 0 (any_numbers entries)
  pub callers : All (λ call. call.by.0 ≤ cell.callers) (any_calls entries)

-- what the history says of a caller's pass: its owner's calls, each once and in order, and the replies to them; what its
-- tests answered; and that the number that it knows is a point of the history
pub record IsAccount {L : Type 0} (cell : CellShown L) (entries : AnyHistory) (pass : PassShown) : Type 0 where
  pub mine : pass.calls ≡ own_calls (any_calls entries) pass.owner
  pub replies : pass.replies ≡ own_replies entries pass.owner
  pub tests : All (IsAnyTold cell.form entries pass.owner) pass.tests
  pub point : IsAnyPoint entries pass.known
  pub known : pass.known ≤ any_length entries

-- the histories of the structures, with the desks of all callers
pub record AreClosed {L : Type 0} (board : BoardShown L) (desks : List DeskShown) (histories : List AnyHistory) : Type
    0 where
  pub structures : length histories ≡ length board.cells
  pub closed : (on : StrNo) (cell : CellShown L) (entries : AnyHistory) → cell_on board on ≡ Some cell
      → slice_get histories on.0 ≡ Some entries
      → IsClosed cell entries × All (λ desk. IsAccount cell entries (pass_at desk on)) desks

-- The links of a board once it is closed: those of each structure asked as its history says, and the others as they were.
abbrev pub AreEachAsked : {L : Type 0} → (L → Option ℕ) → (L → Option (List ℕ)) → (L → ℕ) → List (CellShown L)
    → List AnyHistory → List L → List L → Type 0
AreEachAsked calls downs faults [] histories spare links = links ≡ spare
AreEachAsked calls downs faults (cell ∷ cells) [] spare links = ⊥
AreEachAsked {L} calls downs faults (cell ∷ cells) (entries ∷ histories) spare links =
    (asked : Links L) × (others : List L) × (links ≡ four_of asked ++ others)
    × AreAsked calls downs faults (any_answers cell.form entries) cell.links asked
    × AreEachAsked calls downs faults cells histories spare others

abbrev pub AreLinksAsked : {L : Type 0} → (L → Option ℕ) → (L → Option (List ℕ)) → (L → ℕ) → BoardShown L
    → List AnyHistory → List L → Type 0
AreLinksAsked calls downs faults board histories links =
    AreEachAsked calls downs faults board.cells histories board.spare links
