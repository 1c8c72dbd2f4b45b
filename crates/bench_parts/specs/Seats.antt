-- A script of one cache structure with vectors of 32 bits, and a connector's desk at a board that begins with one.
use Rattle.std.specs.Prelude.{◌≡◌, ◌<◌, List, [], ◌∷◌, length, IfSome}
use Rattle.plex_board.specs.CfTypes.declared.forms.Kind.TheVariants as kind
use Rattle.plex_board.specs.CfTypes.declared.forms.StrForm.{StrForm}
use Rattle.plex_board.specs.CfTypes.declared.numbers.StrNo.{StrNo}
use Rattle.plex_board.specs.CfTypes.Forms.{IsForm, IsConnector}
use Rattle.plex_board.specs.EngineApi.Asking.{IsOperator}
use Rattle.plex_board.specs.PlexScript.declared.scripts.Script.{Script}
use Rattle.plex_board.specs.Types.{OfCache}
use Rattle.plex_board.specs.Cells.{CellShown}
use Rattle.plex_board.specs.Desks.{DeskShown}
use Rattle.plex_board.specs.Boards.{BoardShown, IsDeskOf, cell_on}

-- the form of a cache structure with vectors of 32 bits
pub record IsCacheForm (form : StrForm) : Type 0 where
  pub formed : IsForm form
  pub kind_is : form.kind ≡ kind.Cache
  pub vector_is : form.vector ≡ 32

-- such a form alone
abbrev pub IsCacheAlone : List StrForm → Type 0
IsCacheAlone [] = ⊥
IsCacheAlone (form ∷ []) = IsCacheForm form
IsCacheAlone (form ∷ other ∷ forms) = ⊥

-- a script of such a structure and of one connector
pub record IsOneCache (script : Script) : Type 0 where
  pub structures : IsCacheAlone script.structures
  pub connectors : length script.connectors ≡ 1

-- the first structure
abbrev pub pool : StrNo
pool = record { 0 = 0 }

-- the cell of a cache structure with vectors of 32 bits
abbrev pub IsPool : {L : Type 0} → CellShown L → Type 0
IsPool cell = (cell.str_type ≡ OfCache) × (cell.words.len ≡ 32)

-- the first structure of a board is such a cache
pub record IsCacheBoard {L : Type 0} (board : BoardShown L) : Type 0 where
  pub some : 0 < length board.cells
  pub pool_is : IfSome (cell_on board pool) IsPool

-- the operator's desk at such a board
pub record IsOperated {L : Type 0} (board : BoardShown L) (desk : DeskShown) : Type 0 where
  pub board_is : IsCacheBoard board
  pub of_board : IsDeskOf board desk
  pub operator : IsOperator desk.owner

-- a connector's desk at such a board
pub record IsSeated {L : Type 0} (board : BoardShown L) (desk : DeskShown) : Type 0 where
  pub board_is : IsCacheBoard board
  pub of_board : IsDeskOf board desk
  pub connector : IsConnector desk.owner
