-- The cell of a structure that is there, and what the steps of a line may ask of it.
use Rattle.plex_agent.proofs.Imports.{◌≡◌, ◌<◌, length, Some, None, Option, refl, sym, subst, arith, IfSome, Kind, ConnId, StrNo, Step, AnyAsk, asked_by, type_of_kind, MayAskAny, CellShown, IsAskOf, BoardShown, cell_on, IsAskable, get_within, ShellCmd, MayCommand, shell_ask}

-- ---- what may be asked

pub common_ask : {L : Type 0} (cell : CellShown L) (kind : Kind) (command : ShellCmd)
    → cell.str_type ≡ type_of_kind kind → IsAskOf cell (shell_ask kind command)
common_ask cell Kind.Cache command type_is = sym type_is
common_ask cell kind command type_is = sym type_is

pub common_may : (kind : Kind) (by : ConnId) (command : ShellCmd) → MayCommand by command
    → MayAskAny by (shell_ask kind command)
common_may Kind.Cache by command may = may
common_may kind by command may = may

-- what a step asks, its caller may ask
pub may_ask : {L : Type 0} (cell : CellShown L) (kind : Kind)
    (line : Option AnyAsk) (by : ConnId) (now : Step) (asked : AnyAsk) → cell.str_type ≡ type_of_kind kind
    → IsAskable line by cell → Some asked ≡ asked_by kind line now → IsAskOf cell asked × MayAskAny by asked
may_ask cell kind None by (Step.Call asks) asked type_is may asks' = absurd cc
may_ask cell kind (Some call) by (Step.Call asks) asked type_is may asks' =
    let here : call ≡ asked = cc in subst (λ ask. IsAskOf cell ask × MayAskAny by ask) here may.call
may_ask cell kind line by (Step.Next left behind) asked type_is may asks' = grind (arith, common_ask, common_may)
may_ask cell kind line by (Step.Respond left behind) asked type_is may asks' = grind (arith, common_ask, common_may)
may_ask cell kind line by Step.Rest asked type_is may asks' = absurd cc

pub some_is : {X : Type 0} (P : X → Type 0) (o : Option X) (x : X) → o ≡ Some x → IfSome o P → P x
some_is P o x is all = subst (λ o. IfSome o P) is all

pub if_each : {X : Type 0} (P : X → Type 0) (o : Option X) → ((x : X) → o ≡ Some x → P x) → IfSome o P
if_each P None each = tt
if_each P (Some x) each = each x refl

module _ {L : Type 0} (board : BoardShown L) (on : StrNo) where
  pub cell_there : on.0 < length board.cells → (cell : CellShown L) × (cell_on board on ≡ Some cell)
  cell_there below = get_within board.cells on.0 below

  module _ (kind : Kind) (line : Option AnyAsk) (by : ConnId) (now : Step) (asked : AnyAsk)
      (type_is : IfSome (cell_on board on) (λ cell. cell.str_type ≡ type_of_kind kind))
      (may : IfSome (cell_on board on) (IsAskable line by)) (asks : Some asked ≡ asked_by kind line now) where
    pub ask_fits : IfSome (cell_on board on) (λ cell. IsAskOf cell asked)
    ask_fits = grind (arith, if_each, may_ask, some_is)

    pub may_ask_there : on.0 < length board.cells → MayAskAny by asked
    may_ask_there below = grind (arith, cell_there, may_ask, some_is)
