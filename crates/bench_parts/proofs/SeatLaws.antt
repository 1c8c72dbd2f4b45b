-- What is known at a board of one cache structure, and of the connector's desk there.
use Rattle.bench_parts.proofs.Imports.{AlterCmd, ◌≡◌, ℕ, ◌+◌, ◌<◌, ◌≤◌, List, arith, [], ◌∷◌, ◌++◌, length, map, refl, sym, ap, subst, ◌∙◌, All, Option, Some, None, IfSome, Result, Ok, Err, IfOk, IfErr, slice_get, option_to_list, range_with_len, All-nil, All-cons, All-head, StrForm, CacheCmd, IsForm, IsConnector, Ask, Told, Script, AnyAsk, CallRefused, type_of_kind, CellShown, IsAskOf, DeskShown, IsAnsweredOn, IsLaterOn, BoardShown, IsPolicy, IsStarted, IsDeskOf, cell_on, new_desk, new_desk-of_board, IsCacheForm, IsCacheAlone, IsOneCache, IsPool, IsCacheBoard, IsOperated, IsSeated, pool}
use Rattle.bench_parts.proofs.LastLaws.{front-of_two, last-of_one, last-some}

-- ---- the script

-- one form is few, and right
forms-few : (forms : List StrForm) → IsCacheAlone forms → (length forms ≤ 16) × All IsForm forms
forms-few [] alone = absurd alone
forms-few (form ∷ []) alone = (omega arith, All-cons IsForm form [] alone.formed (All-nil IsForm))
forms-few (form ∷ other ∷ forms) alone = absurd alone

pub policy_is : (script : Script) → IsOneCache script → IsPolicy script
policy_is script one =
    let few = forms-few script.structures one.structures in
    let count = one.connectors in
    record { structures = few.0; connectors = omega (arith, count); forms = few.1 }

-- ---- the board

module _ {L : Type 0} where
  -- the cell of one form
  first-pool : (callers limit : ℕ) (cells : List (CellShown L)) (forms : List StrForm)
      → map (λ (cell : CellShown L). cell.form) cells ≡ forms → IsCacheAlone forms
      → All (IsStarted callers limit) cells → (0 < length cells) × IfSome (slice_get cells 0) IsPool
  first-pool callers limit [] forms is alone all = absurd (subst IsCacheAlone (sym is) alone)
  first-pool callers limit (cell ∷ []) forms is alone all =
      let form : IsCacheForm cell.form = subst IsCacheAlone (sym is) alone in
      let started : IsStarted callers limit cell = All-head (IsStarted callers limit) cell [] all in
      (omega arith, (started.type_is ∙ ap type_of_kind form.kind_is, started.len_is ∙ form.vector_is))
  first-pool callers limit (cell ∷ other ∷ cells) forms is alone all = absurd (subst IsCacheAlone (sym is) alone)

  pub board_is : (callers limit : ℕ) (board : BoardShown L) (script : Script)
      → map (λ (cell : CellShown L). cell.form) board.cells ≡ script.structures → IsOneCache script
      → All (IsStarted callers limit) board.cells → IsCacheBoard board
  board_is callers limit board script is one all =
      let found = first-pool callers limit board.cells script.structures is one.structures all in
      record { some = found.0; pool_is = found.1 }

  -- the same of a board that may have begun
  pub begun-board : {V E : Type 0} (callers limit : ℕ) (script : Script) (answer : Result (BoardShown L × V) E)
      → IsOneCache script → IfOk answer (λ r. map (λ (cell : CellShown L). cell.form) r.0.cells ≡ script.structures)
      → IfOk answer (λ r. All (IsStarted callers limit) r.0.cells) → IfOk answer (λ r. IsCacheBoard r.0)
  begun-board callers limit script (Ok r) one forms cells = board_is callers limit r.0 script forms one cells
  begun-board callers limit script (Err e) one forms cells = tt

  pub begun-desks : {V E : Type 0} (items : V → List DeskShown) (script : Script)
      (answer : Result (BoardShown L × V) E) → IsOneCache script
      → IfOk answer (λ r. items r.1 ≡ map (new_desk r.0) (range_with_len 0 (length script.connectors + 1)))
      → IfOk answer (λ r. items r.1 ≡ map (new_desk r.0) (range_with_len 0 (1 + 1)))
  begun-desks items script (Ok r) one are =
      are ∙ ap (λ (n : ℕ). map (new_desk r.0) (range_with_len 0 (n + 1))) one.connectors
  begun-desks items script (Err e) one are = tt

-- ---- the desk

-- a call leaves the desk its owner's
pub call-owner : (answer : Result Told CallRefused) (asked : AnyAsk) (before after : DeskShown)
    → IfOk answer (λ told. IsAnsweredOn pool asked told before after)
    → IfErr answer (λ refusal. IsLaterOn pool before after) → after.owner ≡ before.owner
call-owner (Ok told) asked before after is none = ap (λ (d : DeskShown). d.owner) is.desk
call-owner (Err refusal) asked before after none later = ap (λ (d : DeskShown). d.owner) later.rest

module _ {L : Type 0} (board : BoardShown L) where
  -- the last desk of a new board with one connector is the connector's
  pub last-seated : (desks front : List DeskShown) (found : Option DeskShown) → IsCacheBoard board
      → desks ≡ map (new_desk board) (range_with_len 0 (1 + 1)) → desks ≡ front ++ option_to_list found
      → IfSome found (IsSeated board)
  last-seated desks front found cache are ends =
      last-some (IsSeated board) (new_desk board 0) (new_desk board 1) front found (sym are ∙ ends) (record {
        board_is = cache;
        of_board = new_desk-of_board board 1;
        connector = (omega arith, omega arith);
      })

  -- the first desk is left then
  pub first-left : (desks front : List DeskShown) (found : Option DeskShown)
      → desks ≡ map (new_desk board) (range_with_len 0 (1 + 1)) → desks ≡ front ++ option_to_list found
      → IfSome found (λ desk. front ≡ new_desk board 0 ∷ [])
  first-left desks front None are ends = tt
  first-left desks front (Some desk) are ends =
      front-of_two (new_desk board 0) (new_desk board 1) front desk (sym are ∙ ends)

  -- and is the operator's
  pub first-operated : (desks front : List DeskShown) (found : Option DeskShown) → IsCacheBoard board
      → desks ≡ new_desk board 0 ∷ [] → desks ≡ front ++ option_to_list found → IfSome found (IsOperated board)
  first-operated desks front None cache are ends = tt
  first-operated desks front (Some desk) cache are ends =
      subst (IsOperated board) (last-of_one (new_desk board 0) front desk (sym are ∙ ends)) (record {
        board_is = cache;
        of_board = new_desk-of_board board 0;
        operator = refl;
      })

  -- the desk stays the connector's
  pub still-seated : (before after : DeskShown) → IsSeated board before → after.owner ≡ before.owner
      → IsDeskOf board after → IsSeated board after
  still-seated before after seat same of = record {
    board_is = seat.board_is;
    of_board = of;
    connector = subst IsConnector (sym same) seat.connector;
  }

  -- what a cache is asked is for the structure
  pub pool-asked : (asked : Ask (AlterCmd CacheCmd)) → IsCacheBoard board
      → IfSome (cell_on board pool) (λ cell. IsAskOf cell (AnyAsk.Cache asked))
  pool-asked asked cache = go (cell_on board pool) cache.pool_is
    where
      go : (found : Option (CellShown L)) → IfSome found IsPool
          → IfSome found (λ cell. IsAskOf cell (AnyAsk.Cache asked))
      go None is = tt
      go (Some cell) is = sym is.0

  -- an index below 32 is one of the vectors
  pub pool-within : (index : ℕ) → IsCacheBoard board → index < 32
      → IfSome (cell_on board pool) (λ cell. index < cell.words.len)
  pool-within index cache below = go (cell_on board pool) cache.pool_is
    where
      go : (found : Option (CellShown L)) → IfSome found IsPool → IfSome found (λ cell. index < cell.words.len)
      go None is = tt
      go (Some cell) is = let len = is.1 in omega (arith, len, below)
