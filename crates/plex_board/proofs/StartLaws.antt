-- What is known as a board's structures are made in the order of the script.
use Rattle.plex_board.proofs.Imports.{◌≡◌, ℕ, Vec, ◌+◌, ◌<◌, List, arith, [], ◌∷◌, ◌++◌, length, get_or, map, take, sym, ap, subst, ◌∙◌, append_assoc, All, Result, Ok, Err, IfOk, flat_map, range_with_len, take_more, length-map, length-append, StrForm, CellShown, DeskShown, BoardShown, IsStarted, four_of, links_of, new_desk, desk_at}

-- one form more
pub forms-more : {X : Type 0} (forms : List X) (i : ℕ) (form : X) (made after : List X) → i < length forms
    → form ≡ get_or forms i form → made ≡ take i forms → after ≡ made ++ form ∷ [] → after ≡ take (i + 1) forms
forms-more {X} forms i form made after below is are more = grind (arith, take_more)

-- the new desks are those of the board
pub desks-opened : {L : Type 0} (board : BoardShown L) (cells : List (CellShown L)) (callers : ℕ) (spare : List L)
    (owners : List ℕ) (desks : List DeskShown) → board ≡ record { cells = cells; callers = callers; spare = spare }
    → desks ≡ map (desk_at cells) owners → desks ≡ map (new_desk board) owners
desks-opened {L} board cells callers spare owners desks is are =
    subst (λ (b : BoardShown L). desks ≡ map (new_desk b) owners) (sym is) are

-- four links more are those of one structure more
pub links-more : {X : Type 0} (front four left rest all after : List X) → after ≡ front ++ four → front ++ left ≡ all
    → left ≡ four ++ rest → after ++ rest ≡ all
links-more {X} front four left rest all after more is parts = rw (more, append_assoc, ← parts) is

-- the board of these parts
abbrev pub opened : {L : Type 0} → List (CellShown L) → ℕ → List L → BoardShown L
opened cells callers spare = record { cells = cells; callers = callers; spare = spare }

module _ {L : Type 0} where
  -- before the first structure
  pub start-none : (cells : List (CellShown L)) (left all : List L) → cells ≡ [] → left ≡ all
      → (map (λ (cell : CellShown L). cell.form) cells ≡ []) × (length cells ≡ 0)
      × (flat_map (λ (cell : CellShown L). four_of cell.links) cells ++ left ≡ all)
  start-none cells left all none same = grind arith

  pub count-more : (cells more : List (CellShown L)) (form : StrForm) (i : ℕ)
      → map (λ (cell : CellShown L). cell.form) more ≡ map (λ (cell : CellShown L). cell.form) cells ++ form ∷ []
      → length cells ≡ i → length more ≡ i + 1
  count-more cells more form i is at = grind (arith, length-map, length-append)

  -- ---- the board that was opened

  module _ {V E : Type 0} (cells : List (CellShown L)) (callers : ℕ) (spare : List L) where
    pub opened-cells : (answer : Result (BoardShown L × V) E) (n limit : ℕ) → callers ≡ n
        → All (IsStarted callers limit) cells → IfOk answer (λ r. r.0 ≡ opened cells callers spare)
        → IfOk answer (λ r. All (IsStarted n limit) r.0.cells)
    opened-cells (Ok r) n limit same are is = grind arith
    opened-cells (Err e) n limit same are is = tt

    pub opened-links : (answer : Result (BoardShown L × V) E) (all : List L)
        → flat_map (λ (cell : CellShown L). four_of cell.links) cells ++ spare ≡ all
        → IfOk answer (λ r. r.0 ≡ opened cells callers spare) → IfOk answer (λ r. links_of r.0 ≡ all)
    opened-links (Ok r) all are is = ap (λ (b : BoardShown L). links_of b) is ∙ are
    opened-links (Err e) all are is = tt

  pub opened-desks : {E Z : Type 0} (cells : List (CellShown L)) (callers : ℕ) (spare : List L)
      (answer : Result (BoardShown L × Vec DeskShown Z) E) (n : ℕ) → callers ≡ n → IfOk answer (λ r. r.0 ≡ record {
        cells = cells;
        callers = callers;
        spare = spare;
      }) → IfOk answer (λ r. r.1.items ≡ map (desk_at cells)
      (range_with_len 0 (callers + 1))) → IfOk answer (λ r. r.1.items ≡ map (new_desk r.0) (range_with_len 0 (n + 1)))
  opened-desks cells callers spare (Ok r) n same is are = grind (arith, desks-opened)
  opened-desks cells callers spare (Err e) n same is are = tt
