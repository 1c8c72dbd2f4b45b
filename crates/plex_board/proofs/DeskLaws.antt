-- A desk's passes: what replaces one does to the desk, and what a desk of a board has.
use Rattle.plex_board.proofs.Imports.{◌≡◌, ℕ, ◌<◌, List, length, get_or, sym, ap, ◌∙◌, arith, get_or-set_same, Some, length-map, set-get_or, get_or-map, slice_get_within, get_or_from_slice_get, map-map, StrNo, PassShown, unused_pass, CellShown, IsPassOf, DeskShown, Fixed, fixed_of, no_pass, pass_at, with_pass, BoardShown, cell_on, fixed_at, IsDeskOf, new_desk}

-- ---- the desk with another pass

-- the pass is there
pub pass_at-with_pass_same : (desk : DeskShown) (on : StrNo) (pass : PassShown) → on.0 < length desk.passes
    → pass_at (with_pass on pass desk) on ≡ pass
pass_at-with_pass_same desk on pass below = get_or-set_same desk.passes on.0 pass no_pass below

-- the desk with the pass that it has
pub with_pass-pass_at : (desk : DeskShown) (on : StrNo) → with_pass on (pass_at desk on) desk ≡ desk
with_pass-pass_at desk on = grind (arith, set-get_or)

-- ---- what a desk of a board has

module _ {L : Type 0} (board : BoardShown L) where
  -- as many passes as the board has structures
  pub desk-length : (desk : DeskShown) → IsDeskOf board desk → length desk.passes ≡ length board.cells
  desk-length desk of = grind (arith, length-map)

  -- a pass of the cell, and of the desk's owner
  pub desk-pass : (desk : DeskShown) (on : StrNo) (cell : CellShown L) → IsDeskOf board desk
      → cell_on board on ≡ Some cell → fixed_of (pass_at desk on) ≡ fixed_at cell desk.owner
  desk-pass desk on cell of at =
      let below : on.0 < length board.cells = slice_get_within board.cells on.0 cell at in
      let lower : on.0 < length desk.passes = omega (arith, desk-length desk of, below) in
      let f : CellShown L → Fixed = λ c. fixed_at c desk.owner in
      let here : get_or board.cells on.0 cell ≡ cell = get_or_from_slice_get board.cells on.0 cell cell at in
      sym (get_or-map fixed_of desk.passes on.0 no_pass (f cell) lower)
      ∙ ap (λ (fixed : List Fixed). get_or fixed on.0 (f cell)) of
      ∙ get_or-map f board.cells on.0 cell (f cell) below ∙ ap f here

  pub desk-pass_is : (desk : DeskShown) (on : StrNo) (cell : CellShown L) → IsDeskOf board desk
      → cell_on board on ≡ Some cell → IsPassOf cell (pass_at desk on)
  desk-pass_is desk on cell of at = grind (arith, desk-pass)

  pub desk-pass_owner : (desk : DeskShown) (on : StrNo) (cell : CellShown L) → IsDeskOf board desk
      → cell_on board on ≡ Some cell → (pass_at desk on).owner ≡ desk.owner
  desk-pass_owner desk on cell of at = ap (λ (fixed : Fixed). fixed.owner) (desk-pass desk on cell of at)

  -- the desk of a caller that has seen nothing
  pub new_desk-of_board : (owner : ℕ) → IsDeskOf board (new_desk board owner)
  new_desk-of_board owner =
      map-map fixed_of (λ (cell : CellShown L). unused_pass cell.str_type cell.words owner) board.cells
