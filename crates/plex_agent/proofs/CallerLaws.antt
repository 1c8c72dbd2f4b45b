-- A caller's whole work, one line and one departure after another.
use Rattle.plex_agent.proofs.Imports.{◌≡◌, ℕ, suc, ◌+◌, ◌<◌, ◌==◌, true, false, List, ◌∷◌, length, drop, get_or, sym, subst, arith, IfSome, All, drop-cons, All-get_or, get_or_from_slice_get, ConnId, Line, BoardShown, cell_on, AtWork, Turns, Departs, IsLineFor, lines_by}
use Rattle.plex_board.specs.Callers.{DoesLines, DepartsEach}
use Rattle.plex_agent.proofs.CellLaws.{some_is, cell_there}

drop_next : {X : Type 0} (xs : List X) (i : ℕ) (x d : X) → i < length xs → x ≡ get_or xs i d
    → drop i xs ≡ x ∷ drop (i + 1) xs
drop_next xs i x d within value = let next : i + 1 ≡ suc i = omega arith in rw (next, value) (drop-cons xs i d within)

-- each line is one for the board
pub line_fits : {L : Type 0} (board : BoardShown L) (lines : List Line) (i : ℕ) (line d : Line) → i < length lines
    → line ≡ get_or lines i d → All (IsLineFor board) lines → IsLineFor board line
line_fits board lines i line d within value all =
    subst (IsLineFor board) (sym value) (All-get_or (IsLineFor board) lines i d within all)

module _ {L : Type 0} (board : BoardShown L) (before between after : AtWork) where
  -- a departure, and those behind it
  pub departs_next : (number : ℕ) → number < length board.cells → IfSome (cell_on board (record { 0 = number }))
      (λ cell. Departs cell.limit cell.form (record { 0 = number }) before between) → DepartsEach (number + 1)
      (drop (number + 1) board.cells) between after → DepartsEach number (drop number board.cells) before after
  departs_next number below departs rest =
      let there = cell_there board (record { 0 = number }) below in
      let here = drop_next _ _ _ _ below (sym (get_or_from_slice_get board.cells number there.0 there.0 there.1)) in
      rw here (between, some_is _ _ _ there.1 departs, rest)

  module _ (owner : ConnId) (lines : List Line) (i : ℕ) (line d : Line) (within : i < length lines)
      (value : line ≡ get_or lines i d) where
    -- a line of the caller's own, and those behind it
    pub does_own : line.by.0 == owner.0 ≡ true → IsLineFor board line → IfSome (cell_on board line.on)
        (λ cell. Turns cell.limit cell.form line before between) → DoesLines board (lines_by
        owner (drop (i + 1) lines)) between after → DoesLines board (lines_by owner (drop i lines)) before after
    does_own mine for_board turns rest =
        let here = drop_next _ i _ d within value in
        rw (here, mine) (for_board.cell, for_board.there, (between, some_is _ _ _ for_board.there turns, rest))

    -- a line of another caller is passed over
    pub does_others : line.by.0 == owner.0 ≡ false → DoesLines board (lines_by owner (drop (i + 1) lines))
        before after → DoesLines board (lines_by owner (drop i lines)) before after
    does_others other rest = grind (arith, drop_next)
