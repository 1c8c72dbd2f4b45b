-- The desks of a board: as it begins, and as it is closed.
use Rattle.std.proofs.Common.{◌≡◌, ℕ, ◌+◌, List, [], ◌∷◌, map, get_or, ap, sym, ◌∙◌}
use Rattle.std.specs.Prelude.{All}
use Rattle.std.specs.List.{range_with_len}
use Rattle.std.proofs.lemmas.List.Elements.{All-cons, All-map, All-nil, All-same}
use Rattle.plex_board.specs.{Desks.DeskShown, Boards.BoardShown, Boards.IsDeskOf, Boards.new_desk}
use Rattle.plex_board.proofs.DeskLaws.{new_desk-of_board}

abbrev owner_of : DeskShown → ℕ
owner_of desk = desk.owner.0

module _ {L : Type 0} (board : BoardShown L) (desks : List DeskShown) where
  -- the desks of a new board are desks of it
  pub new_desks : (n : ℕ) → desks ≡ map (new_desk board) (range_with_len 0 n) → All (IsDeskOf board) desks
  new_desks n new =
      All-same (IsDeskOf board) desks (map (new_desk board) (range_with_len 0 n)) new (All-map (IsDeskOf board)
      (new_desk board) (range_with_len 0 n) (λ k d lt. new_desk-of_board board (get_or (range_with_len 0 n) k d)))

  -- the desks of the operator and of two connectors
  module _ (operator first second : DeskShown) (are : desks ≡ operator ∷ first ∷ second ∷ []) where
    pub three_desks : IsDeskOf board operator → IsDeskOf board first → IsDeskOf board second
        → All (IsDeskOf board) desks
    three_desks of_operator of_first of_second = All-same (IsDeskOf board) desks (operator ∷ first ∷ second ∷ [])
        are (All-cons (IsDeskOf board) operator (first ∷ second ∷ []) of_operator (All-cons (IsDeskOf board)
        first (second ∷ []) of_first (All-cons (IsDeskOf board) second [] of_second (All-nil (IsDeskOf board)))))

    pub three_owners : owner_of operator ≡ 0 → owner_of first ≡ 1 → owner_of second ≡ 2 → board.callers ≡ 2
        → map owner_of desks ≡ range_with_len 0 (board.callers + 1)
    three_owners zero one two callers =
        let listed : map owner_of (operator ∷ first ∷ second ∷ []) ≡ range_with_len 0 (2 + 1) =
        λ i. zero i ∷ one i ∷ two i ∷ [] in
        ap (map owner_of) are ∙ listed ∙ sym (ap (λ n. range_with_len 0 (n + 1)) callers)
