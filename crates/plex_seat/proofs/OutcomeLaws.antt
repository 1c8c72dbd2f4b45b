-- What the closed structures say of an answer.
use Rattle.plex_seat.proofs.Imports.{◌≡◌, ℕ, ◌<◌, ◌≤◌, ◌⊎◌, inl, inr, None, ◌++◌, List, [], ◌∷◌, length, map, Some, slice_get, get_or, sym, ap, subst, ◌∙◌, arith, option_map, All-pop, slice_get_cases, slice_get_within, slice_get-get_or, slice_get-map, StrForm, ConnId, StrNo, AnyHistory, Script, reply_numbered, CellShown, own_replies, DeskShown, pass_at, BoardShown, IsDeskOf, IsAccount, AreClosed, desk-pass_owner, Answer, SeatShown, IsSame, HasHeard, IsAnswerOf}

-- what stands at a place
pub there_is : {A : Type 0} (xs : List A) (i : ℕ) → i < length xs → (x : A) × (slice_get xs i ≡ Some x)
there_is {A} xs i below = go (slice_get_cases xs i).1 where
  go : ((x : A) × (i < length xs) × (slice_get xs i ≡ Some x) × (get_or xs i x ≡ x))
      ⊎ ((length xs ≤ i) × (slice_get xs i ≡ None)) → (x : A) × (slice_get xs i ≡ Some x)
  go (inl found) = (found.0, found.2)
  go (inr past) = absurd (omega (arith, below, past.0))

module _ {L : Type 0} (board : BoardShown L) (script : Script) (histories : List AnyHistory) (on : StrNo)
    (forms : map (λ cell. cell.form) board.cells ≡ script.structures) (left desks : List DeskShown) (last : DeskShown)
    (closed : AreClosed board desks histories) (are : desks ≡ left ++ last ∷ []) (of_board : IsDeskOf board last)
    (answer : Answer) (heard : HasHeard (record { board = board; desk = last; on = on }) answer) where
  -- the history of the structure is legal, and has the answer that was told at the last of the desks
  of_cell : (cell : CellShown L) → slice_get board.cells on.0 ≡ Some cell
      → IsAnswerOf script histories on last.owner answer
  of_cell cell there =
      let entries : AnyHistory = get_or histories on.0 (AnyHistory.Lock []) in
      let some : on.0 < length board.cells = slice_get_within board.cells on.0 cell there in
      let first : slice_get histories on.0 ≡ Some entries =
      slice_get-get_or histories on.0 (AnyHistory.Lock []) (omega (arith, some, closed.structures)) in
      let says = closed.closed on cell entries there first in
      let account : IsAccount cell entries (pass_at last on) =
      (All-pop (λ desk. IsAccount cell entries (pass_at desk on)) desks left (Some last) are says.1).1 in
      let whose : (pass_at last on).owner ≡ last.owner = desk-pass_owner board last on cell of_board there in
      record {
        form = cell.form;
        entries = entries;
        form_is = ap (λ (forms : List StrForm). slice_get forms on.0) (sym forms)
            ∙ slice_get-map (λ (cell : CellShown L). cell.form) board.cells on.0
            ∙ ap (option_map (λ (cell : CellShown L). cell.form)) there;
        history_is = first;
        legal = says.0.legal;
        reply = heard ∙ ap (reply_numbered answer.no) (account.replies ∙ ap (own_replies entries) whose);
      }

  pub answer_of : on.0 < length board.cells → IsAnswerOf script histories on last.owner answer
  answer_of there = let found = there_is board.cells on.0 there in of_cell found.0 found.1

-- the same of a seat from which the member has left last
module _ {L : Type 0} (board : BoardShown L) (script : Script) (histories : List AnyHistory) (on : StrNo)
    (caller : ConnId) (before after : SeatShown L) (answer : Answer) where
  pub seat_answer : before.board ≡ board → before.on ≡ on → before.desk.owner ≡ caller → IsSame before after
      → map (λ cell. cell.form) board.cells ≡ script.structures → (left desks : List DeskShown)
      → AreClosed board desks histories → desks ≡ left ++ after.desk ∷ [] → IsDeskOf after.board after.desk
      → HasHeard after answer → on.0 < length board.cells → IsAnswerOf script histories on caller answer
  seat_answer at_board at_on of_caller same forms left desks closed are own heard there = rw (same.owner ∙ of_caller)
      at (answer_of board script histories on forms left desks after.desk closed are (subst
      (λ (b : BoardShown L). IsDeskOf b after.desk) (same.board ∙ at_board) own) answer (subst (λ (o : StrNo). Some
      answer.reply ≡ reply_numbered answer.no (pass_at after.desk o).replies) (same.on ∙ at_on) heard) there)
