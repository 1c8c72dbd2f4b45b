-- What the closed board says of the reader's last test.
use Rattle.std.proofs.Common.{◌≡◌, ◌<◌, ◌≤◌, ◌++◌, List, [], ◌∷◌, length, map, Some, slice_get, get_or, sym, ap, subst, ◌∙◌, arith}
use Rattle.std.specs.Prelude.{All}
use Rattle.std.specs.Option.{option_map}
use Rattle.std.proofs.Math.Seq.{get_or-append_seam}
use Rattle.std.proofs.lemmas.List.{length-append}
use Rattle.std.proofs.lemmas.Option.{slice_get_within, slice_get-get_or, slice_get-map}
use Rattle.plex_board.specs.CfTypes.declared.forms.StrForm.{StrForm}
use Rattle.plex_board.specs.PlexScript.declared.{asks.AnyHistory.AnyHistory, scripts.Script.Script}
use Rattle.plex_board.specs.Boards.{BoardShown, IsDeskOf, IsAccount, AreClosed}
use Rattle.plex_board.specs.Desks.{DeskShown, pass_at}
use Rattle.plex_board.specs.{Passes.reply_numbered, Cells.CellShown, Cells.IsAnyTold, Cells.own_replies}
use Rattle.plex_board.proofs.DeskLaws.{desk-pass_owner}
use Rattle.two_members.specs.Members.{HasPool, HasRead, HasTested, IsOutcome, gbp, reader, sight_of}
use Rattle.two_members.specs.declared.seen.Seen.{Seen}

-- what holds of each holds of the last
all_last : {A : Type 0} (P : A → Type 0) (front all : List A) (x : A) → all ≡ front ++ x ∷ [] → All P all → P x
all_last P front all x are each =
    let below : length front < length all = omega (arith, ap length are, length-append front (x ∷ [])) in
    subst P (ap (λ l. get_or l (length front) x) are ∙ get_or-append_seam front x [] x) (each (length front) x below)

module _ {L : Type 0} (board : BoardShown L) (script : Script) (histories : List AnyHistory)
    (left desks : List DeskShown) (b : DeskShown) (seen : Seen) where
  -- the history of the structure is legal, and tells what the reply and the last test at the reader's desk told
  pub outcome : HasPool board → map (λ cell. cell.form) board.cells ≡ script.structures
      → AreClosed board desks histories → desks ≡ left ++ b ∷ [] → IsDeskOf board b → b.owner ≡ reader
      → HasRead b seen.no seen.reply → seen.no ≤ seen.sure → HasTested b seen.tested seen.sure
      → IsOutcome script histories seen
  outcome pool forms closed last of_board owner read answered has =
      let entries : AnyHistory = get_or histories 0 (AnyHistory.Cache []) in
      let some : 0 < length board.cells = slice_get_within board.cells 0 pool.cell pool.there in
      let first : slice_get histories 0 ≡ Some entries =
      slice_get-get_or histories 0 (AnyHistory.Cache []) (omega (arith, some, closed.structures)) in
      let says = closed.closed gbp pool.cell entries pool.there first in
      let account : IsAccount pool.cell entries (pass_at b gbp) =
      all_last (λ desk. IsAccount pool.cell entries (pass_at desk gbp)) left desks b last says.1 in
      let whose : (pass_at b gbp).owner ≡ reader = desk-pass_owner board b gbp pool.cell of_board pool.there ∙ owner in
      record {
        form = pool.cell.form;
        entries = entries;
        form_is = ap (λ (forms : List StrForm). slice_get forms 0) (sym forms)
            ∙ slice_get-map (λ (cell : CellShown L). cell.form) board.cells 0
            ∙ ap (option_map (λ (cell : CellShown L). cell.form)) pool.there;
        history_is = first;
        legal = says.0.legal;
        read = read ∙ ap (reply_numbered seen.no) (account.replies ∙ ap (own_replies entries) whose);
        answered = answered;
        told = subst (λ owner. IsAnyTold pool.cell.form entries owner (sight_of seen.tested seen.sure)) whose
            (all_last (IsAnyTold pool.cell.form entries (pass_at b gbp).owner) has.before (pass_at b gbp).tests
            (sight_of seen.tested seen.sure) has.tests account.tests);
      }
