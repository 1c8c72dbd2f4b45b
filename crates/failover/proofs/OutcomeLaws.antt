-- What the closed board says of the structure, of its links, and of the reader's last test.
use Rattle.std.proofs.Common.{◌≡◌, ℕ, ◌+◌, ◌<◌, ◌++◌, List, [], ◌∷◌, length, map, Some, slice_get, get_or, sym, ap, subst, ◌∙◌, arith}
use Rattle.std.specs.Prelude.{Bool, Option}
use Rattle.std.specs.Option.{option_map, unwrap_or}
use Rattle.std.specs.List.{flat_map, range_with_len}
use Rattle.std.proofs.lemmas.List.Elements.{All-pop}
use Rattle.std.proofs.lemmas.Option.{slice_get_within, slice_get-get_or, slice_get-map, get_or_from_slice_get}
use Rattle.plex_board.specs.CfLink.declared.{links.Links.Links, list_link.ListLink.ListLink}
use Rattle.plex_board.specs.Boards.{BoardShown, IsAccount, AreClosed, AreEachAsked, AreLinksAsked, links_of, four_of, new_desk}
use Rattle.plex_board.proofs.{CfLink.LinkLaws.asked_calls, CfLink.LinkLaws.asked_told, DeskLaws.desk-pass_owner}
use Rattle.plex_board.specs.CfTypes.declared.{forms.StrForm.StrForm, numbers.ConnId.ConnId}
use Rattle.plex_board.specs.PlexScript.declared.{asks.AnyHistory.AnyHistory, scripts.Script.Script}
use Rattle.plex_board.specs.VecWords.declared.logged.Tested.{Tested}
use Rattle.plex_board.specs.CfLink.Links.{AreAsked, IsAskedAll, IsAsTold, calls_after}
use Rattle.plex_board.specs.{AnyCalls.any_answers, Cells.CellShown, Cells.IsAnyTold, Desks.DeskShown, Desks.pass_at}
use Rattle.failover.specs.Failing.{AreDownOnce, IsDownAt}
use Rattle.failover.specs.Members.{HasPool, AreSeated, HasTested, gbp, sight_of}
use Rattle.failover.specs.Outcome.{IsOpened, IsOutcome, WasAsked, reader, cf1, cf2, down_once}
use Rattle.failover.proofs.SeatLaws.{seat_owner, seat_of_board, seated}

-- what a listed link tells
abbrev calls_of : ListLink → Option ℕ
calls_of link = Some link.calls

abbrev downs_of : ListLink → Option (List ℕ)
downs_of link = Some link.fails.items

abbrev faults_of : ListLink → ℕ
faults_of link = link.faults

-- ---- one link

-- a link that is down once was down where the answers say so
told_once : (call : ℕ) (answers : List Bool) (old new : ListLink) → IsDownAt call old
    → IsAskedAll calls_of downs_of faults_of answers old new → IsAsTold (down_once call) answers
told_once call answers old new down asked = asked_told calls_of downs_of faults_of (down_once call)
    answers old new tt (record { calls_are = sym down.unasked; downs_are = ap Some down.down }) asked

-- and it was asked as often as there are answers
asked_once : (call : ℕ) (answers : List Bool) (old new : ListLink) → IsDownAt call old
    → IsAskedAll calls_of downs_of faults_of answers old new → new.calls ≡ calls_after answers 0
asked_once call answers old new down asked = ap (λ (o : Option ℕ). unwrap_or o 0)
    (asked_calls calls_of downs_of faults_of answers old new asked) ∙ ap (calls_after answers) down.unasked

-- ---- the links of the first structure

-- what is said of them
record AreTold (form : StrForm) (entries : AnyHistory) (links : List ListLink) : Type 0 where
  first_down : IsAsTold (down_once 3) (any_answers form entries cf1)
  second_down : IsAsTold (down_once 5) (any_answers form entries cf2)
  first_asked : WasAsked links 0 (calls_after (any_answers form entries cf1) 0)
  second_asked : WasAsked links 1 (calls_after (any_answers form entries cf2) 0)

four_told : (form : StrForm) (entries : AnyHistory) (old new : Links ListLink) (others links : List ListLink)
    → IsDownAt 3 old.one × IsDownAt 5 old.two → links ≡ four_of new ++ others
    → AreAsked calls_of downs_of faults_of (any_answers form entries) old new → AreTold form entries links
four_told form entries old new others links down are asked =
    let first : IsAskedAll calls_of downs_of faults_of (any_answers form entries cf1) old.one new.one =
    asked.asked cf1 (omega arith, omega arith) in
    let second : IsAskedAll calls_of downs_of faults_of (any_answers form entries cf2) old.two new.two =
    asked.asked cf2 (omega arith, omega arith) in
    record {
      first_down = told_once 3 (any_answers form entries cf1) old.one new.one down.0 first;
      second_down = told_once 5 (any_answers form entries cf2) old.two new.two down.1 second;
      first_asked = subst (λ (all : List ListLink). WasAsked all 0 (calls_after (any_answers form entries cf1) 0))
          (sym are) (asked_once 3 (any_answers form entries cf1) old.one new.one down.0 first);
      second_asked = subst (λ (all : List ListLink). WasAsked all 1 (calls_after (any_answers form entries cf2) 0))
          (sym are) (asked_once 5 (any_answers form entries cf2) old.two new.two down.1 second);
    }

first_told : (cells : List (CellShown ListLink)) (histories : List AnyHistory) (spare links : List ListLink)
    (cell : CellShown ListLink) (entries : AnyHistory) → slice_get cells 0 ≡ Some cell → slice_get
    histories 0 ≡ Some entries → AreDownOnce (flat_map (λ (c : CellShown ListLink). four_of c.links) cells ++ spare)
    → AreEachAsked calls_of downs_of faults_of cells histories spare links → AreTold cell.form entries links
first_told [] histories spare links cell entries there first down asked =
    let none : 0 < length {A = CellShown ListLink} [] = slice_get_within [] 0 cell there in absurd (omega (arith, none))
first_told (c ∷ cells) [] spare links cell entries there first down asked = absurd asked
first_told (c ∷ cells) (e ∷ histories) spare links cell entries there first down asked =
    let same : c ≡ cell = ap (λ (o : Option (CellShown ListLink)). unwrap_or o cell) there in
    let alike : e ≡ entries = ap (λ (o : Option AnyHistory). unwrap_or o entries) first in
    subst (λ (x : CellShown ListLink). AreTold x.form entries links) same (subst (λ (h : AnyHistory). AreTold c.form
    h links) alike (four_told c.form e c.links asked.0 asked.1 links down asked.2 asked.3))

-- ---- the whole

module _ (board : BoardShown ListLink) (script : Script) (histories : List AnyHistory) (desks : List DeskShown)
    (links : List ListLink) (tested : Tested) where
  pub outcome : map (λ (cell : CellShown ListLink). cell.form) board.cells ≡ script.structures → AreDownOnce
      (links_of board) → AreSeated board desks → AreClosed board desks histories → AreLinksAsked calls_of
      downs_of faults_of board histories links → HasTested desks tested → IsOutcome script histories links tested
  outcome forms down are closed asked has =
      let pool = are.pool in
      let entries : AnyHistory = get_or histories 0 (AnyHistory.Cache []) in
      let some : 0 < length board.cells = slice_get_within board.cells 0 pool.cell pool.there in
      let first : slice_get histories 0 ≡ Some entries =
      slice_get-get_or histories 0 (AnyHistory.Cache []) (omega (arith, some, closed.structures)) in
      let says = closed.closed gbp pool.cell entries pool.there first in
      let desk : DeskShown = has.desk in
      let here : desk ≡ get_or desks 2 desk = sym (get_or_from_slice_get desks 2 desk desk has.there) in
      let account : IsAccount pool.cell entries (pass_at desk gbp) = subst (λ (d : DeskShown). IsAccount pool.cell
      entries (pass_at d gbp)) (sym here) (says.1 2 desk (slice_get_within desks 2 desk has.there)) in
      let whose : (pass_at desk gbp).owner ≡ reader =
      desk-pass_owner board desk gbp pool.cell (seat_of_board board desks are 2 desk (omega arith) here) pool.there
      ∙ ap (λ (n : ℕ). let c : ConnId = record { 0 = n } in c) (seat_owner board desks are 2 desk (omega arith) here) in
      let told = first_told board.cells histories board.spare links pool.cell entries pool.there first down asked in
      record {
        form = pool.cell.form;
        entries = entries;
        sure = has.sure;
        form_is = ap (λ (all : List StrForm). slice_get all 0) (sym forms)
            ∙ slice_get-map (λ (cell : CellShown ListLink). cell.form) board.cells 0
            ∙ ap (option_map (λ (cell : CellShown ListLink). cell.form)) pool.there;
        history_is = first;
        legal = says.0.legal;
        first_down = told.first_down;
        second_down = told.second_down;
        first_asked = told.first_asked;
        second_asked = told.second_asked;
        told = subst (λ owner. IsAnyTold pool.cell.form entries owner (sight_of tested has.sure)) whose
            (All-pop (IsAnyTold pool.cell.form entries (pass_at desk gbp).owner) (pass_at desk gbp).tests has.before
            (Some (sight_of tested has.sure)) has.tests account.tests).1;
      }

-- ---- as the board begins

-- a board of a policy whose first structure is there, with three desks
pub opened : (board : BoardShown ListLink) (script : Script) (desks : List DeskShown) (links : List ListLink)
    (callers : ℕ) → map (λ (cell : CellShown ListLink). cell.form) board.cells ≡ script.structures
    → board.callers ≡ callers → links_of board ≡ links → AreDownOnce links → desks ≡ map (new_desk board)
    (range_with_len 0 (callers + 1)) → length desks ≡ 3 → HasPool board → IsOpened script board desks
opened board script desks links callers forms counted are down new three pool = record {
  forms = forms;
  down = subst AreDownOnce (sym are) down;
  seated = seated board desks callers pool counted new three;
}
