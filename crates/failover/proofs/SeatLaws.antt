-- The desks of the operator and of the members: as the board begins, and once one of them was used.
use Rattle.std.proofs.Common.{◌≡◌, ℕ, ◌+◌, ◌<◌, ◌≤◌, List, [], ◌∷◌, length, map, ◌++◌, set, get_or, get_or-set_same, Some, sym, ap, subst, ◌∙◌, arith, refl}
use Rattle.std.specs.Prelude.{IfSome, slice_get}
use Rattle.std.specs.List.{range_with_len}
use Rattle.std.proofs.Math.Seq.{map-set_same}
use Rattle.std.proofs.lemmas.List.{length-map, length-set}
use Rattle.std.proofs.lemmas.Option.{slice_get_within, slice_get_read}
use Rattle.std.proofs.lemmas.List.FromFn.{length-range_with_len, length-map-range_with_len, get_or-range_with_len}
use Rattle.std.proofs.lemmas.List.{get_or-map}
use Rattle.std.proofs.lemmas.List.Elements.{All-nil, All-cons, All-same, All-set}
use Rattle.plex_board.specs.CfTypes.declared.{forms.Kind.Kind, numbers.ConnId.ConnId}
use Rattle.plex_board.specs.PlexScript.declared.scripts.Script.{Script}
use Rattle.plex_board.specs.Boards.{BoardShown, IsPolicy, IsDeskOf, cell_on, new_desk}
use Rattle.plex_board.proofs.PlexScript.FormedLines.{script-formed}
use Rattle.plex_board.specs.VecWords.declared.logged.Tested.{Tested}
use Rattle.plex_board.specs.Desks.{DeskShown, pass_at, with_pass}
use Rattle.plex_board.specs.{PlexScript.Scripts.IsScript, Types.type_of_kind, Passes.PassShown, Cells.CellShown}
use Rattle.plex_board.proofs.DeskLaws.{new_desk-of_board, desk-length, pass_at-with_pass_same}
use Rattle.failover.specs.Members.{HasPool, AreSeated, HasTested, gbp, owner_of, sight_of}

-- what a text says states a policy
pub policy_of : (text : List ℕ) (script : Script) → IsScript text script → IsPolicy script
policy_of text script says =
    let formed = script-formed text script says in
    record { structures = formed.structures; connectors = formed.connectors; forms = formed.forms }

module _ {L : Type 0} (board : BoardShown L) where
  -- three desks of a board that begins are those of the operator and of two members
  pub seated : (desks : List DeskShown) (callers : ℕ) → HasPool board → board.callers ≡ callers
      → desks ≡ map (new_desk board) (range_with_len 0 (callers + 1)) → length desks ≡ 3 → AreSeated board desks
  seated desks callers pool counted new three =
      let two : callers ≡ 2 =
      omega (arith, three, ap length new, length-map-range_with_len (new_desk board) 0 (callers + 1)) in
      let are : desks ≡ new_desk board 0 ∷ new_desk board 1 ∷ new_desk board 2 ∷ [] =
      new ∙ ap (λ n. map (new_desk board) (range_with_len 0 (n + 1))) two in
      record {
        pool = pool;
        two = counted ∙ two;
        of_board = All-same (IsDeskOf board) desks (new_desk board 0 ∷ new_desk board 1 ∷ new_desk board 2 ∷ []) are
            (All-cons (IsDeskOf board) (new_desk board 0) (new_desk board 1 ∷ new_desk board 2 ∷ [])
            (new_desk-of_board board 0)
            (All-cons (IsDeskOf board) (new_desk board 1) (new_desk board 2 ∷ []) (new_desk-of_board board 1)
            (All-cons (IsDeskOf board) (new_desk board 2) [] (new_desk-of_board board 2) (All-nil (IsDeskOf board)))));
        owners = ap (map owner_of) are ∙ ap (λ n. range_with_len 0 (n + 1)) (sym (counted ∙ two));
      }

  module _ (desks : List DeskShown) (are : AreSeated board desks) where
    -- there are three
    pub seats : length desks ≡ 3
    seats =
        let two = are.two in
        sym (length-map desks owner_of) ∙ ap length are.owners ∙ length-range_with_len 0 (board.callers + 1)
        ∙ (let same : board.callers + 1 ≡ 3 = omega (arith, two) in same)

    pub seat_within : (who : ℕ) → who ≤ 2 → who < length desks
    seat_within who low = let three = seats in omega (arith, three, low)

    -- each is of the board, and its owner's
    pub seat_of_board : (who : ℕ) (desk : DeskShown) → who ≤ 2 → desk ≡ get_or desks who desk → IsDeskOf board desk
    seat_of_board who desk low is = subst (IsDeskOf board) (sym is) (are.of_board who desk (seat_within who low))

    pub seat_owner : (who : ℕ) (desk : DeskShown) → who ≤ 2 → desk ≡ get_or desks who desk → desk.owner.0 ≡ who
    seat_owner who desk low is =
        let two = are.two in
        let below : who < board.callers + 1 = omega (arith, two, low) in
        ap owner_of is ∙ sym (get_or-map owner_of desks who desk 0 (seat_within who low))
        ∙ ap (λ (owners : List ℕ). get_or owners who 0) are.owners
        ∙ get_or-range_with_len 0 (board.callers + 1) who 0 below ∙ (let same : 0 + who ≡ who = omega arith in same)

    pub seat_is : (who : ConnId) (at : ℕ) (desk : DeskShown) → who.0 ≤ 2 → at ≡ who.0 → desk ≡ get_or desks at desk
        → desk.owner ≡ who
    seat_is who at desk low same is = ap (λ (n : ℕ). (let c : ConnId = record { 0 = n } in c))
        (seat_owner at desk (omega (arith, same, low)) is ∙ same)

    -- one of them was used
    pub still_seated : (who : ℕ) (before after : DeskShown) → before ≡ get_or desks who before
        → after.owner ≡ before.owner → IsDeskOf board after → AreSeated board (set desks who after)
    still_seated who before after is same of = record {
      pool = are.pool;
      two = are.two;
      of_board = All-set (IsDeskOf board) desks who after of are.of_board;
      owners = map-set_same owner_of desks who after before (ap (λ o. o.0) same ∙ ap owner_of is) ∙ are.owners;
    }

-- a structure that is there, a cache with vectors of some length
module _ {L : Type 0} (board : BoardShown L) where
  pub pool_there : (form : Kind) (vector : ℕ) → 0 < length board.cells
      → IfSome (cell_on board gbp) (λ cell. cell.str_type ≡ type_of_kind form) → form ≡ Kind.Cache
      → IfSome (cell_on board gbp) (λ cell. cell.words.len ≡ vector) → 0 < vector → HasPool board
  pool_there form vector some kinds is lens long = go board.cells refl some kinds lens
    where
      go : (cells : List (CellShown L)) → board.cells ≡ cells → 0 < length cells
          → IfSome (slice_get cells 0) (λ cell. cell.str_type ≡ type_of_kind form)
          → IfSome (slice_get cells 0) (λ cell. cell.words.len ≡ vector) → HasPool board
      go [] same some kinds lens = absurd (omega (arith, some))
      go (cell ∷ cells) same some kinds lens = record {
        cell = cell;
        there = ap (λ (l : List (CellShown L)). slice_get l 0) same;
        cache = kinds ∙ ap type_of_kind is;
        vector = omega (arith, lens, long);
      }

-- a test at the second member's desk
module _ {L : Type 0} (board : BoardShown L) (desks : List DeskShown) (are : AreSeated board desks) where
  pub has_tested : (at : ℕ) (old new : DeskShown) (tested : Tested) → at ≡ 2 → old ≡ get_or desks at old
      → new ≡ (let pass = pass_at old gbp in with_pass gbp (record pass {
        known = tested.at;
        tests = pass.tests ++ sight_of tested pass.sure ∷ [];
      }) old) → HasTested (set desks at new) tested
  has_tested at old new tested two is made =
      let of : IsDeskOf board old = seat_of_board board desks are at old (omega (arith, two)) is in
      let below : 2 < length desks = seat_within board desks are 2 (omega arith) in
      let some : 0 < length board.cells = slice_get_within board.cells 0 are.pool.cell are.pool.there in
      let many : gbp.0 < length old.passes = omega (arith, some, desk-length board old of) in
      let pass : PassShown = record (pass_at old gbp) {
        known = tested.at;
        tests = (pass_at old gbp).tests ++ sight_of tested (pass_at old gbp).sure ∷ [];
      } in
      let within : 2 < length (set desks 2 new) = omega (arith, below, length-set desks 2 new) in
      record {
        desk = new;
        sure = (pass_at old gbp).sure;
        before = (pass_at old gbp).tests;
        there = subst (λ (k : ℕ). slice_get (set desks k new) 2 ≡ Some new) (sym two)
            (slice_get_read (set desks 2 new) (length (set desks 2 new)) 2 new refl within
            (sym (get_or-set_same desks 2 new new below)));
        tests = ap (λ (d : DeskShown). (pass_at d gbp).tests) made
            ∙ ap (λ (p : PassShown). p.tests) (pass_at-with_pass_same old gbp pass many);
      }
