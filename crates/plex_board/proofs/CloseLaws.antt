-- What is known when a board is closed.
use Rattle.plex_board.proofs.Imports.{◌≡◌, ℕ, ◌+◌, List, length, map, arith, All, Option, range_with_len, length-map, length-range_with_len, AnyHistory, DeskShown, no_pass, BoardShown, IsDeskOf, AreClosed, AreEachAsked, AreLinksAsked, Rest, HomeShown, homes_shown, AllFit, homes_gathered, AreHomes, AreEmpty, AreEnded, IsReady}
use Rattle.plex_board.proofs.HomeLaws.{homes-gathered, accounts-at, count-of-homes, count-of-histories}

-- the board is as it was seen, and what was ready under its lock
module _ {L : Type 0} (board seen : BoardShown L) (rest key : Rest L) (same : seen ≡ board)
    (is : IsReady seen.cells seen.callers key) (kept : rest ≡ key) where
  module _ (desks : List DeskShown) (of : All (IsDeskOf board) desks)
      (owners : map (λ (desk : DeskShown). desk.owner.0) desks ≡ range_with_len 0 (board.callers + 1)) where
    roomy : AreHomes (length desks) board.cells (homes_shown rest.homes.items)
    roomy = grind (arith, length-map, length-range_with_len)

    pub close_fits : AllFit desks (homes_shown rest.homes.items)
    close_fits = (homes-gathered board.cells desks (homes_shown rest.homes.items) roomy of).0

    module _ (after : List HomeShown) (gathered : after ≡ homes_gathered desks (homes_shown rest.homes.items)) where
      pub close_homes : AreHomes 0 seen.cells after
      close_homes = grind (arith, homes-gathered, roomy)

      pub close_says : (histories : List AnyHistory) → AreEnded seen.cells after histories
          → AreClosed board desks histories
      close_says histories ended =
          let homes : List HomeShown = homes_shown rest.homes.items in
          let count : length homes ≡ length board.cells = count-of-homes (length desks) board.cells homes roomy in
          let empty : AreEmpty homes = grind arith in
          let ended' : AreEnded board.cells (homes_gathered desks homes) histories = grind arith in
          record {
            structures = count-of-histories board.cells (homes_gathered desks homes) histories ended';
            closed = λ on cell entries at its. accounts-at
                board.cells desks homes histories on.0 cell entries no_pass count empty of ended' at its;
          }

  pub close_links : (asks : L → Option ℕ) (downs : L → Option (List ℕ)) (faults : L → ℕ) (histories : List AnyHistory)
      (links : List L) → seen.spare ≡ key.spare.items → AreEachAsked asks downs faults
      seen.cells histories rest.spare.items links → AreLinksAsked asks downs faults board histories links
  close_links asks downs faults histories links spare are = grind arith
