-- The desks of a board as it begins, and desks that are one for each caller.
use Rattle.plex_seat.proofs.Imports.{◌≡◌, ℕ, ◌<◌, ◌+◌, ◌-◌, ◌==◌, ◌↔◌, suc, true, List, ◌∷◌, length, map, get_or, drop, sym, ap, ◌∙◌, arith, IsTrue, All, range_with_len, nat_tests, eq-eqb, length-map, get_or-map, drop_more, drop_all, length-range_with_len, length-map-range_with_len, get_or-range_with_len, All-map, All-same, DeskShown, BoardShown, IsDeskOf, new_desk, new_desk-of_board}

module _ {L : Type 0} (board : BoardShown L) (desks : List DeskShown) (n : ℕ)
    (new : desks ≡ map (new_desk board) (range_with_len 0 n)) where
  pub new-of_board : All (IsDeskOf board) desks
  new-of_board =
      All-same (IsDeskOf board) desks (map (new_desk board) (range_with_len 0 n)) new (All-map (IsDeskOf board)
      (new_desk board) (range_with_len 0 n) (λ k d lt. new_desk-of_board board (get_or (range_with_len 0 n) k d)))

  pub new-length : length desks ≡ n
  new-length = ap length new ∙ length-map-range_with_len (new_desk board) 0 n

abbrev pub owner_of : DeskShown → ℕ
owner_of desk = desk.owner.0

-- the desks from this place on are those of the callers from its number on
abbrev pub AreFrom : ℕ → List DeskShown → Type 0
AreFrom i desks = map owner_of (drop i desks) ≡ range_with_len i (length desks - i)

pub from_next : (desks : List DeskShown) (i : ℕ) (d : DeskShown) → i < length desks → get_or desks i d ≡ d
    → owner_of d ≡ i → AreFrom (i + 1) desks → AreFrom i desks
from_next desks i d below there own rest =
    let left : length desks - i ≡ suc (length desks - (i + 1)) = omega (arith, below) in
    ap (map owner_of) (drop_more desks i d below) ∙ ap (λ n. n ∷ map owner_of (drop (i + 1) desks))
    (ap owner_of there ∙ own) ∙ ap (λ l. i ∷ l) rest ∙ sym (ap (range_with_len i) left)

-- behind the last desk nothing is left, so they are all the callers'
all_of : (desks : List DeskShown) (next i count : ℕ) → next ≡ i → i ≡ length desks
    → (AreFrom i desks → AreFrom 0 desks) → (next == count) ≡ true → map owner_of desks ≡ range_with_len 0 count
all_of desks next i count at end all counted =
    let none : length desks - i ≡ 0 = omega (arith, end) in
    let whole : length desks - 0 ≡ count = grind (arith, nat_tests) in
    all (ap (map owner_of) (drop_all i desks (omega (arith, end))) ∙ sym (ap (range_with_len i) none))
    ∙ ap (range_with_len 0) whole

-- where they are all the callers', none is left out, and each has the number of its place
pub counted : (desks : List DeskShown) (count : ℕ) → map owner_of desks ≡ range_with_len 0 count
    → length desks ≡ count
counted desks count all = sym (length-map desks owner_of) ∙ ap length all ∙ length-range_with_len 0 count

pub owner_at : (desks : List DeskShown) (i count : ℕ) (d : DeskShown) → i < length desks → get_or desks i d ≡ d
    → map owner_of desks ≡ range_with_len 0 count → owner_of d ≡ i
owner_at desks i count d below there all =
    let long : length desks ≡ count = counted desks count all in
    let place : owner_of d ≡ 0 + i = ap owner_of (sym there) ∙ sym (get_or-map owner_of desks i d 0 below)
    ∙ ap (λ l. get_or l i 0) all ∙ get_or-range_with_len 0 count i 0 (omega (arith, below, long)) in
    omega (arith, place)

-- so the count says whether they are all
pub all_exactly : (desks : List DeskShown) (next i count : ℕ) → next ≡ i → i ≡ length desks
    → (AreFrom i desks → AreFrom 0 desks) → IsTrue (next == count) ↔ (map owner_of desks ≡ range_with_len 0 count)
all_exactly desks next i count at end all =
    (all_of desks next i count at end all, λ are. eq-eqb next count (at ∙ end ∙ counted desks count are))
