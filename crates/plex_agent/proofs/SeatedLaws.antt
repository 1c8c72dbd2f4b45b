-- The callers of a board, each at its own desk: as they begin, as one of them changes, and the desks that they leave.
use Rattle.plex_agent.proofs.Imports.{◌≡◌, ℕ, zero, suc, ◌+◌, ◌<◌, ◌⊎◌, inl, inr, ◌≤◌, List, [], ◌∷◌, length, map, Some, slice_get, get_or, set, refl, sym, ◌∙◌, ap, arith, range_with_len, All-map, All-same, length-map-range_with_len, get_or-map-range_with_len, slice_get_within, slice_get-get_or, get_or_from_slice_get, map-map, ConnId, DeskShown, BoardShown, IsDeskOf, new_desk, AtWork, no_worker, new_desk-of_board, AreCallersOf, AreDesksOf, idle_worker, crew_of}
use Rattle.std.proofs.Math.ListN.{length-set}

abbrev pub desk_of : AtWork → DeskShown
desk_of worker = worker.desk

abbrev pub owner_of : DeskShown → ℕ
owner_of desk = desk.owner.0

-- what stands in a list of which one element was replaced: that element, or what stood there
pub slice_get-set : {X : Type 0} (xs : List X) (i j : ℕ) (y z : X) → slice_get (set xs i y) j ≡ Some z
    → ((j ≡ i) × (z ≡ y)) ⊎ (slice_get xs j ≡ Some z)
slice_get-set [] i j y z at = inr at
slice_get-set (x ∷ xs) zero zero y z at = inl (refl, cc)
slice_get-set (x ∷ xs) zero (suc j) y z at = inr at
slice_get-set (x ∷ xs) (suc i) zero y z at = inr at
slice_get-set (x ∷ xs) (suc i) (suc j) y z at =
    elim (slice_get-set xs i j y z at) [ inl both ↦ inl (ap suc both.0, both.1) | inr there ↦ inr there ]

owners_from : (first n : ℕ) (workers : List AtWork) → length workers ≡ n
    → ((c : ℕ) (worker : AtWork) → slice_get workers c ≡ Some worker → worker.desk.owner.0 ≡ first + c)
    → map owner_of (map desk_of workers) ≡ range_with_len first n
owners_from first zero [] long own = refl
owners_from first zero (worker ∷ workers) long own = absurd (omega (arith, long))
owners_from first (suc n) [] long own = absurd (omega (arith, long))
owners_from first (suc n) (worker ∷ workers) long own =
    let here : worker.desk.owner.0 ≡ first = omega (arith, own 0 worker refl) in
    let rest =
    owners_from (first + 1) n workers (omega (arith, long)) (λ c some there. omega (arith, own (suc c) some there)) in
    ap (λ owner. owner ∷ map owner_of (map desk_of workers)) here ∙ ap (λ owners. first ∷ owners) rest

module _ {L : Type 0} (board : BoardShown L) (workers : List AtWork) (are : AreCallersOf board workers) where
  -- a caller is at its own desk
  pub own_desk : (by : ConnId) → by.0 ≤ board.callers
      → IsDeskOf board (get_or workers by.0 no_worker).desk × ((get_or workers by.0 no_worker).desk.owner ≡ by)
  own_desk by within =
      let counted = are.callers in
      let inside : by.0 < length workers = omega arith in
      let own = are.each by.0 (get_or workers by.0 no_worker) (slice_get-get_or workers by.0 no_worker inside) in
      (own.0, ap (λ n. (let it : ConnId = record { 0 = n } in it)) own.1)

  -- one of them changed, and is at its own desk still
  pub callers-set : (by : ConnId) (worker : AtWork) → IsDeskOf board worker.desk → worker.desk.owner ≡ by
      → AreCallersOf board (set workers by.0 worker)
  callers-set by worker fits own = record {
    callers = length-set workers by.0 worker ∙ are.callers;
    each = λ c some at. elim (slice_get-set workers by.0 c worker some at) [
      | inl both ↦ (grind arith)
      | inr there ↦ are.each c some there
    ];
  }

  -- the desks that they leave
  pub callers-desks : (desks : List DeskShown) → desks ≡ map (λ worker. worker.desk) workers → AreDesksOf board desks
  callers-desks desks theirs = record {
    fit = All-same (IsDeskOf board) desks (map desk_of workers) theirs (All-map (IsDeskOf board)
        desk_of workers (λ k d lt. (are.each k (get_or workers k d) (slice_get-get_or workers k d lt)).0));
    owners = ap (map owner_of) theirs ∙ owners_from 0 (board.callers + 1)
        workers are.callers (λ c worker there. omega (arith, (are.each c worker there).1));
  }

-- ---- as the board begins

module _ {L : Type 0} (board : BoardShown L) where
  length-crew_of : length (crew_of board) ≡ board.callers + 1
  length-crew_of = length-map-range_with_len (λ owner. idle_worker (new_desk board owner)) 0 (board.callers + 1)

  pub crew_at : (c : ℕ) (worker : AtWork) → slice_get (crew_of board) c ≡ Some worker
      → worker ≡ idle_worker (new_desk board c)
  crew_at c worker there = sym (get_or_from_slice_get (crew_of board) c worker worker there)
      ∙ get_or-map-range_with_len (λ owner. idle_worker (new_desk board owner)) 0 (board.callers + 1)
      c c worker (omega (arith, slice_get_within (crew_of board) c worker there, length-crew_of)) (omega arith)

  pub new_callers : AreCallersOf board (crew_of board)
  new_callers = grind (arith, length-crew_of, crew_at, new_desk-of_board)

  module _ (desks : List DeskShown) (new : desks ≡ map (new_desk board) (range_with_len 0 (board.callers + 1))) where
    -- the callers that come to new desks
    pub new_crew : (workers : List AtWork) → workers ≡ map idle_worker desks → workers ≡ crew_of board
    new_crew workers idlers = grind (arith, map-map)

    -- the desks of a board where nobody has done anything
    pub new_desks-are : (back : List DeskShown) → back ≡ desks → AreDesksOf board back
    new_desks-are back same = callers-desks board (crew_of board) new_callers back (same ∙ new
        ∙ sym (map-map desk_of (λ owner. idle_worker (new_desk board owner)) (range_with_len 0 (board.callers + 1))))
