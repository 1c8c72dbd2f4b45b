-- What is known where a call of a board is a call of one of its stations, with one of a desk's places.
use Rattle.plex_board.proofs.Imports.{◌≡◌, ◌≢◌, ℕ, ◌<◌, ◌≤◌, length, get_or, set, refl, sym, ap, subst, arith, get_or-set_same, Some, None, Ok, Err, Option, Result, slice_get, IfOk, IfErr, IfSome, map-set_same, set-get_or, slice_get_read, get_or_from_slice_get, StrNo, Told, AnyAsk, CallRefused, PassShown, NoteShown, IsAnswered, IsLater, with_any_note, CellShown, IsPassOf, DeskShown, IsAnsweredOn, fixed_of, no_pass, pass_at, BoardShown, cell_on, IsDeskOf, want}
use Rattle.plex_board.proofs.DeskLaws.{desk-length, desk-pass_is, desk-pass_owner}

-- the station's cell and the place's pass are those on a structure
pub record IsPlace {L : Type 0} (board : BoardShown L) (desk : DeskShown) (on : StrNo) (station : CellShown L)
    (place : PassShown) : Type 0 where
  pub cell_is : cell_on board on ≡ Some station
  pub pass_is : pass_at desk on ≡ place
  pub of_cell : IsPassOf station place
  pub owner_is : place.owner ≡ desk.owner

module _ {L : Type 0} where
  pub cell-is : (board seen : BoardShown L) (on : StrNo) (k : ℕ) (station : CellShown L) → board ≡ seen
      → on.0 < length board.cells → k ≡ on.0 → station ≡ get_or seen.cells k station → cell_on board on ≡ Some station
  cell-is board seen on k station same below at is = grind (arith, slice_get_read)

  module _ {board seen : BoardShown L} {desk has : DeskShown} (on : StrNo) {k j : ℕ} {station : CellShown L}
      {place : PassShown} (same : seen ≡ board) (same' : has ≡ desk) (of : IsDeskOf board desk)
      (below : on.0 < length board.cells) (at : k ≡ on.0) (at' : j ≡ on.0) (is : station ≡ get_or seen.cells k station)
      (is' : place ≡ get_or has.passes j place) where
    pub place-is : IsPlace board desk on station place
    place-is =
        let cell : cell_on board on ≡ Some station = cell-is board seen on k station (sym same) below at is in
        let here : place ≡ get_or desk.passes on.0 place = grind arith in
        let lower : on.0 < length desk.passes = omega (arith, desk-length board desk of, below) in
        let there : slice_get desk.passes on.0 ≡ Some place =
        slice_get_read desk.passes (length desk.passes) on.0 place refl lower here in
        let pass : pass_at desk on ≡ place = get_or_from_slice_get desk.passes on.0 place no_pass there in
        record {
          cell_is = cell;
          pass_is = pass;
          of_cell = subst (IsPassOf station) pass (desk-pass_is board desk on station of cell);
          owner_is =
              subst (λ (p : PassShown). p.owner ≡ desk.owner) pass (desk-pass_owner board desk on station of cell);
        }

  -- what is known of the cell is known on the structure
  pub some-cell : (P : CellShown L → Type 0) (board : BoardShown L) (on : StrNo) (station : CellShown L)
      → cell_on board on ≡ Some station → P station → IfSome (cell_on board on) P
  some-cell P board on station is p = subst (λ (o : Option (CellShown L)). IfSome o P) (sym is) p

  pub cell-some : (P : CellShown L → Type 0) (board : BoardShown L) (on : StrNo) (station : CellShown L)
      → cell_on board on ≡ Some station → IfSome (cell_on board on) P → P station
  cell-some P board on station is p = subst (λ (o : Option (CellShown L)). IfSome o P) is p

  -- the desk stays the board's where the place keeps what is fixed
  pub changed-of_board : (board : BoardShown L) (desk has : DeskShown) (j : ℕ) (place after : PassShown)
      → desk ≡ has → IsDeskOf board desk → place ≡ get_or has.passes j place → fixed_of after ≡ fixed_of place
      → IsDeskOf board (record { owner = has.owner; passes = set has.passes j after })
  changed-of_board board desk has j place after same of is fixed = grind (arith, map-set_same)

  -- the pass that stands there afterwards
  pub changed-at : (board : BoardShown L) (desk has : DeskShown) (on : StrNo) (j : ℕ) (after : PassShown)
      → desk ≡ has → IsDeskOf board desk → on.0 < length board.cells → j ≡ on.0
      → pass_at (record { owner = has.owner; passes = set has.passes j after }) on ≡ after
  changed-at board desk has on j after same of below at = grind (arith, desk-length, get_or-set_same)

  -- why a call isn't made, as the board tells it
  pub full-on : (board : BoardShown L) (on : StrNo) (station : CellShown L) (after : DeskShown) (place : PassShown)
      (answer : Result Told CallRefused) → cell_on board on ≡ Some station → pass_at after on ≡ place → IfErr answer
      (λ refusal. refusal ≢ CallRefused.NoMemory want → (refusal ≡ CallRefused.JournalFull station.limit)
      × (station.limit ≤ place.known)) → IfErr answer (λ refusal. refusal ≢ CallRefused.NoMemory want → IfSome (cell_on board on)
      (λ cell. (refusal ≡ CallRefused.JournalFull cell.limit) × (cell.limit ≤ (pass_at after on).known)))
  full-on board on station after place (Ok told) is at full = full
  full-on board on station after place (Err refusal) is at full = grind (arith, some-cell)

-- the desk with another pass at a place
abbrev changed : DeskShown → ℕ → PassShown → DeskShown
changed has j after = record { owner = has.owner; passes = set has.passes j after }

module _ (desk has : DeskShown) (j : ℕ) (place after : PassShown) (same : desk ≡ has)
    (is : place ≡ get_or has.passes j place) where
  -- a desk in which a place was put back as it was
  put_again : after ≡ place → changed has j after ≡ desk
  put_again still = grind (arith, set-get_or)

  -- where memory was lacking the desk is as it was
  pub still-on : (answer : Result Told CallRefused) → IfErr answer (λ refusal. refusal ≡ CallRefused.NoMemory want
      → after ≡ place) → IfErr answer (λ refusal. refusal ≡ CallRefused.NoMemory want → changed has j after ≡ desk)
  still-on (Ok told) still = still
  still-on (Err refusal) still = λ none. put_again (still none)

  -- and so it is where a reply found no memory
  pub unread-on : {X E : Type 0} (answer : Result X E) → IfErr answer (λ _. after ≡ place)
      → IfErr answer (λ _. changed has j after ≡ desk)
  unread-on (Ok read) still = tt
  unread-on (Err refusal) still = put_again still

-- a call that was answered to the place was answered to the desk
pub answered-on : (desk has : DeskShown) (on : StrNo) (j : ℕ) (place after : PassShown) (asked : AnyAsk)
    (answer : Result Told CallRefused) → desk ≡ has → j ≡ on.0 → pass_at desk on ≡ place
    → IfOk answer (λ told. IsAnswered asked told place after)
    → IfOk answer (λ told. IsAnsweredOn on asked told desk (changed has j after))
answered-on desk has on j place after asked (Ok told) same at is made = grind arith
answered-on desk has on j place after asked (Err refusal) same at is made = tt

-- a call keeps what is fixed, made or not
pub call-fixed : (answer : Result Told CallRefused) (asked : AnyAsk) (before after : PassShown)
    → IfOk answer (λ told. IsAnswered asked told before after) → IfErr answer (λ _. IsLater before after)
    → fixed_of after ≡ fixed_of before
call-fixed (Ok told) asked before after made unmade = ap fixed_of made.pass
call-fixed (Err refusal) asked before after made unmade = ap fixed_of unmade.same

-- so does what a note tells
pub noted-fixed : (note : Option NoteShown) (pass : PassShown) → fixed_of (with_any_note note pass) ≡ fixed_of pass
noted-fixed None pass = refl
noted-fixed (Some note) pass = refl
