-- Tests, posts and takes: what each keeps, and what the run by the machine alone shows for it.
use Rattle.plex_agent.proofs.Imports.{◌+◌, ◌≡◌, ◌≢◌, ℕ, ◌*◌, ◌^◌, ◌≤◌, ◌<◌, max, nat_lt, Bool, List, [], ◌∷◌, ◌++◌, map, slice_get, Option, None, Some, refl, sym, ap, subst, ◌∙◌, arith, All, get_or_from_slice_get, AnyHistory, Shown, any_length, IsAnyPoint, any_take, any_stands, any_word, end_of, shown_on, seen_on, with_shown, post_made, take_made, Sight, sight, indices_of, PassShown, NoteShown, note_of, IsAnyTold, with_any_note, with_item, set_same, each_sight, Run, ◌==◌, ◌&&◌, take, bit_at, ltb-true, ltb-false, StrForm, ConnId, Entry, Meaning, stands_after, altered_caches, queued_lists, lock_meaning, IsTold, told_past, bit_in_word, all_bits, AgentEnd}
use Rattle.plex_agent.proofs.Agreements.{IsSeen, sure_in, known_in, seen_push, seen_none, ShowsNumber, number_shown, lasts_put}
use Rattle.plex_agent.proofs.ExactMoves.{SaysLess, run_shows, transcript_is, knows_front, still_front, says_same, goes_changed}
use Rattle.plex_agent.proofs.Spots.{conn, str, put_all, put_same, Spot, IsKnownNote, at_front, moved, noticed, known_moved, known_noticed, IsKnown}
use Rattle.plex_agent.proofs.Stages.{Stage, IsStage, State, Shows, Goes, acted, fits_here, Agrees, RunGoes}
use Rattle.plex_agent.proofs.{Fits.fits_put, Fits.events_front, Lookups.all_front, Lookups.all_behind}

-- ---- one bit

module _ {C R I S : Type 0} (meaning : Meaning C R I S) (form : StrForm) (entries : List (Entry C R)) (conn : ConnId)
    (test : Sight) where
  bit_told : IsTold meaning form entries conn.0 test → test.at ≤ test.sure → test.index < form.vector
      → test.bit ≡ stands_after meaning form (take test.at entries) conn test.index
  bit_told told least inside = grind arith

-- a test whose number isn't above what its caller had seen complete shows what stood at that number
pub told_bit : (form : StrForm) (h : AnyHistory) (conn : ConnId) (test : Sight) → IsAnyTold form h conn test
    → test.at ≤ test.sure → test.index < form.vector → test.bit ≡ any_stands form (any_take test.at h) conn test.index
told_bit form (AnyHistory.Cache entries) conn test = bit_told altered_caches form entries conn test
told_bit form (AnyHistory.List entries) conn test = bit_told queued_lists form entries conn test
told_bit form (AnyHistory.Lock entries) conn test = bit_told lock_meaning form entries conn test

-- ---- a word

-- the bit of an index, false past the vector
abbrev bit_of : StrForm → AnyHistory → ConnId → ℕ → Bool
bit_of form h conn index = nat_lt index form.vector && any_stands form h conn index

-- the bit of an index is that of the word
bit_shown : (form : StrForm) (h : AnyHistory) (conn : ConnId) (word bits at sure k : ℕ)
    → IsAnyTold form h conn (sight bits at sure (32 * word + k)) → at ≤ sure → k < 32
    → bit_of form (any_take at h) conn (32 * word + k) ≡ (bit_at bits k == 1)
bit_shown form h conn word bits at sure k told least small =
    grind (arith, bit_in_word, told_bit, ltb-true, told_past, ltb-false)

-- the tests of a word show all of its bits
pub told_word : (form : StrForm) (h : AnyHistory) (conn : ConnId) (word bits at sure : ℕ)
    → All (IsAnyTold form h conn) (map (sight bits at sure) (indices_of word)) → at ≤ sure → bits < 2 ^ 32
    → any_word form (any_take at h) conn word ≡ bits
told_word form h conn word bits at sure told least small =
    all_bits bits 32 (λ k. bit_of form (any_take at h) conn (32 * word + k)) small (λ k within. bit_shown form
    h conn word bits at sure k (each_sight (IsAnyTold form h conn) word bits at sure k told within) least within)

-- a test is at a point of the history
pub told_point : (form : StrForm) (h : AnyHistory) (conn : ConnId) (test : Sight) → IsAnyTold form h conn test
    → IsAnyPoint h test.at
told_point form (AnyHistory.Cache entries) conn test told = told.point
told_point form h conn test told = told.point

-- ---- tests

-- what the run makes of a look at the caller's own vector
abbrev pub looked : ℕ → ℕ → (AnyHistory → Shown) → Run → Run
looked on by item_of run = with_shown (conn by) (slice_get run.histories on) item_of run

abbrev pub tested_pass : ℕ → List Sight → PassShown → PassShown
tested_pass at tests pass = record pass { known = at; tests = pass.tests ++ tests }

module _ (stage : Stage) (is : IsStage stage) (shows shows' : Shows) (on by : ℕ) (state : State)
    (within : on < stage.cells) (caller : by ≤ stage.callers) (last : (state.spots on).last ≡ Some (conn by))
    (works : (state.shown by).end ≡ AgentEnd.Done) (less : SaysLess shows shows' on by) where
  abbrev spot : Spot
  spot = state.spots on

  abbrev pass : PassShown
  pass = spot.passes by

  abbrev AreTold : List Sight → Type 0
  AreTold tests = All (IsAnyTold (stage.form on) (stage.entries on) (conn by)) tests

  abbrev tested : ℕ → List Sight → Shown → State
  tested at tests item = acted on by (moved by (tested_pass at tests pass) spot) (with_item item (state.shown by)) state

  -- the run's item is to be this one
  pub goes_test : (at : ℕ) (tests : List Sight) (item : Shown) (item_of : AnyHistory → Shown) → pass.known ≤ at
      → ShowsNumber on at item → (at ≤ pass.sure → any_length (any_take at (stage.entries on)) ≡ at → AreTold tests
      → item_of (any_take at (stage.entries on)) ≡ item) → (AreTold tests → IsAnyPoint (stage.entries on) at)
      → Goes stage shows shows' state (tested at tests item) (looked on by item_of)
  goes_test at tests item item_of later number item_is pointed =
      let after = tested_pass at tests pass in
      let items = (state.shown by).items in
      let transcript = with_item item (state.shown by) in
      goes_changed stage shows shows' on by state within caller works less after (at_front by after spot)
      transcript _ (λ x apart. seen_none (str x) items item (number.elsewhere x apart)) (λ known.
      let front = knows_front _ _ _ known last in (
        known_moved _ _ _ _ caller known (omega (arith, front, later))
            (omega (arith, (known.pass by caller).sure, later)) refl refl,
        fits_put _ _ _ _ _ (at_front by after spot) _ refl (omega (arith, front, later))
            (all_front (IsAnyTold (stage.form on) (stage.entries on) (conn by)) pass.tests tests),
      )) (λ known fits run agrees.
      let here = fits_here _ _ _ _ _ _ within fits in
      let before = agrees.at on within in
      let told = all_behind (IsAnyTold (stage.form on) (stage.entries on) (conn by)) pass.tests
      tests (subst (λ p. AreTold p.tests) (put_same by after spot.passes) (here.tests by caller)) in
      let still = still_front _ is _ _ _ _ _ within last later known fits (pointed told) before.front_is in
      let complete = before.lasts (conn by) last ∙ sym still.1 in
      let front = events_front _ _ _ _ (is.legal on within) here in
      let shown_is =
      ap (λ n. item_of (any_take n (stage.entries on))) (sym still.0) ∙ item_is (omega (arith, complete))
      (ap (λ n. any_length (any_take n (stage.entries on))) still.0 ∙ front.size ∙ sym still.0) told in
      let seen_before = before.seen by caller works in
      let seen_now = seen_push (str on) items item at number.here in
      record {
        run_goes = rw (before.history_is, shown_is, transcript_is _ _ _ _ _ caller agrees)
            (run_shows _ _ _ _ _ _ _ within agrees);
        noted = before.noted;
        front_is = still.0;
        seen = grind arith;
        lasts = lasts_put _ _ _ at complete;
      })

-- ---- an item alone

-- what a pass is once it was told a note, or none
record IsNoted (front : ℕ) (note : Option NoteShown) (before after : PassShown) : Type 0 where
  known : before.known ≤ after.known
  sure : after.sure ≡ max before.sure (sure_in note)
  more : after.known ≡ max before.known (known_in note)
  within : after.known ≤ front
  ordered : after.sure ≤ after.known
  owner : after.owner ≡ before.owner
  calls : after.calls ≡ before.calls
  tests : after.tests ≡ before.tests

is_noted : (front : ℕ) (note : Option NoteShown) (pass : PassShown) → IsKnownNote front note → pass.known ≤ front
    → pass.sure ≤ pass.known → IsNoted front note pass (with_any_note note pass)
is_noted front None pass noted within sure = grind arith
is_noted front (Some note) pass noted within sure = grind arith

module _ (stage : Stage) (shows : Shows) (on by : ℕ) (state : State) (within : on < stage.cells)
    (caller : by ≤ stage.callers) (works : (state.shown by).end ≡ AgentEnd.Done) where
  abbrev spot_now : Spot
  spot_now = state.spots on

  abbrev pass_now : PassShown
  pass_now = spot_now.passes by

  -- the caller was told a note, or none, and one lies in the tray; it isn't said to have acted
  abbrev noticed_state : Option NoteShown → Option NoteShown → Shown → State
  noticed_state told note item =
      acted on by (noticed by (with_any_note told pass_now) note spot_now) (with_item item (state.shown by)) state

  goes_noticed : (told note : Option NoteShown) (item : Shown) (goes : Run → Run)
      → ((x : ℕ) → x ≢ on → shown_on (str x) item ≡ None) → (IsKnown stage.callers spot_now
      → IsKnownNote spot_now.front told × IsKnownNote spot_now.front note) → ((run : Run) → Agrees stage
      shows state run → IsNoted spot_now.front told pass_now (with_any_note told pass_now) → IsSeen (str on) pass_now
      (state.shown by).items (shows on by) → RunGoes on by (any_take (end_of spot_now.events) (stage.entries on))
      (sure_in note) (with_item item (state.shown by)) run (goes run) × (known_in note ≡ sure_in note)
      × IsSeen (str on) (with_any_note told pass_now) ((state.shown by).items ++ item ∷ []) (shows on by))
      → Goes stage shows shows state (noticed_state told note item) goes
  goes_noticed told note item goes elsewhere notes makes =
      let after = with_any_note told pass_now in
      let noted : IsKnown stage.callers spot_now → IsNoted spot_now.front told pass_now after = λ known. is_noted
      spot_now.front told pass_now (notes known).0 (known.pass by caller).within (known.pass by caller).sure in
      goes_changed stage shows shows on by state within caller works (says_same shows on by) after
      (record spot_now { note = note }) (with_item item (state.shown by)) goes
      (λ x apart. seen_none (str x) (state.shown by).items item (elsewhere x apart)) (λ known.
      let its = noted known in (
        known_noticed stage.callers by spot_now after note caller known its.known its.within its.ordered its.owner
            its.calls (notes known).1,
        fits_put _ _ _ _ _ (record spot_now { note = note }) _ refl (omega arith)
            (subst (All (IsAnyTold (stage.form on) (stage.entries on) (conn by))) its.tests),
      )) (grind (arith, put_all))

  -- a test out of the vector shows no number, and nothing else happens
  pub goes_bad : (item : Shown) (item_of : AnyHistory → Shown) → ((x : ℕ) → shown_on (str x) item ≡ None)
      → ((entries : AnyHistory) → item_of entries ≡ item) → Goes stage shows shows state (noticed_state
      None spot_now.note item) (looked on by item_of)
  goes_bad item item_of none item_is = goes_noticed None spot_now.note item _ (λ x apart. none x)
      (λ known. (tt, known.noted)) (λ run agrees noted before.
      let at = agrees.at on within in
      let seen_now = seen_none (str on) (state.shown by).items item (none on) in (
        rw (at.history_is, item_is, transcript_is stage shows by state run caller agrees)
            (run_shows stage shows on by state (with_item item (state.shown by)) run within agrees),
        at.noted,
        grind arith,
      ))

  pub goes_take : shows on by → Goes stage shows shows state (noticed_state spot_now.note spot_now.note
      (Shown.Took (str on) (with_any_note spot_now.note pass_now).sure)) (λ run. take_made (conn by) (str on) run)
  goes_take said =
      let after : PassShown = with_any_note spot_now.note pass_now in
      let item : Shown = Shown.Took (str on) after.sure in
      let items : List Shown = (state.shown by).items in
      let number : ShowsNumber on after.sure item = number_shown _ _ _ (λ x. refl) in
      goes_noticed spot_now.note spot_now.note item _ number.elsewhere (λ known. (known.noted, known.noted))
      (λ run agrees noted before.
      let at = agrees.at on within in
      let seen_now : seen_on (str on) (items ++ item ∷ []) ≡ max (seen_on (str on) items) after.sure =
      seen_push (str on) items item after.sure number.here in
      let shown_is : max (seen_on (str on) items) (sure_in spot_now.note) ≡ after.sure = grind arith in
      let number_is = get_or_from_slice_get run.posted on (sure_in spot_now.note) 0 at.number_is in (
        rw (transcript_is _ _ _ _ _ caller agrees, number_is, shown_is)
            (run_shows stage shows on by state (with_item item (state.shown by)) run within agrees),
        at.noted,
        grind arith,
      ))

  pub goes_post : shows on by → Goes stage shows shows state (noticed_state None (Some (note_of pass_now))
      (Shown.Posted (str on) pass_now.sure)) (λ run. post_made (conn by) (str on) run)
  goes_post said =
      let item = Shown.Posted (str on) pass_now.sure in
      let items = (state.shown by).items in
      let number = number_shown on pass_now.sure item (λ x. refl) in
      goes_noticed None (Some (note_of pass_now)) item _ number.elsewhere (grind arith) (λ run agrees noted before.
      let seen_now = seen_push (str on) items item pass_now.sure number.here in (
        rw (transcript_is stage shows by state run caller agrees, before.seen said) (record {
          histories = sym (set_same run.histories on _ (agrees.at on within).history_is);
          transcripts = refl;
          numbers = refl;
        }),
        sym before.complete,
        grind arith,
      ))
