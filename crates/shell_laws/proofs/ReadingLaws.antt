-- What is read of a history, and what counters keep, with one entry more.
use Rattle.shell_laws.proofs.Imports.{arith, ◌≡◌, Bool, true, false, cond, not, ◌&&◌, ◌||◌, ◌==◌, List, [], ◌∷◌, Option, None, Some, option_map, filter, refl, ap, ◌∙◌, unwrap_or, filter_agree, Stage, Quiesce, Connect, Copy, Cleanup, Stopping, ConnId, without_member, is_copy, filter-filter, filter_swap, Passed, No, next_stage, outcome, owing_after, rebuild_emptied, rebuild_in, rebuild_left, rebuild_onward, HasMembers, Reading, awaited, begun, has_given, passed, read_behind, read_next, rebuild_of, with_entry, with_stage, with_told, rebuild_given, rebuild_next, Telling, TellingEntry, is_awaited, Starts, Places, Copies, Stops, Departs, Forces, Deallocates, Fails, Nothing}

filter_true : {X : Type 0} (xs : List X) → filter (λ x. true) xs ≡ xs
filter_true [] = refl
filter_true (x ∷ xs) = ap (λ ys. x ∷ ys) (filter_true xs)

-- who owes where a connector has given what is awaited, and where it hasn't
module _ (by : ConnId) (given : ConnId → Bool) (conns : List ConnId) where
  owing_given : filter (λ conn. not (((conn.0 == by.0) && true) || given conn)) conns
      ≡ without_member by (filter (λ conn. not (given conn)) conns)
  owing_given = grind (arith, filter_agree, filter-filter)

-- ---- a stage that may pass

-- the stage that is read hasn't passed
abbrev pub IsGoing : Option Reading → Type 0
IsGoing None = Unit {0}
IsGoing (Some read) = outcome read.stage read.members (awaited read) ≡ No

same_rebuild : (read : Reading) (owing : List ConnId) → awaited read ≡ owing
    → rebuild_of read ≡ record (rebuild_of read) { owing = owing }
same_rebuild read owing is = ap (λ (o : List ConnId). record (rebuild_of read) { owing = o }) is

-- it passes as counters do
past : (read : Reading) → option_map rebuild_of (passed read) ≡ rebuild_onward (rebuild_of read)
past read = grind (arith, behind)
  where
    begins : (at : Stage) → Some (rebuild_of (with_stage at read)) ≡ Some (rebuild_in at (rebuild_of read))
    begins at = ap Some (same_rebuild (with_stage at read) read.members (filter_true read.members))

    behind : (at : Stage) → option_map rebuild_of (read_behind at read) ≡ rebuild_left (next_stage at) (rebuild_of read)
    behind Quiesce = begins Connect
    behind Connect = begins Copy
    behind Copy = begins Cleanup
    behind at = refl

past_as : (read : Reading) (owing : List ConnId) → awaited read ≡ owing
    → option_map rebuild_of (passed read) ≡ rebuild_onward (record (rebuild_of read) { owing = owing })
past_as read owing is = past read ∙ ap rebuild_onward (same_rebuild read owing is)

-- ---- one entry more

-- one that the stage perhaps waits for
module _ (by : ConnId) (telling : Telling) (read : Reading) (going : IsGoing (Some read)) where
  abbrev longer : Reading
  longer = record read { entries = record { by = by; telling = telling } ∷ read.entries }

  given_or_not : (b : Bool) → is_awaited read.stage read.number telling ≡ b
      → option_map rebuild_of (passed longer) ≡ rebuild_given b by (rebuild_of read)
  given_or_not false other = grind (arith, past_as, filter_agree)
  given_or_not true awaits = past_as longer (without_member by (awaited read))
      (rw awaits (owing_given by (has_given read.stage read.number read.entries) read.members))

  given : option_map rebuild_of (passed longer)
      ≡ rebuild_given (is_awaited read.stage read.number telling) by (rebuild_of read)
  given = given_or_not (is_awaited read.stage read.number telling) refl

-- a departure
awaited_left : (by : ConnId) (read : Reading)
    → awaited (with_told by Departs read) ≡ owing_after read.stage by (without_member by read.members) (awaited read)
awaited_left by read = go read.stage
  where
    left : List ConnId
    left = without_member by read.members

    entry : TellingEntry
    entry = record { by = by; telling = Departs }

    go : (at : Stage)
        → filter (λ conn. not (has_given at read.number (cond (is_copy at) [] (entry ∷ read.entries)) conn)) left
        ≡ owing_after at by left (filter (λ conn. not (has_given at read.number read.entries conn)) read.members)
    go Copy = filter_true left
    go at = grind (arith, left, filter_swap, filter_agree)

-- the forcing of a connection: in COPY all are awaited again
still : (at : Stage) (members owing : List ConnId) → outcome at members owing ≡ No → outcome at members members ≡ No
still at members owing is = grind arith

forced : (at : Stage) (by : ConnId) (read : Reading) → IsGoing (Some (record read { stage = at }))
    → option_map rebuild_of (passed (with_entry by Forces (record read { stage = at })))
    ≡ Some (rebuild_emptied at (rebuild_of (record read { stage = at })))
forced Copy by read going = past_as (record read { stage = Copy; entries = [] }) read.members
    (filter_true read.members) ∙ ap (λ (p : Passed). rebuild_left p
    (record (rebuild_of read) { stage = Copy; owing = read.members })) (still Copy read.members _ going)
forced at by read going = given_or_not by Forces (record read { stage = at }) going false refl

-- counters go on as the reading does
pub told-next : (actives : List ConnId) (by : ConnId) (telling : Telling) (read : Option Reading) → IsGoing read
    → option_map rebuild_of (read_next actives by telling read)
    ≡ rebuild_next actives by telling (option_map rebuild_of read)
told-next actives by (Starts number caps) read going =
    ap Some (same_rebuild (begun number caps actives) actives (filter_true actives))
told-next actives by Stops (Some read) going =
    ap Some (same_rebuild (with_stage Stopping read) read.members (filter_true read.members))
told-next actives by Fails (Some read) going = refl
told-next actives by Departs (Some read) going = past_as (with_told by Departs read) _ (awaited_left by read)
told-next actives by Forces (Some read) going = forced read.stage by read going
told-next actives by (Places cf) (Some read) going =
    given by (Places cf) (record read { place = Some (unwrap_or read.place cf) }) going
told-next actives by (Copies moved) (Some read) going = given_or_not by (Copies moved) read going false refl
told-next actives by Deallocates (Some read) going = given_or_not by Deallocates read going false refl
told-next actives by Nothing (Some read) going = given_or_not by Nothing read going false refl
told-next actives by telling (Some read) going = given by telling read going
told-next actives by _ None going = refl

-- the stage that is read hasn't passed, where the rebuild has members
pub going-next : (actives left : List ConnId) (by : ConnId) (telling : Telling) (read : Option Reading) → IsGoing read
    → HasMembers (option_map rebuild_of (read_next actives by telling read)) left
    → IsGoing (read_next actives by telling read)
going-next actives left by (Starts number caps) read going some = grind (arith, filter_true)
going-next actives left by Stops (Some read) going some = grind (arith, filter_true)
going-next actives left by Fails (Some read) going some = tt
going-next actives left by telling (Some read) going some = grind (arith, filter_true)
going-next actives left by _ None going some = tt
