-- Which texts are scripts, and what their status tells.
use Rattle.plex_run.proofs.Imports.{◌≡◌, ◌≢◌, ℕ, ◌≤◌, ◌<◌, ◌⊎◌, inl, inr, false, List, length, Option, Some, None, refl, sym, ◌∙◌, subst, arith, is_some, Why, ReadFault, TellsFault, Script, IsScript, SaysOne, IsExclusive, AnyHistory, Transcript, ShowsHistories, ShowsFresh, Reading, IsOnlyReading, Way, Output, Wires, why_word, EndsTask, IsRefused, IsRun, IsRunOf, WritesRun, EndsRun, IsSerialStatus, IsTooLong, script_limit, script_word, running, journal_limit, full_of, run_status}
use Rattle.plex_run.specs.Outcome.{EndsRight}
use Rattle.plex_run.proofs.TextLaws.{IsFair, memory_ends, done_ends}
use Rattle.plex_run.proofs.{FullLaws.AreWithin, FullLaws.can_fill, ReadingLaws.one_reading}

-- whatever a run shows, tests that tell VALID tell fresh copies
abbrev pub AreFresh : Type 0
AreFresh = (limit : ℕ) (script : Script) (histories : List AnyHistory) (transcripts : List Transcript)
    → ShowsHistories limit script histories transcripts → ShowsFresh script histories transcripts

-- ---- texts that are no scripts

-- what is told of a fault
pub fault_told : (text : List ℕ) {line : ℕ} {why : Why} {told : List ℕ} {because : ReadFault}
    → because ≡ ReadFault.Script line why → TellsFault text because → told ≡ why_word why → IsRefused text line told
fault_told text {why = why} e tells spelled = (why, rw e at tells, spelled)

-- a text within the limit isn't too long
pub fits : (text : List ℕ) → length text ≤ script_limit → (limit : ℕ) × IsTooLong text limit → ⊥
fits text short long = omega (arith, short, long.1.1)

-- no text is a script and refused
pub runs_fair : (links : Wires) (by : Way) → IsExclusive → IsFair (script_word links by)
runs_fair links by never text line told says fault = never text says.0 line fault.0 says.1 fault.1

-- ---- runs

-- the statuses of a run
abbrev pub IsRunStatus : ℕ → Type 0
IsRunStatus status = (status ≡ 0) ⊎ ((status ≡ 8) ⊎ ((status ≡ 5) ⊎ (status ≡ 6)))

-- what a run of a script leaves, is a run of the text that says it
pub is_run : (links : Wires) (by : Way) (text : List ℕ) (script : Script) (reading : Reading) → AreFresh → AreWithin
    → IsScript text script → IsRunOf links by script reading → IsRun links by text script reading
is_run links by text script reading fresh within says run = record {
  says = says;
  shows = run.shows;
  asked = run.asked;
  marks = run.marks;
  fresh = fresh journal_limit script reading.histories reading.transcripts run.shows;
  can_fill = can_fill script reading within run.shows;
  in_turn = run.in_turn;
}

-- whether there is a value
none_of : {X : Type 0} (found : Option X) → is_some found ≡ false → found ≡ None
none_of None e = refl
none_of (Some x) e = absurd (cc)

above_seven : (status : ℕ) → IsRunStatus status → 7 < status → status ≡ 8
above_seven status statuses above = grind arith

module _ (links : Wires) (by : Way) (text : List ℕ) (script : Script) (reading : Reading) (out : Output) (status : ℕ)
    (run : IsRun links by text script reading) (wrote : WritesRun script reading out status) where
  none_full : (status ≡ 0) ⊎ (status ≡ 5) → full_of script reading ≡ None
  none_full fine = none_of (full_of script reading) (wrote.none_full fine)

  -- a run in which no journal got full has the status 0
  fine_status : (status ≡ 0) ⊎ (status ≡ 5) → run_status script reading ≡ 0
  fine_status fine = rw (none_full fine) refl

  full_status : status ≡ 8 → run_status script reading ≡ status
  full_status eight = rw (wrote.full eight).0 (sym eight)

  -- what was written of a run is what is told of it
  run_told : IsOnlyReading → IsRunStatus status → EndsTask (running links by text) out status
  run_told only statuses = record {
    done = λ zero.
        let one = one_reading text script reading run.says only run.shows run.marks (none_full (inl zero))
        (wrote.short zero) in
        ((script, reading), run, fine_status (inl zero), one, wrote.whole zero);
    marked = λ above.
        let eight : status ≡ 8 = above_seven status statuses above in
        ((script, reading), run, full_status eight, (wrote.full eight).1);
    front = λ five. ((wrote.front five).0, ((script, reading), run, fine_status (inr five), (wrote.front five).1));
    no_memory = λ six. inr (refl, ((script, reading), run, wrote.broken_off six));
  }

  -- it is the status of the run
  status_right : IsRunStatus status → status ≢ 6
      → (status ≡ run_status script reading) ⊎ ((status ≡ 5) × (full_of script reading ≡ None))
  status_right (inl zero) memory = inl (zero ∙ sym (fine_status (inl zero)))
  status_right (inr (inl eight)) memory = inl (sym (full_status eight))
  status_right (inr (inr (inl five))) memory = inr (five, none_full (inr five))
  status_right (inr (inr (inr six))) memory = absurd (memory six)

whole_status : (status : ℕ) → IsRunStatus status → status ≢ 6 → (status ≡ 0) ⊎ ((status ≡ 5) ⊎ (status ≡ 8))
whole_status status statuses memory = grind arith

-- no run has another status
not_other : (n status : ℕ) → IsRunStatus status → (n ≡ 3) ⊎ (n ≡ 7) → status ≢ n
not_other n status statuses other is = grind arith

-- the run of a script that the text says ends right
pub run_ends : (links : Wires) (by : Way) (text : List ℕ) (script : Script) (out : Output) (status : ℕ) → SaysOne
    → IsExclusive → AreFresh → AreWithin → IsOnlyReading → length text ≤ script_limit → IsScript text script
    → EndsRun links by script out status → IsRunStatus status → EndsRight links by text out status
run_ends links by text script out status one never fresh within only short says (inl (six, gains)) statuses =
    memory_ends six gains
run_ends links by text script out status one never fresh within only short says
    (inr (reading, run_of, wrote)) statuses =
    let run : IsRun links by text script reading = is_run links by text script reading fresh within says run_of in
    done_ends (runs_fair links by never) (fits text short) (script, says)
    (run_told links by text script reading out status run wrote only statuses)
    (not_other 3 status statuses (inl refl)) (not_other 7 status statuses (inr refl)) (λ memory. (
      whole_status status statuses memory,
      λ turn other again told telling.
          let same : script ≡ other = one text script other says again in
          let telling' : links.telling told (length script.structures) = rw (sym same) at telling in
          let right : IsSerialStatus told script status = grind (arith, status_right) in
          subst (λ (s : Script). IsSerialStatus told s status) same right,
    ))
