-- Where no journal got full each caller's work was done, and the report can be read in one way.
use Rattle.plex_run.proofs.Imports.{◌≡◌, ℕ, zero, suc, ◌+◌, ◌<◌, ◌==◌, ◌^◌, Bool, true, false, List, [], ◌∷◌, length, Some, None, slice_get, get_or, refl, sym, ap, ◌∙◌, arith, find, if◌then◌else◌, enumerate_from, nat_tests, list_any_at, get_or_from_slice_get, slice_get_within, StrForm, AnyHistory, Script, AgentEnd, Transcript, length_on, IsScript, ShowsHistories, EndsRight, Reading, IsReading, IsTheReading, IsOnlyReading, report_of, is_reading, ends_full_at, is_full_at, full_structure, ShowsRun, AreMarked, full_of, journal_limit}
use Rattle.plex_run.proofs.RunnableLaws.{none_mapped}

-- a place within the list that passes is found
found_within : (p : ℕ → Bool) (first n : ℕ) (forms : List StrForm) → n < length forms → p (first + n) ≡ true
    → find (λ (place : ℕ × StrForm). p place.0) (enumerate_from first forms) ≡ None → ⊥
found_within p first n [] within passes none = omega (arith, within)
found_within p first n (form ∷ forms) within passes none =
    by_test (p first) refl none n within passes (λ m low found k. found_within p (first + 1) m forms low found k)
  where
    later : List (ℕ × StrForm)
    later = enumerate_from (first + 1) forms

    by_test : (b : Bool) → p first ≡ b → (if b then Some (first, form) else find (λ (place : ℕ × StrForm). p place.0)
        later) ≡ None → (n : ℕ) → n < length (form ∷ forms) → p (first + n) ≡ true → ((m : ℕ) → m < length forms
        → p ((first + 1) + m) ≡ true → find (λ (place : ℕ × StrForm). p place.0) later ≡ None → ⊥) → ⊥
    by_test true here k m low found behind = cc
    by_test false past k zero low found behind = grind arith
    by_test false past k (suc m) low found behind =
        let further : first + suc m ≡ (first + 1) + m = omega arith in
        behind m (omega (arith, low)) (ap p (sym further) ∙ found) k

-- a history with calls is there
there_on : (histories : List AnyHistory) (x : ℕ) → 0 < length_on histories (record { 0 = x }) → x < length histories
there_on [] zero calls = absurd (omega (arith, calls))
there_on [] (suc x) calls = absurd (omega (arith, calls))
there_on (first ∷ histories) zero calls = omega arith
there_on (first ∷ histories) (suc x) calls = omega (arith, there_on histories x calls)

-- where no journal got full, each transcript goes to the end of its caller's work
all_done : (limit : ℕ) (script : Script) (histories : List AnyHistory) (transcripts : List Transcript) → 0 < limit
    → ShowsHistories limit script histories transcripts → full_structure script.structures transcripts ≡ None
    → (c : ℕ) (transcript : Transcript) → slice_get transcripts c ≡ Some transcript → transcript.end ≡ AgentEnd.Done
all_done limit script histories transcripts some shows none c transcript there =
    by_end transcript.end refl (shows.ends c transcript there)
  where
    nowhere : find (λ (place : ℕ × StrForm). is_full_at transcripts place.0) (enumerate_from 0 script.structures) ≡
        None
    nowhere = none_mapped (λ (place : ℕ × StrForm). place.1.name) _ none

    by_end : (end : AgentEnd) → transcript.end ≡ end
        → EndsRight limit script histories (record { 0 = c }) transcript.items end → transcript.end ≡ AgentEnd.Done
    by_end AgentEnd.Done is right = is
    by_end (AgentEnd.NoMemory cause) is right = absurd right
    by_end (AgentEnd.JournalFull on) is right =
        let calls : 0 < length_on histories on = omega (arith, some, right.full) in
        let within : on.0 < length script.structures = omega (arith, there_on histories on.0 calls, shows.structures)
        in
        let itself : on.0 == on.0 ≡ true = grind (arith, nat_tests) in
        let stopped : ends_full_at on.0 transcript.end ≡ true = rw is itself in
        let here : get_or transcripts c transcript ≡ transcript = get_or_from_slice_get transcripts c transcript
        transcript there in
        let found : is_full_at transcripts on.0 ≡ true = list_any_at (λ (t : Transcript). ends_full_at on.0 t.end)
        transcripts c transcript (slice_get_within transcripts c transcript there) (rw here stopped) in
        let place : on.0 ≡ 0 + on.0 = omega arith in
        absurd (found_within (is_full_at transcripts) 0 on.0 script.structures within
        (ap (is_full_at transcripts) (sym place) ∙ found) nowhere)

-- the report of a run can be read in one way
pub one_reading : (text : List ℕ) (script : Script) (reading : Reading) → IsScript text script
    → IsOnlyReading → ShowsRun script reading → AreMarked reading → full_of script reading ≡ None
    → length (report_of script reading) < 2 ^ 64 → IsReading script reading × IsTheReading script reading
one_reading text script reading says only shows marks none short =
    let done = all_done journal_limit script reading.histories reading.transcripts (omega arith) shows none in
    let is : IsReading script reading = is_reading journal_limit script reading shows done short marks in
    (is, λ other other_is same. sym (only text script reading other says is other_is short (sym same)))
