-- The structure whose journal got full in a run: the script can fill it.
use Rattle.plex_run.proofs.Imports.{◌≡◌, ℕ, ◌+◌, ◌≤◌, ◌<◌, Bool, true, List, Option, Some, None, option_map, length, slice_get, get_or, refl, sym, ap, ◌∙◌, arith, find, enumerate_from, position_or_len, nat_tests, Any-from_list_any, find_at, get_or-enumerate_from, length-enumerate_from, passes_at_first, get_or_from_slice_get, slice_get-get_or, slice_get_read, slice_get_within, StrForm, StrNo, AnyHistory, Script, Transcript, length_on, ShowsHistories, IsWithinScript, most_entries, Reading, is_full_at, CanFill, ShowsRun, full_of, journal_limit}

-- whatever a run shows, no history is longer than the script can make it
abbrev pub AreWithin : Type 0
AreWithin = (limit : ℕ) (script : Script) (histories : List AnyHistory) (transcripts : List Transcript)
    → ShowsHistories limit script histories transcripts → IsWithinScript script histories

-- what is found among elements that stand with their places passes, and is the element at its place
found_place : {X : Type 0} (p : ℕ → Bool) (xs : List X) (place : ℕ × X) → find (λ (it : ℕ × X). p it.0)
    (enumerate_from 0 xs) ≡ Some place → (slice_get xs place.0 ≡ Some place.1) × (p place.0 ≡ true)
found_place {X} p xs place found =
    let test : ℕ × X → Bool = λ (it : ℕ × X). p it.0 in
    let places : List (ℕ × X) = enumerate_from 0 xs in
    let k : ℕ = position_or_len test places in
    let there : slice_get places k ≡ Some place = sym (find_at test places) ∙ found in
    let within : k < length places = slice_get_within places k place there in
    let short : k < length xs = omega (arith, within, length-enumerate_from 0 xs) in
    let at : get_or places k place ≡ place = get_or_from_slice_get places k place place there in
    let same : (0 + k, get_or xs k place.1) ≡ place = sym (get_or-enumerate_from 0 xs k place short) ∙ at in
    let number : k ≡ place.0 = omega (arith, ap (λ (it : ℕ × X). it.0) same) in
    grind (arith, slice_get-get_or, passes_at_first)

-- ---- the structure that is told

-- a journal at which a caller's work ended is full
full_there : (limit : ℕ) (script : Script) (histories : List AnyHistory) (transcripts : List Transcript)
    → ShowsHistories limit script histories transcripts → (place : ℕ) → is_full_at transcripts place ≡ true
    → limit ≤ length_on histories (record { 0 = place })
full_there limit script histories transcripts shows place full =
    grind (arith, Any-from_list_any, slice_get_read, nat_tests)

-- the script can fill the journal that is told
pub can_fill : (script : Script) (reading : Reading) → AreWithin → ShowsRun script reading
    → CanFill script (full_of script reading)
can_fill script reading within shows = by_place
    (find (λ (place : ℕ × StrForm). is_full_at reading.transcripts place.0) (enumerate_from 0 script.structures)) refl
  where
    by_place : (found : Option (ℕ × StrForm)) → find
        (λ (place : ℕ × StrForm). is_full_at reading.transcripts place.0) (enumerate_from 0 script.structures) ≡ found
        → CanFill script (option_map (λ (place : ℕ × StrForm). place.1.name) found)
    by_place None none = tt
    by_place (Some place) found =
        let it = found_place (is_full_at reading.transcripts) script.structures place found in
        let on : StrNo = record { 0 = place.0 } in
        let full : journal_limit ≤ length_on reading.histories on =
        full_there journal_limit script reading.histories reading.transcripts shows place.0 it.1 in
        let few : length_on reading.histories on ≤ most_entries script on =
        within journal_limit script reading.histories reading.transcripts shows on in
        (on, place.1, it.0, refl, omega (arith, full, few))
