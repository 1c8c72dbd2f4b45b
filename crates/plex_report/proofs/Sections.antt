-- Which line stands where in the sections of a report.
use Rattle.plex_report.proofs.Imports.{◌≡◌, ℕ, ◌+◌, ◌<◌, ◌≤◌, zero, suc, List, [], ◌∷◌, ◌++◌, length, get_or, take, None, codes, arith, refl, slice_get, sum_by, option_map_or, StrForm, AnyHistory, Script, Transcript, caller_name, structure_name, alter_words, queue_words, lock_words, alter_reply_words, queue_reply_words, lock_reply_words, form_line, pref_line, structure_lines, heading, entry_line, history_lines, any_length, shown_line, transcript_lines, structures_lines, histories_lines, transcripts_lines}
use Rattle.plex_report.proofs.LinesAt.{get_spot, get_after, length-under}

pub past_end : (line : List ℕ) (n : ℕ) → 0 < n → slice_get (line ∷ []) n ≡ None
past_end line zero h = absurd (omega arith)
past_end line (suc n) h = refl

structure-sized : (i : ℕ) (form : StrForm) → length (structure_lines form) ≡ length form.prefs + 1
structure-sized i form = length-under (pref_line form) (form_line form) form.prefs

module _ (script : Script) where
  history-sized : (i : ℕ) (history : AnyHistory) → length (history_lines script i history) ≡ any_length history + 1
  history-sized i (AnyHistory.Cache entries) = length-under (entry_line alter_words alter_reply_words script)
      (heading (codes "HISTORY") (structure_name script i) (length entries)) entries
  history-sized i (AnyHistory.List entries) = length-under (entry_line queue_words queue_reply_words script)
      (heading (codes "HISTORY") (structure_name script i) (length entries)) entries
  history-sized i (AnyHistory.Lock entries) = length-under (entry_line lock_words lock_reply_words script)
      (heading (codes "HISTORY") (structure_name script i) (length entries)) entries

  transcript-sized : (i : ℕ) (transcript : Transcript)
      → length (transcript_lines script i transcript) ≡ length transcript.items + 1
  transcript-sized i transcript = length-under (shown_line script)
      (heading (codes "TRANSCRIPT") (caller_name script i) (length transcript.items)) transcript.items

  pub structure_spot : (rest : List (List ℕ)) (i k j : ℕ) (form : StrForm) → i < length script.structures
      → form ≡ get_or script.structures i form → k ≡ sum_by (λ (x : StrForm). length x.prefs + 1)
      (take i script.structures) + j → j ≤ option_map_or (λ (x : StrForm). length x.prefs) (slice_get
      script.structures i) 0 → slice_get (structures_lines script ++ rest) k ≡ slice_get (structure_lines form) j
  structure_spot =
      get_spot (λ i form. structure_lines form) (λ (x : StrForm). length x.prefs) structure-sized script.structures

  pub structures_after : (rest : List (List ℕ)) (k n : ℕ) → k ≡ sum_by (λ (x : StrForm). length x.prefs + 1)
      script.structures + n → slice_get (structures_lines script ++ rest) k ≡ slice_get rest n
  structures_after =
      get_after (λ i form. structure_lines form) (λ (x : StrForm). length x.prefs) structure-sized 0 script.structures

  pub history_spot : (histories : List AnyHistory) (rest : List (List ℕ)) (i k j : ℕ) (history : AnyHistory)
      → i < length histories → history ≡ get_or histories i history → k ≡ sum_by
      (λ x. any_length x + 1) (take i histories) + j → j ≤ option_map_or any_length (slice_get histories i) 0
      → slice_get (histories_lines script histories ++ rest) k ≡ slice_get (history_lines script i history) j
  history_spot = get_spot (λ i history. history_lines script i history) any_length history-sized

  pub histories_after : (histories : List AnyHistory) (rest : List (List ℕ)) (k n : ℕ) → k ≡ sum_by (λ x. any_length x
      + 1) histories + n → slice_get (histories_lines script histories ++ rest) k ≡ slice_get rest n
  histories_after = get_after (λ i history. history_lines script i history) any_length history-sized 0

  pub transcript_spot : (transcripts : List Transcript) (rest : List (List ℕ)) (i k j : ℕ) (transcript : Transcript)
      → i < length transcripts → transcript ≡ get_or transcripts i transcript
      → k ≡ sum_by (λ (x : Transcript). length x.items + 1) (take i transcripts) + j
      → j ≤ option_map_or (λ (x : Transcript). length x.items) (slice_get transcripts i) 0 → slice_get
      (transcripts_lines script transcripts ++ rest) k ≡ slice_get (transcript_lines script i transcript) j
  transcript_spot = get_spot (λ i transcript. transcript_lines script i transcript)
      (λ (x : Transcript). length x.items) transcript-sized

  pub transcripts_after : (transcripts : List Transcript) (rest : List (List ℕ)) (k n : ℕ)
      → k ≡ sum_by (λ (x : Transcript). length x.items + 1) transcripts + n
      → slice_get (transcripts_lines script transcripts ++ rest) k ≡ slice_get rest n
  transcripts_after = get_after
      (λ i transcript. transcript_lines script i transcript) (λ (x : Transcript). length x.items) transcript-sized 0
