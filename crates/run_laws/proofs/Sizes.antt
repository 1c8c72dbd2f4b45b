-- No history and no transcript is longer than the report.
use Rattle.run_laws.proofs.Imports.{◌≡◌, ℕ, zero, suc, ◌+◌, ◌≤◌, ◌<◌, ◌^◌, List, [], ◌∷◌, length, Some, slice_get, arith, length-append, length-map, StrNo, AnyHistory, Script, Transcript, any_length, length_on, history_lines, transcript_lines, lines_each, histories_lines, transcripts_lines, report_lines, Reading, report_of}
use Rattle.run_laws.proofs.Cuts.{text-long}

-- ---- within their lines

history_long : (script : Script) (n : ℕ) (entries : AnyHistory) → any_length entries < length
    (history_lines script n entries)
history_long script n _ = grind (arith, length-map)

each_long : {X : Type 0} (lines : ℕ → X → List (List ℕ)) (size : X → ℕ) → ((n : ℕ) (x : X) → size x < length
    (lines n x)) → (n k : ℕ) (xs : List X) (x : X) → slice_get xs k ≡ Some x → size x < length (lines_each lines n xs)
each_long lines size long n k [] x e = grind arith
each_long lines size long n zero (first ∷ xs) x e = grind (arith, long, length-append)
each_long lines size long n (suc k) (first ∷ xs) x e =
    grind (arith, length-append, each_long lines size long (n + 1) k xs x e)

-- ---- within the report

module _ (script : Script) (reading : Reading) (short : length (report_of script reading) < 2 ^ 64) where
  abbrev histories : List AnyHistory
  histories = reading.histories

  -- all histories and transcripts together aren't longer than the report
  parts_within : length (histories_lines script histories) + length (transcripts_lines script reading.transcripts)
      ≤ length (report_of script reading)
  parts_within =
      let long = text-long (report_lines script histories reading.transcripts) in grind (arith, length-append)

  -- so in a report of fewer than 2^64 bytes each length has at most 64 bits
  pub short_at : (x : ℕ) (entries : AnyHistory) → slice_get histories x ≡ Some entries → any_length entries < 2 ^ 64
  short_at x entries there = omega (
    arith,
    each_long (λ i entries. history_lines script i entries) any_length
        (history_long script) 0 x histories entries there,
    parts_within,
    short,
  )

  pub small : (on : StrNo) → length_on histories on < 2 ^ 64
  small on = grind (arith, short_at)

  pub few_at : (c : ℕ) (transcript : Transcript) → slice_get reading.transcripts c ≡ Some transcript
      → length transcript.items < 2 ^ 64
  few_at c transcript there = omega (
    arith,
    each_long (λ i t. transcript_lines script i t) (λ t. length t.items)
        (λ n t. grind (arith, length-map)) 0 c reading.transcripts transcript there,
    parts_within,
    short,
  )
