-- Transcripts: a heading, and as many items as it tells.
use Rattle.std.proofs.Common.{◌≡◌, ◌⊎◌, inl, inr, ℕ, ◌+◌, ◌<◌, ◌^◌, List, [], ◌∷◌, length, map, replicate, codes, refl, sym, subst, ◌∙◌, arith}
use Rattle.plex_script.specs.Limits.{KeepsLimits}
use Rattle.plex_report.specs.Lines.{shown_line, transcript_lines}
use Rattle.plex_report.specs.Naming.{caller_name}
use Rattle.report_texts.specs.CheckModel.RunShown.PlexScript.declared.scripts.Script.{Script}
use Rattle.report_texts.specs.CheckModel.RunShown.PlexScript.declared.transcripts.AgentEnd.TheVariants as ended
use Rattle.report_texts.specs.CheckModel.RunShown.PlexScript.declared.transcripts.Shown.{Shown}
use Rattle.report_lines.specs.Readable.{IsItem}
use Rattle.report_fronts.specs.Slots.{Slot, Opens, transcript_slot}
use Rattle.report_fronts.specs.Slots.Slot.{Listed}
use Rattle.report_fronts.specs.Steps.{Reads}
use Rattle.report_fronts.proofs.ReportLaws.{heading_same}
use Rattle.report_fronts.proofs.StepLaws.{reads_on, stops_on}
use Rattle.report_read.specs.declared.cursor.Cursor.{Cursor}
use Rattle.report_read.specs.declared.cursor.TextBad.{TextBad}
use Rattle.report_read.specs.declared.cursor.TextBad.TheVariants as bad
use Rattle.report_read.specs.Lines.{at_of, IsCut}
use Rattle.report_read.specs.Reads.{IsRead, AreRead, IsStop}
use Rattle.report_read.specs.Transcripts.{IsTranscript, transcript_heading}
use Rattle.report_read.proofs.EntryLaws.{line_read, line_other}

-- ---- items

module _ (script : Script) (text : List ℕ) (from : Cursor) where
  pub item_read : (item : Shown) (line : List ℕ) (to : Cursor) → IsCut text from line to
      → (shown_line script item ≡ line) × IsItem script item
      → IsItem script item × IsRead script text from (Listed ∷ []) (shown_line script item ∷ []) [] to
  item_read item line to cut found =
      let same = subst (λ (l : List ℕ). IsCut text from l to) (sym found.0) cut in (
        found.1,
        line_read script text from to Listed (shown_line script item) [] same
            ((item, found.1, refl), refl),
      )

  pub item_other : (line : List ℕ) (to : Cursor) → KeepsLimits script → IsCut text from line to
      → ((item : Shown) → IsItem script item → shown_line script item ≡ line → ⊥)
      → IsStop script text from (Listed ∷ []) (bad.Line (from.count + 1))
  item_other line to keeps cut none = line_other script text from to Listed line keeps cut
      (λ left opens. none opens.0.0 opens.0.1 (sym opens.0.2))

-- ---- headings

module _ (script : Script) (number : ℕ) (line : List ℕ) where
  pub told_found : (n : ℕ) → n < 2 ^ 64 → (n ≡ 0) ⊎ (0 < length script.structures)
      → transcript_heading script number n ≡ line
      → Opens script (transcript_slot script number) line (replicate n Listed)
  told_found n small may is = (n, small, may, sym is, refl)

  pub told_none : ((n : ℕ) → n < 2 ^ 64 → transcript_heading script number n ≡ line → ⊥) → (left : List Slot)
      → Opens script (transcript_slot script number) line left → ⊥
  told_none none left opens = none opens.0 opens.1 (sym opens.3)

  pub told_many : (n : ℕ) → n < 2 ^ 64 → (n ≡ 0 → ⊥) → length script.structures ≡ 0
      → transcript_heading script number n ≡ line → (left : List Slot)
      → Opens script (transcript_slot script number) line left → ⊥
  told_many n small some few is left opens =
      let same = heading_same script (codes "TRANSCRIPT") (caller_name script number) n opens.0 small opens.1
      (is ∙ opens.3) in
      go opens.2 same
    where
      go : {m : ℕ} → (m ≡ 0) ⊎ (0 < length script.structures) → n ≡ m → ⊥
      go (inl none) same = some (same ∙ none)
      go (inr many) same = omega (arith, few, many)

-- ---- a heading with its items

module _ (script : Script) (number : ℕ) (text : List ℕ) (from : Cursor) where
  pub heading_read : (n : ℕ) (line : List ℕ) (to : Cursor) → IsCut text from line to
      → (transcript_heading script number n ≡ line)
      × Opens script (transcript_slot script number) line (replicate n Listed)
      → IsRead script text from (transcript_slot script number ∷ []) (transcript_heading script number n ∷ [])
      (replicate n Listed) to
  heading_read n line to cut found =
      subst (λ (l : List ℕ). IsRead script text from (transcript_slot script number ∷ []) (l ∷ []) (replicate n Listed) to)
      (sym found.0) (line_read script text from to (transcript_slot script number) line (replicate n Listed) cut found.1)

  pub transcript_read : (n : ℕ) (items : List Shown) (behind to : Cursor) → n < 2 ^ 64
      → IsRead script text from (transcript_slot script number ∷ []) (transcript_heading script number n ∷ [])
      (replicate n Listed) behind
      → AreRead script text behind Listed (shown_line script) (IsItem script) n items to
      → IsTranscript script (record { items = items; end = ended.Done })
      × IsRead script text from (transcript_slot script number ∷ [])
      (transcript_lines script number (record { items = items; end = ended.Done })) [] to
  transcript_read n items behind to small first then = (
    record {
      done = refl;
      count = subst (λ (k : ℕ). k < 2 ^ 64) (sym then.long) small;
      each = then.each;
    },
    record {
      reads = subst (λ (k : ℕ). Reads script text (at_of from) (transcript_slot script number ∷ []) (at_of to)
          (transcript_heading script number k ∷ map (shown_line script) items) []) (sym then.long)
          (reads_on script text (at_of from) (at_of behind) (at_of to) (transcript_slot script number ∷ [])
          (replicate n Listed) [] (transcript_heading script number n ∷ []) (map (shown_line script) items)
          first.reads then.read.reads);
      placed = then.read.placed;
    },
  )

  pub transcript_stop : (n : ℕ) (behind : Cursor) (why : TextBad)
      → IsRead script text from (transcript_slot script number ∷ []) (transcript_heading script number n ∷ [])
      (replicate n Listed) behind
      → IsStop script text behind (replicate n Listed) why
      → IsStop script text from (transcript_slot script number ∷ []) why
  transcript_stop n behind (bad.Line k) first stop = stops_on script text (at_of from) (at_of behind)
      (transcript_slot script number ∷ []) (replicate n Listed) (transcript_heading script number n ∷ []) k
      first.reads stop
  transcript_stop n behind (bad.NoMemory cause) first stop = tt
