-- A report is its policy, its histories and its transcripts, to the end of the text.
use Rattle.std.proofs.Common.{◌≡◌, ℕ, ◌+◌, ◌<◌, ◌≤◌, List, [], ◌∷◌, ◌++◌, length, map, drop, codes, refl, ap, ◌∙◌, arith, append_assoc, append-nil, length-drop}
use Rattle.std.specs.List.{flat_map}
use Rattle.plex_script.specs.PlexSpell.Words.{line_text}
use Rattle.plex_script.specs.PlexPlain.PolicyLines.{facility_line, connector_line}
use Rattle.plex_script.specs.Limits.{KeepsLimits}
use Rattle.plex_report.specs.Lines.{history_lines, transcript_lines}
use Rattle.plex_report.specs.Report.{by_number, lines_each, report_lines, structures_lines, histories_lines, transcripts_lines}
use Rattle.report_texts.specs.CheckModel.RunShown.PlexScript.declared.asks.AnyHistory.{AnyHistory}
use Rattle.report_texts.specs.CheckModel.RunShown.PlexScript.declared.scripts.Script.{Script}
use Rattle.report_texts.specs.CheckModel.RunShown.PlexScript.declared.transcripts.Transcript.{Transcript}
use Rattle.report_texts.specs.Readable.{AreReadable}
use Rattle.report_texts.specs.Texts.{IsReport}
use Rattle.report_fronts.specs.Slots.{Slot, policy_lines, history_slot, transcript_slot, slots_each, slots_from, caller_slots_from, end_slots, report_slots}
use Rattle.report_fronts.proofs.StepLaws.{starts}
use Rattle.report_fronts.proofs.TextLaws.{first_unread}
use Rattle.report_read.specs.declared.cursor.Cursor.{Cursor}
use Rattle.report_read.specs.declared.cursor.TextBad.{TextBad}
use Rattle.report_read.specs.declared.cursor.TextBad.TheVariants as bad
use Rattle.report_read.specs.Lines.{IsPlaced}
use Rattle.report_read.specs.Reads.{TellsLine, IsRead, AreEachRead, IsStop, exact_slots}
use Rattle.report_read.specs.Histories.{IsHistory}
use Rattle.report_read.specs.Transcripts.{IsTranscript}
use Rattle.report_read.specs.Wholes.{AreTranscripts, EndsWith, IsEndStop}
use Rattle.report_read.proofs.EntryLaws.{frees}

none_left : (text : List ℕ) (at : ℕ) → length text ≤ at → drop at text ≡ []
none_left text at past = empty (drop at text) (let e = length-drop at text in omega (arith, e, past))
  where
    empty : (xs : List ℕ) → length xs ≡ 0 → xs ≡ []
    empty [] e = refl
    empty (x ∷ xs) e = absurd (omega (arith, e))

some_left : (text : List ℕ) (at : ℕ) → at < length text → drop at text ≡ [] → ⊥
some_left text at low none =
    let e = length-drop at text in
    let n = ap length none in
    omega (arith, e, n, low)

module _ (script : Script) (text : List ℕ) (from : Cursor) where
  -- ---- the last line

  pub end_read : (to : Cursor) → IsRead script text from end_slots (codes "END" ∷ []) [] to
      → length text ≤ to.at → EndsWith script text from end_slots (codes "END" ∷ [])
  end_read to read past = λ before s.
      let e = read.reads before [] s in
      let lines = flat_map line_text (before ++ codes "END" ∷ []) in
      e.whole ∙ (ap (λ (t : List ℕ). lines ++ t) (none_left text to.at past) ∙ append-nil lines)

  pub end_more : (to : Cursor) → KeepsLimits script → IsRead script text from end_slots (codes "END" ∷ []) [] to
      → to.at < length text → IsEndStop script text from end_slots (bad.Line (to.count + 1))
  end_more to keeps read low = λ before s.
      let e = read.reads before [] s in
      first_unread script (frees script keeps) text to.at to.count (before ++ codes "END" ∷ []) [] e (record {
        line = λ line more next free is takes. takes;
        ends = λ is nothing. some_left text to.at low is;
      })

  pub end_stop : (why : TextBad) → IsStop script text from end_slots why → IsEndStop script text from end_slots why
  end_stop (bad.Line n) stop = λ before s. stop before [] s
  end_stop (bad.NoMemory cause) stop = tt

  -- ---- one after another

  ends_behind : (to : Cursor) (slots more : List Slot) (lines others : List (List ℕ))
      → IsRead script text from slots lines [] to → EndsWith script text to more others
      → EndsWith script text from (slots ++ more) (lines ++ others)
  ends_behind to slots more lines others read then = λ before s.
      then (before ++ lines) (read.reads before more s)
      ∙ ap (λ (ls : List (List ℕ)). flat_map line_text ls) (append_assoc before lines others)

  stops_behind : (to : Cursor) (slots more : List Slot) (lines : List (List ℕ)) (why : TextBad)
      → IsRead script text from slots lines [] to → IsEndStop script text to more why
      → IsEndStop script text from (slots ++ more) why
  stops_behind to slots more lines (bad.Line n) read stop = λ before s. stop (before ++ lines) (read.reads before more s)
  stops_behind to slots more lines (bad.NoMemory cause) read stop = tt

  stops_first : (slots more : List Slot) (why : TextBad) → IsStop script text from slots why
      → IsEndStop script text from (slots ++ more) why
  stops_first slots more (bad.Line n) stop = λ before s. stop before more s
  stops_first slots more (bad.NoMemory cause) stop = tt

  -- ---- behind the histories

  abbrev callers : ℕ
  callers = length script.connectors + 1

  abbrev AreRead : List Transcript → Cursor → Type 0
  AreRead transcripts to =
      AreEachRead script text from (transcript_slot script) (transcript_lines script) (λ x. IsTranscript script)
      callers transcripts to

  pub behind_stop : (why : TextBad) → IsStop script text from (slots_each (transcript_slot script) callers 0) why
      → IsEndStop script text from (caller_slots_from script callers 0) why
  behind_stop why stop = stops_first (slots_each (transcript_slot script) callers 0) end_slots why stop

  pub behind_end : (transcripts : List Transcript) (to : Cursor) (why : TextBad) → AreRead transcripts to
      → IsEndStop script text to end_slots why → IsEndStop script text from (caller_slots_from script callers 0) why
  behind_end transcripts to why read stop = stops_behind to (slots_each (transcript_slot script) callers 0) end_slots
      (lines_each (transcript_lines script) 0 transcripts) why read.read stop

  pub behind_read : (transcripts : List Transcript) (to : Cursor) → AreRead transcripts to
      → EndsWith script text to end_slots (codes "END" ∷ [])
      → AreTranscripts script transcripts × EndsWith script text from (caller_slots_from script callers 0)
      (transcripts_lines script transcripts ++ codes "END" ∷ [])
  behind_read transcripts to read then = (
    record { long = read.long; each = λ c transcript e. read.each c transcript e },
    ends_behind to (slots_each (transcript_slot script) callers 0) end_slots
        (lines_each (transcript_lines script) 0 transcripts) (codes "END" ∷ []) read.read then,
  )

-- ---- the whole

module _ (script : Script) (text : List ℕ) where
  abbrev start : Cursor
  start = record { at = 0; count = 0 }

  pub start_placed : IsPlaced text (record { at = 0; count = 0 })
  start_placed = record { within = omega arith; few = omega arith }

  tells : (why : TextBad) → IsEndStop script text start (report_slots script) why → TellsLine script text why
  tells (bad.Line n) stop = stop [] (starts script text)
  tells (bad.NoMemory cause) stop = tt

  abbrev ArePolicy : Cursor → Type 0
  ArePolicy to = IsRead script text start (exact_slots (policy_lines script)) (policy_lines script) [] to

  abbrev AreHistories : Cursor → List AnyHistory → Cursor → Type 0
  AreHistories from histories to =
      AreEachRead script text from (history_slot script) (history_lines script) (IsHistory script)
      (length script.structures) histories to

  abbrev count : ℕ
  count = length script.connectors + 1

  pub policy_stop : (why : TextBad) → IsStop script text start (exact_slots (policy_lines script)) why
      → TellsLine script text why
  policy_stop why stop = tells why (stops_first script text start (exact_slots (policy_lines script))
      (slots_from script (length script.structures) 0) why stop)

  pub histories_stop : (behind : Cursor) (why : TextBad) → ArePolicy behind
      → IsStop script text behind (slots_each (history_slot script) (length script.structures) 0) why
      → TellsLine script text why
  histories_stop behind why policy stop =
      tells why (stops_behind script text start behind (exact_slots (policy_lines script))
      (slots_from script (length script.structures) 0) (policy_lines script) why policy
      (stops_first script text behind (slots_each (history_slot script) (length script.structures) 0)
      (caller_slots_from script count 0) why stop))

  pub rest_stop : (behind to : Cursor) (histories : List AnyHistory) (why : TextBad) → ArePolicy behind
      → AreHistories behind histories to → IsEndStop script text to (caller_slots_from script count 0) why
      → TellsLine script text why
  rest_stop behind to histories why policy read stop =
      tells why (stops_behind script text start behind (exact_slots (policy_lines script))
      (slots_from script (length script.structures) 0) (policy_lines script) why policy
      (stops_behind script text behind to (slots_each (history_slot script) (length script.structures) 0)
      (caller_slots_from script count 0) (lines_each (history_lines script) 0 histories) why read.read stop))

  readable : (behind to : Cursor) (histories : List AnyHistory) (transcripts : List Transcript)
      → AreHistories behind histories to → AreTranscripts script transcripts
      → AreReadable script (record { histories = histories; transcripts = transcripts })
  readable behind to histories transcripts read told = record {
    structures = read.long;
    kinds = λ x form entries f e. (read.each x entries e).kind form f;
    counts = λ x entries e. (read.each x entries e).count;
    entries = λ x entries e. (read.each x entries e).each;
    callers = told.long;
    done = λ c transcript e. (told.each c transcript e).done;
    item_counts = λ c transcript e. (told.each c transcript e).count;
    items = λ c transcript e. (told.each c transcript e).each;
  }

  same_lines : (histories : List AnyHistory) (transcripts : List Transcript)
      → policy_lines script ++ (histories_lines script histories
      ++ (transcripts_lines script transcripts ++ codes "END" ∷ [])) ≡ report_lines script histories transcripts
  same_lines histories transcripts = parts (map facility_line (by_number script.facilities)) (structures_lines script)
      (map connector_line script.connectors)
      (histories_lines script histories ++ (transcripts_lines script transcripts ++ codes "END" ∷ []))
    where
      parts : (a b c d : List (List ℕ)) → (a ++ (b ++ c)) ++ d ≡ a ++ (b ++ (c ++ d))
      parts a b c d = grind (arith, append_assoc)

  pub report_read : (behind to : Cursor) (histories : List AnyHistory) (transcripts : List Transcript)
      → ArePolicy behind → AreHistories behind histories to → AreTranscripts script transcripts
      × EndsWith script text to (caller_slots_from script count 0)
      (transcripts_lines script transcripts ++ codes "END" ∷ [])
      → IsReport script text (record { histories = histories; transcripts = transcripts })
  report_read behind to histories transcripts policy read rest =
      let last = ends_behind script text behind to (slots_each (history_slot script) (length script.structures) 0)
      (caller_slots_from script count 0) (lines_each (history_lines script) 0 histories)
      (transcripts_lines script transcripts ++ codes "END" ∷ []) read.read rest.1 in
      let all = ends_behind script text start behind (exact_slots (policy_lines script))
      (slots_from script (length script.structures) 0) (policy_lines script)
      (lines_each (history_lines script) 0 histories ++ (transcripts_lines script transcripts ++ codes "END" ∷ []))
      policy last in (
        readable behind to histories transcripts read rest.0,
        all [] (starts script text)
            ∙ ap (λ (ls : List (List ℕ)). flat_map line_text ls) (same_lines histories transcripts),
      )
