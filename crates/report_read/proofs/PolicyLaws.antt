-- Lines that are to be just so, one after another.
use Rattle.std.proofs.Common.{◌≡◌, ℕ, zero, suc, ◌+◌, ◌≤◌, Bool, true, false, List, [], ◌∷◌, ◌++◌, length, map, take, drop, codes, Option, Some, None, option_map, slice_get, refl, sym, ap, subst, ◌∙◌, arith, append_assoc}
use Rattle.std.proofs.lemmas.Bool.{and_from, and_parts}
use Rattle.std.proofs.lemmas.Bool.Decides.{nat_tests}
use Rattle.std.proofs.lemmas.List.{map-append}
use Rattle.std.proofs.lemmas.Option.{slice_get_within}
use Rattle.plex_script.specs.PlexSpell.Words.{line_text, same_word}
use Rattle.plex_script.specs.PlexPlain.PolicyLines.{facility_line, connector_line}
use Rattle.plex_script.specs.Limits.{KeepsLimits}
use Rattle.plex_report.specs.Report.{by_number, report_lines, structures_lines}
use Rattle.report_texts.specs.CheckModel.RunShown.PlexScript.declared.scripts.Script.{Script}
use Rattle.report_fronts.specs.Slots.{Slot, policy_lines}
use Rattle.report_fronts.specs.Slots.Slot.{Exactly}
use Rattle.report_fronts.specs.Steps.{Reads, Stops}
use Rattle.report_fronts.proofs.StepLaws.{reads_none, reads_both, stops_above, stops_behind}
use Rattle.report_read.specs.declared.cursor.Cursor.{Cursor}
use Rattle.report_read.specs.declared.cursor.TextBad.{TextBad}
use Rattle.report_read.specs.declared.cursor.TextBad.TheVariants as bad
use Rattle.report_read.specs.Lines.{at_of, IsPlaced, IsCut}
use Rattle.report_read.specs.Reads.{IsRead, IsStop, AreFirstRead, exact_slots}
use Rattle.report_read.proofs.EntryLaws.{line_read, line_other}

-- ---- one line

same_is : (a b : List ℕ) → same_word a b ≡ true → a ≡ b
same_is [] [] h = refl
same_is [] (y ∷ b) h = absurd cc
same_is (x ∷ a) [] h = absurd cc
same_is (x ∷ a) (y ∷ b) h = grind (arith, same_is a b, nat_tests, and_parts)

is_same : (a b : List ℕ) → a ≡ b → same_word a b ≡ true
is_same [] b e = rw (← e) refl
is_same (x ∷ a) [] e = absurd cc
is_same (x ∷ a) (y ∷ b) e = grind (arith, is_same a b, nat_tests, and_from)

module _ (script : Script) (text : List ℕ) (from : Cursor) where
  pub exactly_read : (wanted line : List ℕ) (to : Cursor) → IsCut text from line to → same_word line wanted ≡ true
      → IsRead script text from (Exactly wanted ∷ []) (wanted ∷ []) [] to
  exactly_read wanted line to cut same =
      line_read script text from to (Exactly wanted) wanted []
      (subst (λ (l : List ℕ). IsCut text from l to) (same_is line wanted same) cut) (refl, refl)

  pub exactly_other : (wanted line : List ℕ) (to : Cursor) → KeepsLimits script → IsCut text from line to
      → same_word line wanted ≡ false → IsStop script text from (Exactly wanted ∷ []) (bad.Line (from.count + 1))
  exactly_other wanted line to keeps cut other =
      line_other script text from to (Exactly wanted) line keeps cut (λ left opens.
      absurd (differs (same_word line wanted) other (is_same line wanted opens.0)))
    where
      differs : (t : Bool) → t ≡ false → t ≡ true → ⊥
      differs false h g = cc
      differs true h g = cc

-- ---- the lines of a report that shows nothing

alone : (script : Script) → report_lines script [] [] ≡ policy_lines script ++ codes "END" ∷ []
alone script = parts (map facility_line (by_number script.facilities)) (structures_lines script)
    (map connector_line script.connectors) (codes "END" ∷ [])
  where
    parts : (a b c d : List (List ℕ)) → a ++ (b ++ (c ++ d)) ≡ (a ++ (b ++ c)) ++ d
    parts a b c d = grind (arith, append_assoc)

get_end : (f : List ℕ → List ℕ) (ls : List (List ℕ)) (e : List ℕ) (k : ℕ)
    → slice_get (map f (ls ++ e ∷ [])) k ≡ None → None ≡ option_map f (slice_get ls k)
get_end f [] e k none = refl
get_end f (l ∷ ls) e zero none = absurd cc
get_end f (l ∷ ls) e (suc k) none = get_end f ls e k none

get_last : (f : List ℕ → List ℕ) (ls : List (List ℕ)) (e : List ℕ) (k : ℕ)
    → slice_get (map f (ls ++ e ∷ [])) (k + 1) ≡ None → None ≡ option_map f (slice_get ls k)
get_last f [] e k none = refl
get_last f (l ∷ []) e zero none = absurd cc
get_last f (l ∷ m ∷ ls) e zero none = absurd cc
get_last f (l ∷ ls) e (suc k) none = get_last f ls e k (sym (next (map f (ls ++ e ∷ [])) k) ∙ none)
  where
    next : (xs : List (List ℕ)) (k : ℕ) → slice_get (f l ∷ xs) (suc k + 1) ≡ slice_get xs (k + 1)
    next xs k = let same : suc k + 1 ≡ suc (k + 1) = omega arith in rw same refl

get_here : (f : List ℕ → List ℕ) (ls : List (List ℕ)) (e : List ℕ) (k : ℕ) (w v : List ℕ)
    → slice_get (map f (ls ++ e ∷ [])) k ≡ Some w → slice_get (map f (ls ++ e ∷ [])) (k + 1) ≡ Some v
    → Some w ≡ option_map f (slice_get ls k)
get_here f [] e zero w v here next = absurd cc
get_here f [] e (suc k) w v here next = absurd cc
get_here f (l ∷ ls) e zero w v here next = sym here
get_here f (l ∷ ls) e (suc k) w v here next =
    get_here f ls e k w v here (sym (step (map f (ls ++ e ∷ [])) k) ∙ next)
  where
    step : (xs : List (List ℕ)) (k : ℕ) → slice_get (f l ∷ xs) (suc k + 1) ≡ slice_get xs (k + 1)
    step xs k = let same : suc k + 1 ≡ suc (k + 1) = omega arith in rw same refl

module _ (script : Script) (report : List (List ℕ)) (k : ℕ)
    (is : report ≡ map line_text (report_lines script [] [])) where
  told : (j : ℕ) → slice_get report j ≡ slice_get (map line_text (policy_lines script ++ codes "END" ∷ [])) j
  told j = ap (λ (ls : List (List ℕ)). slice_get ls j) (is ∙ ap (λ (ls : List (List ℕ)). map line_text ls) (alone script))

  pub policy_end : None ≡ slice_get report k → None ≡ option_map line_text (slice_get (policy_lines script) k)
  policy_end none = get_end line_text (policy_lines script) (codes "END") k (sym (told k) ∙ sym none)

  pub policy_last : None ≡ slice_get report (k + 1) → None ≡ option_map line_text (slice_get (policy_lines script) k)
  policy_last none = get_last line_text (policy_lines script) (codes "END") k (sym (told (k + 1)) ∙ sym none)

  pub policy_here : (w v : List ℕ) → Some w ≡ slice_get report k → Some v ≡ slice_get report (k + 1)
      → Some w ≡ option_map line_text (slice_get (policy_lines script) k)
  policy_here w v here next = get_here line_text (policy_lines script) (codes "END") k w v (sym (told k) ∙ sym here)
      (sym (told (k + 1)) ∙ sym next)

-- ---- so many of them

take_more : (ls : List (List ℕ)) (k : ℕ) (l : List ℕ) → slice_get ls k ≡ Some l → take (k + 1) ls ≡ take k ls ++ l ∷ []
take_more [] k l h = absurd cc
take_more (m ∷ ls) zero l h = grind arith
take_more (m ∷ ls) (suc k) l h = let same : suc k + 1 ≡ suc (k + 1) = omega arith in
    ap (λ (j : ℕ). take j (m ∷ ls)) same ∙ ap (λ (xs : List (List ℕ)). m ∷ xs) (take_more ls k l h)

split_at : (ls : List (List ℕ)) (k : ℕ) (l : List ℕ) → slice_get ls k ≡ Some l
    → ls ≡ take k ls ++ (l ∷ drop (k + 1) ls)
split_at [] k l h = absurd cc
split_at (m ∷ ls) zero l h = grind arith
split_at (m ∷ ls) (suc k) l h = let same : suc k + 1 ≡ suc (k + 1) = omega arith in
    ap (λ (xs : List (List ℕ)). m ∷ xs) (split_at ls k l h)
    ∙ ap (λ (j : ℕ). m ∷ (take k ls ++ (l ∷ drop j (m ∷ ls)))) (sym same)

take_all : (ls : List (List ℕ)) (k : ℕ) → k ≤ length ls → slice_get ls k ≡ None → take k ls ≡ ls
take_all [] zero few none = refl
take_all [] (suc k) few none = absurd (omega (arith, few))
take_all (m ∷ ls) zero few none = absurd cc
take_all (m ∷ ls) (suc k) few none = ap (λ (xs : List (List ℕ)). m ∷ xs) (take_all ls k (omega (arith, few)) none)

module _ (script : Script) (text : List ℕ) (from : Cursor) (wanted : List (List ℕ)) where
  pub first_none : IsPlaced text from → AreFirstRead script text from wanted 0 from
  first_none placed = record {
    few = omega arith;
    read = record { reads = reads_none script text (at_of from) []; placed = placed };
  }

  pub first_one : (k : ℕ) (line : List ℕ) (at to : Cursor) → AreFirstRead script text from wanted k at
      → slice_get wanted k ≡ Some line → IsRead script text at (Exactly line ∷ []) (line ∷ []) [] to
      → AreFirstRead script text from wanted (k + 1) to
  first_one k line at to before here read =
      let within = slice_get_within wanted k line here in
      record {
        few = omega (arith, within);
        read = record {
          reads = subst (λ (ls : List (List ℕ)). Reads script text (at_of from) (exact_slots ls) (at_of to) ls [])
              (sym (take_more wanted k line here))
              (subst (λ (ss : List Slot). Reads script text (at_of from) ss (at_of to) (take k wanted ++ line ∷ []) [])
              (sym (map-append (λ (l : List ℕ). Exactly l) (take k wanted) (line ∷ [])))
              (reads_both script text (at_of from) (at_of at) (at_of to) (exact_slots (take k wanted))
              (Exactly line ∷ []) (take k wanted) (line ∷ []) before.read.reads read.reads));
          placed = read.placed;
        };
      }

  pub first_all : (k : ℕ) (to : Cursor) → AreFirstRead script text from wanted k to → slice_get wanted k ≡ None
      → IsRead script text from (exact_slots wanted) wanted [] to
  first_all k to before none =
      subst (λ (ls : List (List ℕ)). IsRead script text from (exact_slots ls) ls [] to)
      (take_all wanted k before.few none) before.read

  pub first_stops : (k : ℕ) (line : List ℕ) (at : Cursor) (why : TextBad) → AreFirstRead script text from wanted k at
      → slice_get wanted k ≡ Some line → IsStop script text at (Exactly line ∷ []) why
      → IsStop script text from (exact_slots wanted) why
  first_stops k line at (bad.Line n) before here stop =
      subst (λ (ss : List Slot). Stops script text (at_of from) ss n)
      (sym (ap exact_slots (split_at wanted k line here)
      ∙ map-append (λ (l : List ℕ). Exactly l) (take k wanted) (line ∷ drop (k + 1) wanted)))
      (stops_behind script text (at_of from) (at_of at) (exact_slots (take k wanted))
      ((Exactly line ∷ []) ++ exact_slots (drop (k + 1) wanted)) (take k wanted) n before.read.reads
      (stops_above script text (at_of at) (Exactly line ∷ []) (exact_slots (drop (k + 1) wanted)) n stop))
  first_stops k line at (bad.NoMemory cause) before here stop = tt

-- ---- the policy, as its lines are made

module _ (script : Script) (text : List ℕ) (from : Cursor) where
  bare_none : (o : Option (List ℕ)) → None ≡ option_map line_text o → o ≡ None
  bare_none None e = refl
  bare_none (Some l) e = absurd cc

  bare_is : (o : Option (List ℕ)) (fed bare : List ℕ) → Some fed ≡ option_map line_text o
      → ((line : List ℕ) → fed ≡ line_text line → bare ≡ line) → o ≡ Some bare
  bare_is None fed bare e cut = absurd cc
  bare_is (Some l) fed bare e cut = let same = cut l (cc) in ap (λ (x : List ℕ). Some x) (sym same)

  pub policy_done : (k : ℕ) (to : Cursor) → AreFirstRead script text from (policy_lines script) k to
      → None ≡ option_map line_text (slice_get (policy_lines script) k)
      → IsRead script text from (exact_slots (policy_lines script)) (policy_lines script) [] to
  policy_done k to before none = first_all script text from (policy_lines script) k to before
      (bare_none (slice_get (policy_lines script) k) none)

  pub policy_goes_on : (k : ℕ) (fed bare : List ℕ) (at to : Cursor)
      → AreFirstRead script text from (policy_lines script) k at
      → Some fed ≡ option_map line_text (slice_get (policy_lines script) k)
      → ((line : List ℕ) → fed ≡ line_text line → bare ≡ line)
      → IsRead script text at (Exactly bare ∷ []) (bare ∷ []) [] to
      → AreFirstRead script text from (policy_lines script) (k + 1) to
  policy_goes_on k fed bare at to before here cut read =
      first_one script text from (policy_lines script) k bare at to before
      (bare_is (slice_get (policy_lines script) k) fed bare here cut) read

  pub policy_stops : (k : ℕ) (fed bare : List ℕ) (at : Cursor) (why : TextBad)
      → AreFirstRead script text from (policy_lines script) k at
      → Some fed ≡ option_map line_text (slice_get (policy_lines script) k)
      → ((line : List ℕ) → fed ≡ line_text line → bare ≡ line)
      → IsStop script text at (Exactly bare ∷ []) why
      → IsStop script text from (exact_slots (policy_lines script)) why
  policy_stops k fed bare at why before here cut stop =
      first_stops script text from (policy_lines script) k bare at why before
      (bare_is (slice_get (policy_lines script) k) fed bare here cut) stop
