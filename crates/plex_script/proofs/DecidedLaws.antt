-- Each line leads on, or has a cause.
use Rattle.plex_script.proofs.Imports.{not_from_false, ◌≡◌, ℕ, ◌+◌, ◌||◌, Bool, true, false, not, List, [], ◌∷◌, ◌++◌, length, nat_lt, Option, Some, None, IsTrue, refl, sym, ap, arith, inl, inr, ◌⊎◌, MatchBool, MatchOption, ConnId, StrNo, Names, words_of, lines_of, is_name, structure_of, Words, Declaration, Why, Late, Syntax, Limit, Unknown, Twice, Space, Act, Script, act_at, declaration_at, declared_in, kind_of, has_lines, is_full, is_twice, is_too_much, is_long, is_long_name, is_comment, is_policy_word, caller_of, EmptyCause, PolicyCause, StrangeCause, NoStructureCause, DoneCause, CallerCause, LineCause, IsFirst, strange_why, with_declaration, AddsDeclaration, AddsLine, AddsOfCaller, AddsWords, Adds, AddsAll, line_number, empty_script, IsScript, IsFault}
use Rattle.plex_script.proofs.CauseLaws.{Fits, fits-judged, limit-alone, syntax-alone, unknown-alone, policy-late, policy-unread, policy-twice, policy-space, adds-fits, done-unread}
use Rattle.plex_script.proofs.{ActLaws.act-sound}

-- this leads on, or that is the cause
abbrev Decided : (Script → Type 0) → (Why → Type 0) → Type 0
Decided leads cause = ((after : Script) × leads after) ⊎ ((why : Why) × IsFirst cause why)

turned : (leads more : Script → Type 0) (cause other : Why → Type 0) → ((after : Script) → leads after → more after)
    → ((w : Why) → cause w → other w) → ((w : Why) → other w → cause w) → Decided leads cause → Decided more other
turned leads more cause other f g h (inl d) = inl (d.0, f d.0 d.1)
turned leads more cause other f g h (inr d) = grind arith

-- ---- empty lines and strange words

-- the first of two tests that holds, and else Unknown
tested : (cause : Why → Type 0) (s l : Bool) → (s ≡ true → cause Syntax) → (cause Syntax → s ≡ true)
    → (l ≡ true → cause Limit) → (cause Limit → l ≡ true)
    → cause Unknown → (cause Late → ⊥) → IsFirst cause (strange_why s l)
tested cause true l s_to s_from l_to l_from unknown late = syntax-alone cause (s_to refl) late
tested cause false true s_to s_from l_to l_from unknown late = grind (arith, limit-alone)
tested cause false false s_to s_from l_to l_from unknown late = grind (arith, unknown-alone)

-- ---- policy lines

policy-decided : (script : Script) (long : Bool) (first : List ℕ) (ws : Words)
    → Decided (λ after. IsTrue (not long) × AddsDeclaration script first ws after) (PolicyCause script long first ws)
policy-decided script long first ws = grind (arith, by_tests)
  where
    by_checks : (d : Declaration) (t m : Bool) → has_lines script ≡ false → Fits script long first ws d
        → is_twice script d ≡ t → is_too_much script d ≡ m → Decided (λ after. IsTrue (not long)
        × AddsDeclaration script first ws after) (PolicyCause script long first ws)
    by_checks d true m early fits t_is m_is = inr (Twice, policy-twice script long first ws d early fits t_is)
    by_checks d false true early fits t_is m_is =
        inr (Space, policy-space script long first ws d early fits t_is m_is)
    by_checks d false false early fits t_is m_is = inl (
      with_declaration script d,
      adds-fits script (with_declaration script d) long first ws d early fits t_is m_is refl,
    )

    by_tests : (h e : Bool) (o : Option Declaration) → has_lines script ≡ h
        → (long || is_full script first) ≡ e → declaration_at Names (declared_in script) ws ≡ o → Decided
        (λ after. IsTrue (not long) × AddsDeclaration script first ws after) (PolicyCause script long first ws)
    by_tests true e o h_is e_is o_is = inr (Late, policy-late script long first ws h_is)
    by_tests false true o h_is e_is o_is = inr (_, policy-unread script long first ws h_is (λ x. absurd (cc)))
    by_tests false false None h_is e_is o_is = inr (_, policy-unread script long first ws h_is (λ x. o_is))
    by_tests false false (Some d) h_is e_is o_is = by_checks d (is_twice script d) (is_too_much script d) h_is
        (fits-judged script long first ws false d (sym e_is) (refl, o_is)) refl refl

-- ---- lines of callers

done-decided : (script : Script) (at : ℕ) (long : Bool) (by : ConnId) (on : StrNo) (ws : Words)
    → Decided (λ after. IsTrue (not long) × AddsLine script at by on ws after) (DoneCause (declared_in script) long by
    (kind_of script.structures on) ws)
done-decided script at long by on ws = grind (arith, by_tests)
  where
    by_tests : (l : Bool) (o : Option (Act × ℕ)) → long ≡ l → act_at Names (declared_in script)
        by (kind_of script.structures on) ws ≡ o → Decided (λ after. IsTrue (not long) × AddsLine
        script at by on ws after) (DoneCause (declared_in script) long by (kind_of script.structures on) ws)
    by_tests true o l_is o_is = inr (_, done-unread _ _ _ _ _ (λ x. absurd (cc)))
    by_tests false None l_is o_is = inr (_, done-unread _ _ _ _ _ (λ x. o_is))
    by_tests false (Some told) l_is o_is = inl (
      record script {
        lines = script.lines ++ (record { at = at; by = by; on = on; act = told.0; retry = told.1 }) ∷ [];
      },
      (grind (arith, not_from_false, act-sound)),
    )

caller-decided : (script : Script) (at : ℕ) (long : Bool) (by : ConnId) (ws : Words)
    → Decided (λ after. IsTrue (not long) × AddsOfCaller script at by ws after) (CallerCause script long by ws)
caller-decided script at long by [] = inr (Syntax, syntax-alone (CallerCause script long by []) tt (λ h. h))
caller-decided script at long by (second ∷ ws) = by_structure (structure_of script.structures second) refl
  where
    by_structure : (o : Option StrNo) → structure_of script.structures second ≡ o → Decided (λ after. IsTrue
        (not long) × AddsOfCaller script at by (second ∷ ws) after) (CallerCause script long by (second ∷ ws))
    by_structure None e = turned (λ after. ⊥) (λ after. IsTrue (not long) × AddsOfCaller script at by (second ∷ ws)
        after) (NoStructureCause long second) _ (λ after h. absurd h) (λ w h. rw e h) (λ w h. rw e at h) (inr (
          _,
          tested (NoStructureCause long second) (not (is_name second)) (long || is_long_name second)
              (λ h. h) (λ h. h) (λ h. h) (λ h. h) tt (λ h. h),
        ))
    by_structure (Some on) e = turned (λ after. IsTrue (not long) × AddsLine script at by on ws after)
        (λ after. IsTrue (not long) × AddsOfCaller script at by (second ∷ ws) after) _ _
        (λ after h. (h.0, rw e h.1)) (λ w h. rw e h) (λ w h. rw e at h) (done-decided _ at long by on ws)

-- ---- lines

empty-decided : (script : Script) (long : Bool) → Decided (λ after. IsTrue (not long) × (after ≡ script))
    (EmptyCause long)
empty-decided script true = inr (Limit, limit-alone (EmptyCause true) refl (λ h. h) (λ h. h))
empty-decided script false = inl (script, (refl, refl))

words-decided : (script : Script) (at : ℕ) (long : Bool) (first : List ℕ) (ws : Words) (c p : Bool)
    (o : Option ConnId) → Decided (λ after. IsTrue (not long) × MatchBool c (after ≡ script) (MatchBool
    p (AddsDeclaration script first (first ∷ ws) after) (MatchOption o ⊥ (λ by. AddsOfCaller script at by ws after))))
    (λ why. MatchBool c (EmptyCause long why) (MatchBool p (PolicyCause script long first (first ∷ ws) why)
    (MatchOption o (StrangeCause script long first ws why) (λ by. CallerCause script long by ws why))))
words-decided script at long first ws true p o = empty-decided script long
words-decided script at long first ws false true o = policy-decided script long first (first ∷ ws)
words-decided script at long first ws false false None =
    let s = not (is_name first) || nat_lt (length ws) 2 || not (has_lines script) in
    let l = long || is_long_name first in
    inr (
      strange_why s l,
      tested (StrangeCause script long first ws) s l (λ h. h) (λ h. h) (λ h. h) (λ h. h) tt (λ h. h),
    )
words-decided script at long first ws false false (Some by) = caller-decided script at long by ws

line-decided : (script : Script) (at : ℕ) (line : List ℕ) → Decided (λ after. Adds script at line after)
    (LineCause script line)
line-decided script at line = by_words (words_of line) refl
  where
    by_words : (ws : Words) → words_of line ≡ ws → Decided (λ after. Adds script at line after)
        (LineCause script line)
    by_words [] e = turned (λ after. IsTrue (not (is_long line)) × (after ≡ script)) (λ after. Adds script
        at line after) _ _ (λ after h. (h.0, rw e h.1)) (λ w h. rw e h) (λ w h. rw e at h) (empty-decided _ _)
    by_words (first ∷ ws) e = turned (λ after. IsTrue (not (is_long line)) × AddsWords script at (first ∷ ws) after)
        (λ after. Adds script at line after)
        (λ why. MatchBool (is_comment first) (EmptyCause (is_long line) why) (MatchBool (is_policy_word first)
        (PolicyCause script (is_long line) first (first ∷ ws) why) (MatchOption (caller_of script.connectors first)
        (StrangeCause script (is_long line) first ws why) (λ by. CallerCause script (is_long line) by ws why))))
        _ (λ after h. (h.0, rw e h.1)) (λ w h. rw e h) (λ w h. rw e at h) (words-decided _
        at (is_long line) first ws (is_comment first) (is_policy_word first) (caller_of script.connectors first))

-- ---- texts

-- lines behind so many others lead on to a script, or one is the first that is wrong
pub record Stops (script : Script) (count : ℕ) (lines : List (List ℕ)) : Type 0 where
  pub front : List (List ℕ)
  pub line : List ℕ
  pub behind : List (List ℕ)
  pub whole : lines ≡ front ++ line ∷ behind
  pub before : Script
  pub fine : AddsAll script count front before
  pub why : Why
  pub cause : IsFirst (LineCause before line) why

pub all-decided : (lines : List (List ℕ)) (script : Script) (count : ℕ)
    → ((after : Script) × AddsAll script count lines after) ⊎ Stops script count lines
all-decided [] script count = inl (script, refl)
all-decided (line ∷ lines) script count = at_line (line-decided _ _ _) (λ next. all-decided lines next (count + 1))
  where
    at_more : (next : Script) → Adds script (line_number (count + 1)) line next
        → ((after : Script) × AddsAll next (count + 1) lines after) ⊎ Stops next (count + 1) lines
        → ((after : Script) × AddsAll script count (line ∷ lines) after) ⊎ Stops script count (line ∷ lines)
    at_more next adds (inl d) = inl (d.0, (next, adds, d.1))
    at_more next adds (inr s) = inr (record {
      front = line ∷ s.front;
      line = s.line;
      behind = s.behind;
      whole = ap (λ ls. line ∷ ls) s.whole;
      before = s.before;
      fine = (next, adds, s.fine);
      why = s.why;
      cause = s.cause;
    })

    at_line : Decided (λ after. Adds script (line_number (count + 1)) line after) (LineCause script line)
        → ((next : Script) → ((after : Script) × AddsAll next (count + 1) lines after) ⊎ Stops next (count + 1) lines)
        → ((after : Script) × AddsAll script count (line ∷ lines) after) ⊎ Stops script count (line ∷ lines)
    at_line (inl d) more = at_more d.0 d.1 (more d.0)
    at_line (inr d) more = inr (record {
      front = [];
      line = line;
      behind = lines;
      whole = refl;
      before = script;
      fine = refl;
      why = d.0;
      cause = d.1;
    })

pub text-decided : (text : List ℕ) → ((script : Script) × IsScript text script) ⊎ ((number : ℕ) × (why : Why)
    × IsFault text number why)
text-decided text = told (all-decided (lines_of text) empty_script 0)
  where
    told : ((after : Script) × AddsAll empty_script 0 (lines_of text) after) ⊎ Stops empty_script 0 (lines_of text)
        → ((script : Script) × IsScript text script) ⊎ ((number : ℕ) × (why : Why) × IsFault text number why)
    told (inl d) = inl d
    told (inr s) = inr (line_number (length s.front + 1), s.why, grind arith)
