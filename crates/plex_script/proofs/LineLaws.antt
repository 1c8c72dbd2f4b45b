-- Lines lead to one script, or are wrong, and not both.
use Rattle.plex_script.proofs.Imports.{or_from, not-true, ◌≡◌, ℕ, ◌+◌, Bool, true, false, not, List, [], ◌∷◌, ◌++◌, Option, Some, None, refl, sym, ap, ◌∙◌, arith, inl, inr, MatchBool, MatchOption, ConnId, StrNo, Kind, Names, words_of, Declared, Words, Why, Syntax, Limit, Unknown, Act, Script, SaysDone, declared_in, kind_of, is_long, is_comment, is_policy_word, caller_of, EmptyCause, PolicyCause, StrangeCause, NoStructureCause, DoneCause, CallerCause, LineCause, AddsDeclaration, AddsLine, AddsOfCaller, AddsWords, Adds, AddsAll, line_number}
use Rattle.plex_script.proofs.ActLaws.{act-complete}
use Rattle.plex_script.proofs.CauseLaws.{finds-one, Declares-one, SaysDone-limits, SaysDone-form, policy-read}

-- ---- one script

says-one : (declared : Declared) (by : ConnId) (kind : Kind) (ws : Words) (a b : Act) (m n : ℕ) → SaysDone
    Names declared by kind ws a m → SaysDone Names declared by kind ws b n → (let p : Act × ℕ = (a, m) in p) ≡ (b, n)
says-one declared by kind ws a b m n h k =
    finds-one _ _ _ (act-complete Names declared by kind ws a m h) (act-complete Names declared by kind ws b n k)

line-one : (script : Script) (at : ℕ) (by : ConnId) (on : StrNo) (ws : Words) (a b : Script)
    → AddsLine script at by on ws a → AddsLine script at by on ws b → a ≡ b
line-one script at by on ws a b h k =
    let one = says-one _ _ _ _ _ _ _ _ h.says k.says in
    let made : Act × ℕ → Script = λ p. record script {
      lines = script.lines ++ (record { at = at; by = by; on = on; act = p.0; retry = p.1 }) ∷ [];
    } in
    h.same ∙ ap made one ∙ sym k.same

declaration-one : (script : Script) (first : List ℕ) (ws : Words) (a b : Script) → AddsDeclaration script first ws a
    → AddsDeclaration script first ws b → a ≡ b
declaration-one script first ws a b h k = grind (arith, Declares-one)

caller-one : (script : Script) (at : ℕ) (by : ConnId) (ws : Words) (a b : Script) → AddsOfCaller script at by ws a
    → AddsOfCaller script at by ws b → a ≡ b
caller-one script at by [] a b h k = absurd h
caller-one script at by (second ∷ ws) a b h k = grind (arith, line-one)

words-one : (script : Script) (at : ℕ) (ws : Words) (a b : Script) → AddsWords script at ws a
    → AddsWords script at ws b → a ≡ b
words-one script at [] a b h k = h ∙ sym k
words-one script at (first ∷ ws) a b h k = grind (arith, by_tests)
  where
    by_tests : (c p : Bool) (o : Option ConnId) → MatchBool c (a ≡ script) (MatchBool
        p (AddsDeclaration script first (first ∷ ws) a) (MatchOption o ⊥ (λ by. AddsOfCaller script at by ws a)))
        → MatchBool c (b ≡ script) (MatchBool p (AddsDeclaration script first (first ∷ ws) b)
        (MatchOption o ⊥ (λ by. AddsOfCaller script at by ws b))) → a ≡ b
    by_tests true p o m n = m ∙ sym n
    by_tests false true o m n = declaration-one script first (first ∷ ws) a b m n
    by_tests false false None m n = absurd m
    by_tests false false (Some by) m n = caller-one script at by ws a b m n

pub adds-one : (script : Script) (at : ℕ) (line : List ℕ) (a b : Script) → Adds script at line a
    → Adds script at line b → a ≡ b
adds-one script at line a b h k = words-one script at (words_of line) a b h.1 k.1

pub all-one : (lines : List (List ℕ)) (script : Script) (count : ℕ) (a b : Script) → AddsAll script count lines a
    → AddsAll script count lines b → a ≡ b
all-one [] script count a b h k = h ∙ sym k
all-one (line ∷ lines) script count a b h k =
    let one = adds-one script (line_number (count + 1)) line h.0 k.0 h.1 k.1 in
    all-one lines h.0 (count + 1) a b h.2 (rw (← one) at k.2)

-- ---- not both

not_long : (b : Bool) → not b ≡ true → b ≡ true → ⊥
not_long b h k = grind arith

empty-clean : (long : Bool) (why : Why) → not long ≡ true → EmptyCause long why → ⊥
empty-clean long Limit h k = not_long long h k
empty-clean long why h k = k

done-clean : (declared : Declared) (long : Bool) (by : ConnId) (kind : Kind) (ws : Words) (act : Act) (retry : ℕ)
    (why : Why) → not long ≡ true
    → SaysDone Names declared by kind ws act retry → DoneCause declared long by kind ws why → ⊥
done-clean declared long by kind ws act retry Syntax short h k =
    k act retry (SaysDone-form declared by kind ws act retry (SaysDone-limits declared by kind ws act retry h))
done-clean declared long by kind ws act retry Limit short h (inl k) = not_long long short k
done-clean declared long by kind ws act retry Limit short h (inr k) = k act retry (grind (arith, SaysDone-limits))
done-clean declared long by kind ws act retry Unknown short h k = k act retry h
done-clean declared long by kind ws act retry why short h k = k

caller-clean : (script after : Script) (at : ℕ) (long : Bool) (by : ConnId) (ws : Words) (why : Why)
    → not long ≡ true → AddsOfCaller script at by ws after → CallerCause script long by ws why → ⊥
caller-clean script after at long by [] why short h k = absurd h
caller-clean script after at long by (second ∷ ws) why short h k = grind (arith, by_structure)
  where
    by_structure : (o : Option StrNo) → MatchOption o ⊥ (λ on. AddsLine script at by on ws after)
        → MatchOption o (NoStructureCause long second why) (λ on. DoneCause (declared_in script) long by
        (kind_of script.structures on) ws why) → ⊥
    by_structure None m n = m
    by_structure (Some on) m n = done-clean _ _ _ _ _ _ _ _ short m.says n

words-clean : (script after : Script) (at : ℕ) (long : Bool) (first : List ℕ) (ws : Words)
    (why : Why) (c p : Bool) (o : Option ConnId) → not long ≡ true → MatchBool c (after ≡ script) (MatchBool
    p (AddsDeclaration script first (first ∷ ws) after) (MatchOption o ⊥ (λ by. AddsOfCaller script at by ws after)))
    → MatchBool c (EmptyCause long why) (MatchBool p (PolicyCause script long first (first ∷ ws) why)
    (MatchOption o (StrangeCause script long first ws why) (λ by. CallerCause script long by ws why))) → ⊥
words-clean script after at long first ws why true p o short h k = empty-clean long why short k
words-clean script after at long first ws why false true o short h k =
    grind (arith, not-true, or_from, Declares-one, not_long, policy-read)
words-clean script after at long first ws why false false None short h k = h
words-clean script after at long first ws why false false (Some by) short h k = grind (arith, caller-clean)

pub line-clean : (script after : Script) (at : ℕ) (line : List ℕ) (why : Why) → Adds script at line after
    → LineCause script line why → ⊥
line-clean script after at line why h k = by_words (words_of line) refl
  where
    by_words : (ws : Words) → words_of line ≡ ws → ⊥
    by_words [] e = let cause : EmptyCause (is_long line) why = rw e at k in empty-clean (is_long line) why h.0 cause
    by_words (first ∷ ws) e =
        let adds : AddsWords script at (first ∷ ws) after = rw e at h.1 in
        let cause = rw e at k in
        words-clean script after at (is_long line) first ws why (is_comment first) (is_policy_word first)
        (caller_of script.connectors first) h.0 adds cause

pub all-clean : (front : List (List ℕ)) (line : List ℕ) (behind : List (List ℕ)) (script : Script)
    (count : ℕ) (before after : Script) (why : Why) → AddsAll script count (front ++ line ∷ behind) after
    → AddsAll script count front before → LineCause before line why → ⊥
all-clean [] line behind script count before after why h k cause = line-clean _ _ _ _ _ h.1 (rw k at cause)
all-clean (l ∷ front) line behind script count before after why h k cause =
    let one = adds-one script (line_number (count + 1)) l h.0 k.0 h.1 k.1 in
    all-clean front line behind h.0 (count + 1) before after why h.2 (rw (← one) at k.2) cause
