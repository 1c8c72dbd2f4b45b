-- The callers of a script have words of their own.
use Rattle.run_laws.proofs.Imports.{◌≡◌, ◌≢◌, ℕ, zero, suc, ◌+◌, ◌-◌, ◌≤◌, ◌<◌, ◌==◌, Bool, true, false, not, cond, List, [], ◌∷◌, ◌++◌, length, Option, Some, None, codes, get_or, slice_get, refl, sym, ap, ◌∙◌, arith, MatchBool, MatchOption, list_any, and_parts, and_from, nat_tests, not-true, list_any_at, take_while-cons, slice_get-get_or, slice_get_within, get_or_from_slice_get, Name16, ConnId, block_of, text_in_block, pushed_cases, Names, same_word, words_of, is_name, name_word, same_word-of, Words, characters-term, term-name, Declaration, Script, declared_in, is_twice, Declares, AddsDeclaration, AddsOfCaller, AddsWords, AddsAll, IsScript, empty_script, line_number, with_declaration, caller_name, word-front}
use Rattle.plex_report.specs.PlexSpell.Words.{lines_of}
use Rattle.run_laws.proofs.Cuts.{is_free}

-- ---- the word of a name

free_passed : (x : ℕ) (xs : List ℕ) (b : Bool) → not (x == 32) ≡ b → is_free 32 xs ≡ true
    → is_free 32 (cond b (x ∷ xs) []) ≡ true
free_passed x xs b e h = grind (arith, and_from)

free_unpadded : (bytes : List ℕ) → is_free 32 (text_in_block bytes) ≡ true
free_unpadded [] = refl
free_unpadded (x ∷ bytes) = rw (take_while-cons (λ b. not (b == 32)) x bytes)
    (free_passed x (text_in_block bytes) (not (x == 32)) refl (free_unpadded bytes))

named_word : (name : Name16) (word : List ℕ) → is_name word ≡ true → name.0 ≡ block_of word → name_word name ≡ word
named_word name word named is = grind (arith, word-front, characters-term, term-name)

-- a name is no word of the script language
no_operator : (word : List ℕ) → is_name word ≡ true → word ≢ codes "OP"
no_operator word named same = grind (arith, and_parts)

no_system : (word : List ℕ) → is_name word ≡ true → word ≢ codes "SYS"
no_system word named same = grind (arith, and_parts)

-- the word of a caller that isn't the operator, nor that of the system, which tells marks
pub record IsOwn (word : List ℕ) : Type 0 where
  pub operator : word ≢ codes "OP"
  pub system : word ≢ codes "SYS"

-- ---- the names that are declared

pub record AreApart (names : List Name16) : Type 0 where
  pub named : (i : ℕ) (name : Name16) → slice_get names i ≡ Some name → IsOwn (name_word name)
  pub apart : (i j : ℕ) (a b : Name16) → slice_get names i ≡ Some a → slice_get names j ≡ Some b
      → name_word a ≡ name_word b → i ≡ j

no_names : AreApart []
no_names = grind arith

new_word : (names : List Name16) (name : Name16) → list_any (λ other. same_word (name_word other) (name_word name))
    names ≡ false → (i : ℕ) (other : Name16) → slice_get names i ≡ Some other → name_word other ≢ name_word name
new_word names name new i other e same =
    let here : get_or names i other ≡ other = get_or_from_slice_get names i other other e in
    let found : list_any (λ (o : Name16). same_word (name_word o) (name_word name)) names ≡ true =
    grind (arith, list_any_at, slice_get_within, same_word-of) in
    let wrong : true ≡ false = sym found ∙ new in
    absurd (cc)

one_more : (names : List Name16) (name : Name16) → AreApart names → IsOwn (name_word name)
    → list_any (λ other. same_word (name_word other) (name_word name)) names ≡ false → AreApart (names ++ name ∷ [])
one_more names name h named new = grind (arith, pushed_cases, new_word)

-- ---- texts

declared : (script : Script) (ws : Words) (made : Declaration) → Declares Names (declared_in script) ws made
    → is_twice script made ≡ false → AreApart script.connectors → AreApart (with_declaration script made).connectors
declared script ws (Declaration.Facility pref) says once h = h
declared script ws (Declaration.Structure form) says once h = h
declared script ws (Declaration.Pref on pref) says once h = h
declared script [] (Declaration.Connector name) says once h = absurd says.spelled
declared script (verb ∷ []) (Declaration.Connector name) says once h = absurd says.spelled.1
declared script (verb ∷ word ∷ ws) (Declaration.Connector name) says once h =
    grind (arith, named_word, one_more, no_operator, no_system)

of_caller : (script : Script) (at : ℕ) (by : ConnId) (ws : Words) (after : Script)
    → AddsOfCaller script at by ws after → AreApart script.connectors → AreApart after.connectors
of_caller script at by [] after adds h = absurd adds
of_caller script at by (second ∷ ws) after adds h = grind arith

of_words : (script : Script) (at : ℕ) (ws : Words) (after : Script) → AddsWords script at ws after
    → AreApart script.connectors → AreApart after.connectors
of_words script at [] after adds h = rw adds h
of_words script at (first ∷ ws) after adds h = grind (arith, by_tests)
  where
    by_tests : (c p : Bool) (o : Option ConnId)
        → MatchBool c (after ≡ script) (MatchBool p (AddsDeclaration script first (first ∷ ws) after)
        (MatchOption o ⊥ (λ by. AddsOfCaller script at by ws after))) → AreApart after.connectors
    by_tests true p o k = rw k h
    by_tests false true o k = grind (arith, declared, not-true)
    by_tests false false None k = absurd k
    by_tests false false (Some by) k = of_caller script at by ws after k h

of_lines : (lines : List (List ℕ)) (script : Script) (count : ℕ) (after : Script) → AddsAll script count lines after
    → AreApart script.connectors → AreApart after.connectors
of_lines [] script count after adds h = rw adds h
of_lines (line ∷ lines) script count after adds h = of_lines lines
    adds.0 (count + 1) after adds.2 (of_words script (line_number (count + 1)) (words_of line) adds.0 adds.1.1 h)

pub names_apart : (text : List ℕ) (script : Script) → IsScript text script → AreApart script.connectors
names_apart text script is = of_lines (lines_of text) empty_script 0 script is no_names

-- ---- callers

record At (script : Script) (k : ℕ) : Type 0 where
  name : Name16
  there : slice_get script.connectors k ≡ Some name
  word : caller_name script (suc k) ≡ name_word name

connector_at : (script : Script) (k : ℕ) → k < length script.connectors → At script k
connector_at script k within =
    let d : Name16 = record { 0 = [] } in
    let there = slice_get-get_or script.connectors k d within in
    let named : suc k == 0 ≡ false = grind (arith, nat_tests) in
    let back : suc k - 1 ≡ k = omega arith in
    record { name = get_or script.connectors k d; there = there; word = rw (named, back, there) refl }

pub free_caller : (script : Script) (n : ℕ) → n ≤ length script.connectors → is_free 32 (caller_name script n) ≡ true
free_caller script zero few = refl
free_caller script (suc k) few =
    let it = connector_at script k (omega (arith, few)) in ap (is_free 32) it.word ∙ free_unpadded it.name.0

-- callers with one word are one
pub same_caller : (script : Script) (a b : ℕ) → AreApart script.connectors → a ≤ length script.connectors
    → b ≤ length script.connectors → caller_name script a ≡ caller_name script b → a ≡ b
same_caller script zero zero h few_a few_b e = refl
same_caller script zero (suc k) h few_a few_b e =
    let it = connector_at script k (omega (arith, few_b)) in
    absurd ((h.named k it.name it.there).operator (sym it.word ∙ sym e))
same_caller script (suc j) zero h few_a few_b e =
    let it = connector_at script j (omega (arith, few_a)) in
    absurd ((h.named j it.name it.there).operator (sym it.word ∙ e))
same_caller script (suc j) (suc k) h few_a few_b e =
    let one = connector_at script j (omega (arith, few_a)) in
    let other = connector_at script k (omega (arith, few_b)) in
    ap suc (h.apart j k one.name other.name one.there other.there (sym one.word ∙ e ∙ other.word))

-- no caller has the system's word
pub not_system : (script : Script) (n : ℕ) → AreApart script.connectors → n ≤ length script.connectors
    → caller_name script n ≢ codes "SYS"
not_system script zero h few e = absurd cc
not_system script (suc k) h few e =
    let it = connector_at script k (omega (arith, few)) in
    absurd ((h.named k it.name it.there).system (sym it.word ∙ e))
