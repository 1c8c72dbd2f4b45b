-- The printed lines of callers do the same again.
use Rattle.plex_script.proofs.Imports.{◌≡◌, ℕ, ◌+◌, ◌≤◌, ◌||◌, Bool, true, false, not, List, [], ◌∷◌, ◌++◌, length, map, Option, Some, slice_get, codes, refl, sym, ap, ◌∙◌, arith, zero, suc, length-append, subst, All, MatchBool, MatchOption, and_parts, nat_tests, get_or_from_slice_get, slice_get_within, Name16, ConnId, StrNo, StrForm, IsPadded, Shell, Content, same_word, line_of, name_word, is_name, structure_of, caller_name, structure_name, plain_words, AreNames, HaveNames, name-place, words-said, connector-said, AreGood, IsRow, row-append, words-good, name-good, caller-good, shell-row, alter-row, queue-row, lock-row, Act, Call, Line, Script, act_tokens, retry_tokens, declared_in, caller_of, is_comment, is_policy_word, line_number, AddsWords, AddsLine, class_in, line_tokens, body_line, numbered_behind, IsLineIn, AnyAsk}
use Rattle.plex_script.proofs.PolicyPrinted.{element, line-adds}
use Rattle.plex_script.proofs.{Chains.Leads, Chains.LeadsOne, Chains.leads-each, FormedLines.kind-known}

-- ---- the first word

no_comment : (word : List ℕ) → is_name word ≡ true → is_comment word ≡ false
no_comment word h = grind (arith, and_parts, nat_tests)

reserved : (op sys none_ a b c d : Bool) → not (op || (sys || (none_ || (a || (b || (c || (d || false))))))) ≡ true
    → (op ≡ false) × ((a || (b || (c || (d || false)))) ≡ false)
reserved false false false false false false false h = (refl, refl)
reserved op sys none_ a b c d h = absurd (cc)

no_policy : (word : List ℕ) → is_name word ≡ true
    → (same_word word (codes "OP") ≡ false) × (is_policy_word word ≡ false)
no_policy word h = grind (arith, reserved, and_parts)

-- the word names this caller
record Calls (connectors : List Name16) (word : List ℕ) (by : ConnId) : Type 0 where
  comment : is_comment word ≡ false
  policy_ : is_policy_word word ≡ false
  caller : caller_of connectors word ≡ Some by

calls : (connectors : List Name16) (n : ℕ) → AreNames connectors → n ≤ length connectors
    → Calls connectors (caller_name connectors n) (record { 0 = n })
calls connectors zero h most = record { comment = refl; policy_ = refl; caller = refl }
calls connectors (suc n) h most =
    let word = caller_name connectors (suc n) in
    let said = connector-said connectors (record { 0 = suc n }) h (omega arith) most in
    let apart = no_policy word said.0.0 in
    record { comment = no_comment word said.0.0; policy_ = apart.1; caller = rw apart.0 said.1 }

-- ---- the second word

structure-read : (structures : List StrForm) (on : StrNo) (form : StrForm) → HaveNames (λ (f : StrForm). f.name)
    structures → slice_get structures on.0 ≡ Some form → structure_of structures (name_word form.name) ≡ Some on
structure-read structures on form names known =
    let low = slice_get_within structures on.0 form known in
    let here = get_or_from_slice_get structures on.0 form form known in
    let place = name-place (λ (f : StrForm). f.name) structures on.0 form names low in grind arith

-- ---- what is done

act-row : (act : Act) → IsRow 6000 (act_tokens (class_in act) act)
act-row (Call (AnyAsk.Cache (Shell cmd))) = shell-row cmd
act-row (Call (AnyAsk.Cache (Content cmd))) = alter-row (class_in (Call (AnyAsk.Cache (Content cmd)))) cmd
act-row (Call (AnyAsk.List (Shell cmd))) = shell-row cmd
act-row (Call (AnyAsk.List (Content cmd))) = queue-row cmd
act-row (Call (AnyAsk.Lock (Shell cmd))) = shell-row cmd
act-row (Call (AnyAsk.Lock (Content cmd))) = lock-row cmd
act-row act = record { plain = refl; short = omega arith }

line-row : (line : Line) → IsRow 6130 (line_tokens line)
line-row line = row-append 6000
    130 (act_tokens (class_in line.act) line.act) (retry_tokens line.retry) (act-row line.act) (grind (arith, IsRow))

-- ---- a line

-- the tests for the sort of a line, passed
of_caller : (c p : Bool) (o : Option ConnId) (by : ConnId) (A B : Type 0) (F : ConnId → Type 0)
    → c ≡ false → p ≡ false → o ≡ Some by → F by → MatchBool c A (MatchBool p B (MatchOption o ⊥ F))
of_caller c p o by A B F comment policy_ caller f = rw (comment, policy_, caller) f

body-adds : (script : Script) (front : List Line) (line : Line) (count : ℕ) → AreNames script.connectors
    → HaveNames (λ (f : StrForm). f.name) script.structures → IsLineIn script line
    → LeadsOne (record script { lines = front }) count (body_line script line)
    (record script { lines = front ++ (record line { at = line_number (count + 1) }) ∷ [] })
body-adds script front line count names structures h =
    let state : Script = record script { lines = front } in
    let after : Script = record script { lines = front ++ (record line { at = line_number (count + 1) }) ∷ [] } in
    let declared = declared_in script in
    let tokens = line_tokens line in
    let row = line-row line in
    let told = words-said declared tokens names row.plain h.within in
    let fine = words-good declared tokens names row.plain h.within in
    let who = caller_name script.connectors line.by.0 in
    let where_ = structure_name script.structures line.on.0 in
    let named = structures.named line.on.0 h.form (slice_get_within script.structures line.on.0 h.form h.known) in
    let here = get_or_from_slice_get script.structures line.on.0 h.form h.form h.known in
    let is : where_ ≡ name_word h.form.name = grind arith in
    let caller = caller-good script.connectors line.by.0 names h.caller in
    let second = name-good h.form.name (subst (λ (f : StrForm). IsPadded f.name.0) here named.0) in
    let words = who ∷ name_word h.form.name ∷ plain_words [] script.connectors tokens in
    let good : AreGood words = (caller.some, caller.solid_all, (second.some, second.solid_all, fine.0)) in
    let short : length (line_of words) ≤ 8192 = grind (arith, length-append) in
    let read = calls script.connectors line.by.0 names h.caller in
    let on = structure-read script.structures line.on h.form structures h.known in
    let does : AddsLine state (line_number (count + 1)) line.by line.on
    (plain_words [] script.connectors tokens) after = grind (arith, kind-known) in
    let adds : AddsWords state (line_number (count + 1)) words after = grind (arith, of_caller) in
    let leads = line-adds state after count words good short adds in
    subst (λ (w : List ℕ). LeadsOne state count (line_of (who ∷ w ∷ plain_words [] script.connectors tokens)) after)
    (sym is) leads

-- ---- all lines

numbered-more : (base : ℕ) (front : List Line) (line : Line) → numbered_behind base (front ++ line ∷ [])
    ≡ numbered_behind base front ++ (record line { at = line_number (base + length front + 1) }) ∷ []
numbered-more base [] line = grind arith
numbered-more base (first ∷ front) line = grind (arith, numbered-more (base + 1) front line)

line-of-all : (P : Line → Type 0) (front : List Line) (line : Line) (back all : List Line)
    → front ++ line ∷ back ≡ all → All P all → P line
line-of-all P front line back all e h = element P front line back (subst (All P) (sym e) h)

pub lines-add : (script : Script) (base : ℕ) → AreNames script.connectors → HaveNames
    (λ (f : StrForm). f.name) script.structures → All (IsLineIn script) script.lines → Leads (record script {
      lines = [];
    }) base (map (body_line script) script.lines) (record script { lines = numbered_behind base script.lines })
lines-add script base names structures h =
    let with_lines : List Line → Script = λ ls. (record script { lines = ls }) in
    leads-each (λ front. with_lines (numbered_behind base front)) (body_line script) script.lines base
    (λ front line back count e at.
    let line_in = line-of-all (IsLineIn script) front line back script.lines e h in
    let leads = body-adds _ _ _ _ names structures line_in in
    let number : count + 1 ≡ base + length front + 1 = omega (arith, at) in
    let same = ap (λ n. (let l = record line { at = line_number n } in numbered_behind base front ++ l ∷ [])) number
    ∙ sym (numbered-more _ _ _) in
    subst (λ ls. LeadsOne (with_lines (numbered_behind base front))
    count (body_line script line) (with_lines ls)) same leads) [] script.lines base refl (omega arith)
