-- A text makes one call, and the plain text of a call makes it.
use Rattle.std.proofs.Common.{◌≡◌, ℕ, ◌<◌, ◌≤◌, ◌&&◌, Bool, true, false, if◌then◌else◌, List, [], ◌∷◌, ◌++◌, Option, Some, None, length, codes, refl, sym, ap, ◌∙◌, arith, subst, inl, inr, length-append}
use Rattle.std.proofs.lemmas.Bool.{eq-eqb, false≢true, and_parts}
use Rattle.std.proofs.lemmas.Bool.Decides.{nat_tests}
use Rattle.std.proofs.lemmas.List.{append-nil}
use Rattle.cf_types.specs.declared.forms.Kind.{Kind}
use Rattle.cf_types.specs.declared.numbers.ConnId.{ConnId}
use Rattle.cf_types.specs.declared.numbers.StrNo.{StrNo}
use Rattle.cf_types.specs.declared.shell_commands.ShellCmd.TheVariants.{Next}
use Rattle.engine_api.specs.LinkAsks.{operator}
use Rattle.plex_spell.specs.Tokens.{Declared}
use Rattle.plex_spell.specs.Words.{same_word, words_of}
use Rattle.plex_spell.specs.ShellWords.{is_operator}
use Rattle.plex_spell.specs.declared.rigour.Rigour.TheVariants.{Names}
use Rattle.plex_spell.proofs.Choices.{word-same, same_word-of, not_some}
use Rattle.plex_script.specs.declared.scripts.AnyAsk.{AnyAsk}
use Rattle.plex_script.specs.declared.scripts.Script.{Script}
use Rattle.plex_script.specs.Agent.{shell_ask}
use Rattle.plex_script.specs.Causes.{declared_in, kind_of, is_long}
use Rattle.plex_script.specs.Commands.{MakesCommand, called_line, command_at, call_in}
use Rattle.plex_script.specs.LineReading.{act_at}
use Rattle.plex_script.proofs.CommandLaws.{call-read}
use Rattle.plex_spell.specs.Tokens.{Spells}
use Rattle.plex_spell.specs.Words.{line_of, tail_of}
use Rattle.plex_plain.specs.Naming.{caller_name, structure_name}
use Rattle.plex_plain.specs.PlainWords.{plain_words}
use Rattle.plex_plain.proofs.Rooms.{words-good, caller-good, name-good}
use Rattle.plex_plain.proofs.Said.{words-said}
use Rattle.plex_plain.proofs.Texts.{words-back}
use Rattle.plex_plain.proofs.Within.{words-within}
use Rattle.plex_script.proofs.Imports.{within-front}
use Rattle.plex_script.proofs.PolicyPrinted.{structures-named}
use Rattle.plex_script.proofs.TokensTold.{act-told, may-told}
use Rattle.plex_script.specs.declared.scripts.Act.TheVariants.{Call}
use Rattle.plex_script.specs.Limits.{KeepsLimits}
use Rattle.plex_script.specs.LineWords.{act_tokens, retry_tokens}
use Rattle.plex_script.specs.Printed.{class_in}
use Rattle.std.proofs.Common.{get_or}
use Rattle.report_lines.specs.Entries.{any_words, StandsAs}
use Rattle.report_lines.proofs.CallLaws.{call_tokens, call-row, call-words, call-good, next-words}
use Rattle.report_lines.proofs.ItemLaws.{known-name, first_form}
use Rattle.plex_script.proofs.Imports.{not-true}

-- no line says the operator's NEXT
none-next : (declared : Declared) (kind : Kind)
    → call_in (act_at Names declared operator kind (codes "NEXT" ∷ [])) ≡ None
none-next declared Kind.Cache = refl
none-next declared (Kind.List headers locks refs) = refl
none-next declared Kind.Lock = refl

zero_is : (by : ConnId) → is_operator by ≡ true → operator ≡ by
zero_is by h =
    let zero : by.0 ≡ 0 = grind (arith, nat_tests) in
    ap (λ (n : ℕ). (let conn : ConnId = record { 0 = n } in conn)) (sym zero)

both : {a b : Bool} → a ≡ true → b ≡ true → (a && b) ≡ true
both a_is b_is = rw (a_is, b_is) refl

module _ (script : Script) (on : StrNo) (by : ConnId) (text : List ℕ) where
  abbrev is_next : Bool
  is_next = is_operator by && same_word text (codes "NEXT")

  abbrev next : AnyAsk
  next = shell_ask (kind_of script.structures on) Next

  abbrev line_call : Option AnyAsk
  line_call = call_in (act_at Names (declared_in script) by (kind_of script.structures on) (words_of text))

  abbrev chosen_call : Bool → Bool → Option AnyAsk
  chosen_call n long = if n then Some next else if long then None else line_call

  not-said : is_next ≡ true → line_call ≡ None
  not-said n_is =
      let parts = and_parts (is_operator by) (same_word text (codes "NEXT")) n_is in
      let who = zero_is by parts.0 in
      let said = word-same text (codes "NEXT") parts.1 in
      let none = none-next (declared_in script) (kind_of script.structures on) in
      let here = subst (λ (b : ConnId). call_in (act_at Names (declared_in script) b (kind_of script.structures on)
      (codes "NEXT" ∷ [])) ≡ None) who none in
      subst (λ (t : List ℕ). call_in (act_at Names (declared_in script) by (kind_of script.structures on)
      (words_of t)) ≡ None) (sym said) here

  pub made-read : (asked : AnyAsk) → MakesCommand script on by text asked → command_at script on by text ≡ Some asked
  made-read asked makes = by_tests is_next (is_long (called_line script on by text)) refl refl makes
    where
      by_tests : (n long : Bool) → is_next ≡ n → is_long (called_line script on by text) ≡ long
          → MakesCommand script on by text asked → chosen_call n long ≡ Some asked
      by_tests true long n_is l_is (inl says) =
          not_some asked (sym (not-said n_is)
          ∙ call-read (declared_in script) by (kind_of script.structures on) (words_of text) asked says.0)
      by_tests true long n_is l_is (inr made) = ap (λ (a : AnyAsk). Some a) (sym made.2)
      by_tests false long n_is l_is (inr made) =
          absurd (false≢true (sym n_is ∙ both (eq-eqb by.0 0 made.0) (same_word-of text (codes "NEXT") made.1)))
      by_tests false true n_is l_is (inl says) = absurd (false≢true (sym (not-true _ says.1) ∙ l_is))
      by_tests false false n_is l_is (inl says) =
          call-read (declared_in script) by (kind_of script.structures on) (words_of text) asked says.0

  -- a text makes one call
  pub one-made : (one other : AnyAsk) → MakesCommand script on by text one → MakesCommand script on by text other
      → one ≡ other
  one-made one other h k =
      let a = made-read one h in
      let b = made-read other k in
      cc

-- ---- the plain text of a call makes it

line-short : (words : List (List ℕ)) → length (line_of words) ≤ length (tail_of words)
line-short [] = omega arith
line-short (word ∷ words) = omega arith

structure-short : (script : Script) (on : StrNo) → KeepsLimits script → on.0 < length script.structures
    → length (structure_name script.structures on.0) ≤ 64
structure-short script on keeps low =
    let names = structures-named script.structures keeps.structure_names in
    let d = first_form script.structures names script.structures on.0 low in
    let is = known-name script.structures names on.0 d low in
    let short = (name-good (get_or script.structures on.0 d).name (names.named on.0 d low).0).short in
    subst (λ (w : List ℕ). length w ≤ 64) (sym is) short

fits_a_line : (who where_ text : List ℕ) → length who ≤ 64 → length where_ ≤ 64 → length text ≤ 6000
    → is_long (who ++ 32 ∷ (where_ ++ 32 ∷ text)) ≡ false
fits_a_line who where_ text a b c =
    let short : length (who ++ 32 ∷ (where_ ++ 32 ∷ text)) ≤ 8192 =
    omega (arith, length-append who (32 ∷ (where_ ++ 32 ∷ text)), length-append where_ (32 ∷ text), a, b, c) in
    grind (arith, nat_tests)

module _ (script : Script) (on : StrNo) (keeps : KeepsLimits script) (low : on.0 < length script.structures)
    (by : ConnId) (few : by.0 ≤ length script.connectors) (text : List ℕ) (asked : AnyAsk) where
  pub plainly-made : MakesCommand script on by text asked
      → MakesCommand script on by (line_of (any_words script.connectors asked)) asked
  plainly-made (inl says) =
      let declared = declared_in script in
      let kind = kind_of script.structures on in
      let given = says.0.given in
      let tokens = call_tokens asked in
      let ws = any_words script.connectors asked in
      let bounds = words-within _ _ _ _ says.0.spelled in
      let front = within-front declared (act_tokens given (Call asked)) (retry_tokens 0) bounds in
      let within = act-told declared by kind given (Call asked) 0 says.0.allowed front in
      let row = call-row asked in
      let good = words-good declared tokens keeps.connectors row.plain within in
      let said = words-said declared tokens keeps.connectors row.plain within in
      let same : ws ≡ plain_words [] script.connectors tokens = call-words script.connectors asked in
      let back : words_of (line_of ws) ≡ ws = words-back ws (call-good script on keeps by text asked (inl says)) in
      let whole = subst (λ ts. Spells Names declared ts (plain_words [] script.connectors tokens) [])
      (sym (append-nil tokens)) said in
      let spelled = subst (λ (w : List (List ℕ)). Spells Names declared (tokens ++ []) w []) (sym (back ∙ same)) whole
      in
      let tail : length (tail_of ws) ≤ 6000 =
      subst (λ (w : List (List ℕ)). length (tail_of w) ≤ 6000) (sym same) (omega (arith, good.1, row.short)) in
      let short : length (line_of ws) ≤ 6000 = omega (arith, tail, line-short ws) in
      let fits = fits_a_line (caller_name script.connectors by.0) (structure_name script.structures on.0) (line_of ws)
      (caller-good script.connectors by.0 keeps.connectors few).short (structure-short script on keeps low) short in
      inl (
        record {
          given = class_in (Call asked);
          allowed = may-told by kind given (Call asked) 0 says.0.allowed;
          spelled = spelled;
        },
        rw fits refl,
      )
  plainly-made (inr made) =
      let kind = kind_of script.structures on in
      let same : any_words script.connectors asked ≡ codes "NEXT" ∷ [] =
      ap (any_words script.connectors) made.2 ∙ next-words script.connectors kind in
      inr (made.0, ap line_of same, made.2)

pub stands-line : (words : List (List ℕ)) (text : List ℕ) → tail_of words ≡ 32 ∷ text → line_of words ≡ text
stands-line [] text e = absurd (cc)
stands-line (word ∷ words) text e = cc

module _ (script : Script) (on : StrNo) (keeps : KeepsLimits script) (low : on.0 < length script.structures)
    (by : ConnId) (few : by.0 ≤ length script.connectors) (text other : List ℕ) (asked : AnyAsk)
    (makes : MakesCommand script on by other asked) (stands : StandsAs script.connectors asked text) where
  -- the text in which a call stands plainly makes the call
  pub made-plainly : MakesCommand script on by text asked
  made-plainly = subst (λ (t : List ℕ). MakesCommand script on by t asked)
      (stands-line (any_words script.connectors asked) text stands)
      (plainly-made script on keeps low by few other asked makes)

  pub no_call : ((a : AnyAsk) → MakesCommand script on by text a → ⊥) → ⊥
  no_call none = none asked made-plainly

  pub other_call : (read : AnyAsk) → MakesCommand script on by text read
      → same_word (tail_of (any_words script.connectors read)) (32 ∷ text) ≡ false → ⊥
  other_call read made differs =
      let same = one-made script on by text read asked made made-plainly in
      let so = subst (λ (a : AnyAsk). StandsAs script.connectors a text) (sym same) stands in
      false≢true (sym differs ∙ same_word-of (tail_of (any_words script.connectors read)) (32 ∷ text) so)
