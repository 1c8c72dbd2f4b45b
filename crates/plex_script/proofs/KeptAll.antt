-- What each line keeps, a text keeps.
use Rattle.plex_script.proofs.Imports.{◌≡◌, ℕ, ◌+◌, ◌≤◌, Bool, true, false, List, [], ◌∷◌, Option, Some, None, length, sym, ap, arith, subst, slice_get, get_or, MatchBool, MatchOption, position-Some, slice_get-get_or, ConnId, StrNo, StrForm, same_word, words_of, lines_of, structure_of, name_word, mapped, Words, connector-bounds, Script, caller_of, AddsDeclaration, AddsLine, AddsOfCaller, AddsWords, AddsAll, IsScript, empty_script, line_number, Kind}
use Rattle.std.specs.List.{position}

-- ---- who and where

abbrev any_form : StrForm
any_form = record {
  name = record { 0 = [] };
  kind = Kind.Cache;
  caps = record { entries = 0; elements = 0 };
  conns = 0;
  vector = 0;
  keep = false;
  prefs = [];
}

pub record Known (structures : List StrForm) (on : StrNo) : Type 0 where
  pub form : StrForm
  pub known : slice_get structures on.0 ≡ Some form

pub structure-known : (structures : List StrForm) (word : List ℕ) (on : StrNo)
    → structure_of structures word ≡ Some on → Known structures on
structure-known structures word on h =
    let named : StrForm → Bool = λ form. same_word (name_word form.name) word in
    let numbered : ℕ → StrNo = λ place. (record { 0 = place }) in
    let found = mapped numbered (position named structures) on h in
    let here = position-Some named structures found.value any_form found.read in
    let same : found.value ≡ on.0 = ap (λ (s : StrNo). s.0) found.made in
    record {
      form = get_or structures on.0 any_form;
      known = slice_get-get_or structures on.0 any_form (rw (← same) here.0);
    }

-- ---- lines

-- what a line of the policy keeps, and what a line of a caller
abbrev pub KeepsDeclaration : (Script → Type 0) → Type 0
KeepsDeclaration P = (script : Script) (first : List ℕ) (ws : Words) (after : Script) → P script
    → AddsDeclaration script first (first ∷ ws) after → P after

abbrev pub KeepsLine : (Script → Type 0) → Type 0
KeepsLine P = (script : Script) (at : ℕ) (by : ConnId) (on : StrNo) (ws : Words) (after : Script) → P script
    → by.0 ≤ length script.connectors → Known script.structures on → AddsLine script at by on ws after → P after

module _ (P : Script → Type 0) (declaration : KeepsDeclaration P) (line : KeepsLine P) where
  caller-keeps : (script : Script) (at : ℕ) (by : ConnId) (ws : Words) (after : Script) → P script
      → by.0 ≤ length script.connectors → AddsOfCaller script at by ws after → P after
  caller-keeps script at by [] after h caller adds = absurd adds
  caller-keeps script at by (second ∷ ws) after h caller adds = grind (arith, structure-known)

  words-keep : (script : Script) (at : ℕ) (ws : Words) (after : Script) → P script → AddsWords script at ws after
      → P after
  words-keep script at [] after h adds = subst P (sym adds) h
  words-keep script at (first ∷ ws) after h adds = grind (arith, by_tests)
    where
      by_tests : (c p : Bool) (o : Option ConnId) → caller_of script.connectors first ≡ o
          → MatchBool c (after ≡ script) (MatchBool p (AddsDeclaration script first (first ∷ ws) after)
          (MatchOption o ⊥ (λ by. AddsOfCaller script at by ws after))) → P after
      by_tests true p o e k = subst P (sym k) h
      by_tests false true o e k = declaration script first ws after h k
      by_tests false false None e k = absurd k
      by_tests false false (Some by) e k = grind (arith, caller-keeps, connector-bounds)

  lines-keep : (lines : List (List ℕ)) (script : Script) (count : ℕ) (after : Script) → P script
      → AddsAll script count lines after → P after
  lines-keep [] script count after h adds = subst P (sym adds) h
  lines-keep (one ∷ lines) script count after h adds =
      let next : P adds.0 = words-keep script (line_number (count + 1)) (words_of one) adds.0 h adds.1.1 in
      lines-keep lines adds.0 (count + 1) after next adds.2

  pub script-keeps : (text : List ℕ) (script : Script) → P empty_script → IsScript text script → P script
  script-keeps text script none h = lines-keep (lines_of text) empty_script 0 script none h
