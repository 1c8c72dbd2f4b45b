-- Which texts are scripts, what they say, and the first fault of a text.
use Rattle.std.specs.Prelude.{◌≡◌, ℕ, ◌+◌, not, IsTrue, MatchBool, List, [], ◌∷◌, ◌++◌, length, min, slice_get, slice_set}
use Rattle.std.specs.Option.{MatchOption, option_map_or}
use Rattle.cf_types.specs.declared.numbers.ConnId.{ConnId}
use Rattle.cf_types.specs.declared.numbers.StrNo.{StrNo}
use Rattle.cf_types.specs.declared.forms.Pref.{Pref}
use Rattle.cf_types.specs.declared.forms.StrForm.{StrForm}
use Rattle.plex_plain.specs.PlexSpell.declared.rigour.Rigour.TheVariants.{Names}
use Rattle.plex_plain.specs.PlexSpell.Words.{lines_of, words_of}
use Rattle.plex_plain.specs.PlexSpell.Tokens.{structure_of}
use Rattle.plex_script.specs.declared.declarations.Declaration.{Declaration}
use Rattle.plex_script.specs.declared.declarations.Declaration.TheVariants as declaration
use Rattle.plex_script.specs.declared.faults.Why.{Why}
use Rattle.plex_script.specs.declared.scripts.Act.{Act}
use Rattle.plex_script.specs.declared.scripts.Script.{Script}
use Rattle.plex_script.specs.LineWords.{SaysDone}
use Rattle.plex_script.specs.PolicyWords.{Declares}
use Rattle.plex_script.specs.Causes.{declared_in, has_lines, kind_of, caller_of, is_long, is_comment, is_policy_word, is_full, is_twice, is_too_much, IsCause}

abbrev pub empty_script : Script
empty_script = record { facilities = []; structures = []; connectors = []; lines = [] }

-- units of a facility are set aside for a structure, behind those set aside before
abbrev pub with_pref : List StrForm → StrNo → Pref → List StrForm
with_pref structures on pref =
    option_map_or (λ (form : StrForm). slice_set structures on.0 (record form { prefs = form.prefs ++ pref ∷ [] }))
    (slice_get structures on.0) structures

abbrev pub with_declaration : Script → Declaration → Script
with_declaration script (declaration.Facility pref) = record script { facilities = script.facilities ++ pref ∷ [] }
with_declaration script (declaration.Structure form) = record script { structures = script.structures ++ form ∷ [] }
with_declaration script (declaration.Pref on pref) = record script {
  structures = with_pref script.structures on pref;
}
with_declaration script (declaration.Connector name) = record script { connectors = script.connectors ++ name ∷ [] }

-- a line of the policy adds what it declares
pub record AddsDeclaration (script : Script) (first : List ℕ) (words : List (List ℕ)) (after : Script) : Type 0 where
  pub early : IsTrue (not (has_lines script))
  pub declaration : Declaration
  pub declares : Declares Names (declared_in script) words declaration
  pub not_full : IsTrue (not (is_full script first))
  pub once : IsTrue (not (is_twice script declaration))
  pub within : IsTrue (not (is_too_much script declaration))
  pub same : after ≡ with_declaration script declaration

-- a line of a caller adds what it does
pub record AddsLine (script : Script) (at : ℕ) (by : ConnId) (on : StrNo) (words : List (List ℕ)) (after : Script) :
    Type 0 where
  pub act : Act
  pub retry : ℕ
  pub says : SaysDone Names (declared_in script) by (kind_of script.structures on) words act retry
  pub same : after ≡ record script {
    lines = script.lines
        ++ (record { at = at; by = by; on = on; act = act; retry = retry }) ∷ [];
  }

abbrev pub AddsOfCaller : Script → ℕ → ConnId → List (List ℕ) → Script → Type 0
AddsOfCaller script at by [] after = ⊥
AddsOfCaller script at by (second ∷ words) after =
    MatchOption (structure_of script.structures second) ⊥ (λ on. AddsLine script at by on words after)

-- the words of a line, the line with this number, lead from what stands before it to what stands behind it
abbrev pub AddsWords : Script → ℕ → List (List ℕ) → Script → Type 0
AddsWords script at [] after = after ≡ script
AddsWords script at (first ∷ words) after =
    MatchBool (is_comment first) (after ≡ script)
    (MatchBool (is_policy_word first) (AddsDeclaration script first (first ∷ words) after)
    (MatchOption (caller_of script.connectors first) ⊥ (λ by. AddsOfCaller script at by words after)))

abbrev pub Adds : Script → ℕ → List ℕ → Script → Type 0
Adds script at line after = IsTrue (not (is_long line)) × AddsWords script at (words_of line) after

-- the number of a line of 32 bits stands still at its greatest
abbrev pub line_number : ℕ → ℕ
line_number count = min count 4294967295

-- the lines behind so many others lead from one script to another
abbrev pub AddsAll : Script → ℕ → List (List ℕ) → Script → Type 0
AddsAll script count [] after = after ≡ script
AddsAll script count (line ∷ lines) after =
    (next : Script) × Adds script (line_number (count + 1)) line next × AddsAll next (count + 1) lines after

-- the text is a script, and says this
abbrev pub IsScript : List ℕ → Script → Type 0
IsScript text script = AddsAll empty_script 0 (lines_of text) script

-- the first faulty line of the text has this number, and this is wrong with it
pub record IsFault (text : List ℕ) (number : ℕ) (why : Why) : Type 0 where
  pub front : List (List ℕ)
  pub line : List ℕ
  pub behind : List (List ℕ)
  pub whole : lines_of text ≡ front ++ line ∷ behind
  pub before : Script
  pub fine : AddsAll empty_script 0 front before
  pub cause : IsCause before line why
  pub here : number ≡ line_number (length front + 1)
