-- What a declaration adds to a script keeps it well formed.
use Rattle.plex_script.proofs.Imports.{or_parts, not-true, ◌≡◌, ◌≢◌, ℕ, ◌+◌, ◌≤◌, ◌<◌, false, List, [], ◌∷◌, ◌++◌, Option, Some, None, length, codes, refl, arith, slice_get, slice_set, get_or, All, option_map_or, nat_tests, length-set, length_push, All-nil, All-push, All-set, list_any_at, all_pairs_push, get_or_from_slice_get, slice_get_within, CONNECTORS, StrNo, Kind, Pref as Set, StrForm, IsPref, IsKind, IsVectorOf, IsForm, Names, Declared, is_declared, Words, Declaration, Facility, Structure, Connector, Line, Script, form_tokens, declaration_tokens, IsVectorTold, Declares, declared_in, has_lines, is_full, is_twice, has_pref, with_pref, with_declaration, AddsDeclaration, IsWellFormed, AreWithin, words-within}
use Rattle.plex_script.specs.declared.declarations.Declaration.TheVariants.{Pref}

-- ---- the form of a structure that a line declares

abbrev Within : ℕ → ℕ → Type 0
Within high n = (1 ≤ n) × (n ≤ high)

formed : (form : StrForm) → IsKind form.kind → Within 4096 form.caps.entries → Within 4096 form.caps.elements
    → Within CONNECTORS form.conns → IsVectorOf form.kind form.vector → form.prefs ≡ [] → IsForm form
formed form kind_ entries elements conns vector none = grind (arith, All-nil)

pub told-form : (declared : Declared) (k : Kind) (form : StrForm) → form.kind ≡ k → form.prefs ≡ []
    → IsVectorTold k form.vector → AreWithin declared (form_tokens k form) → IsForm form
told-form declared (Kind.List headers locks refs) form is none told h = grind (arith, formed)
told-form declared k form is none told h = grind (arith, formed)

-- ---- units that are set aside

pub known-form : (structures : List StrForm) (place : ℕ) (form : StrForm) → slice_get structures place ≡ Some form
    → All IsForm structures → IsForm form
known-form structures place form known forms = grind (arith, slice_get_within, get_or_from_slice_get)

pub apart-new : (prefs : List Set) (pref : Set) → is_declared prefs pref.cf ≡ false → (k : ℕ) (d : Set)
    → k < length prefs → (get_or prefs k d).cf.0 ≢ pref.cf.0
apart-new prefs pref new k d low same = grind (arith, nat_tests, list_any_at)

pub form-with : (form : StrForm) (pref : Set) → IsForm form → IsPref pref → is_declared form.prefs pref.cf ≡ false
    → IsForm (record form { prefs = form.prefs ++ pref ∷ [] })
form-with form pref h p new = record {
  kind = h.kind;
  caps = h.caps;
  some_conns = h.some_conns;
  most_conns = h.most_conns;
  vector = h.vector;
  prefs = All-push IsPref form.prefs pref h.prefs p;
  apart = all_pairs_push (λ (one : Set) other. one.cf.0 ≢ other.cf.0) form.prefs pref h.apart
      (λ k d low. apart-new form.prefs pref new k d low);
}

pref-keeps : (structures : List StrForm) (on : StrNo) (pref : Set) → IsPref pref
    → has_pref structures on pref.cf ≡ false → All IsForm structures
    → (length (with_pref structures on pref) ≡ length structures) × All IsForm (with_pref structures on pref)
pref-keeps structures on pref p new forms = at_form (slice_get structures on.0) refl new
  where
    at_form : (o : Option StrForm) → slice_get structures on.0 ≡ o
        → option_map_or (λ (form : StrForm). is_declared form.prefs pref.cf) o false ≡ false
        → (let more : StrForm → StrForm = λ form. (record form { prefs = form.prefs ++ pref ∷ [] }) in
        let put : StrForm → List StrForm = λ form. slice_set structures on.0 (more form) in
        let set : List StrForm = option_map_or put o structures in
        (length set ≡ length structures) × All IsForm set)
    at_form None known fresh = (refl, forms)
    at_form (Some form) known fresh =
        let more : StrForm = record form { prefs = form.prefs ++ pref ∷ [] } in
        let is : IsForm more = form-with form pref (known-form structures on.0 form known forms) p fresh in
        (length-set structures on.0 more, All-set IsForm structures on.0 more is forms)

-- ---- a declaration

pub no_lines : (P : Line → Type 0) (script after : Script) → has_lines script ≡ false → after.lines ≡ script.lines
    → All P after.lines
no_lines P script after early same = grind (arith, nat_tests)

pub room_structures : (script : Script) (first : List ℕ) → first ≡ codes "STRUCTURE" → is_full script first ≡ false
    → length script.structures + 1 ≤ 16
room_structures script first is h = grind (arith, or_parts, nat_tests)

pub room_connectors : (script : Script) (first : List ℕ) → first ≡ codes "CONNECTOR" → is_full script first ≡ false
    → length script.connectors + 1 ≤ CONNECTORS
room_connectors script first is h = grind (arith, nat_tests)

declared-keeps : (script : Script) (first : List ℕ) (ws : Words) (declaration : Declaration) → IsWellFormed script
    → has_lines script ≡ false → Declares Names (declared_in script) (first ∷ ws) declaration → is_full
    script first ≡ false → is_twice script declaration ≡ false → IsWellFormed (with_declaration script declaration)
declared-keeps script first ws (Facility pref) h early told room new = grind (arith, no_lines)
declared-keeps script first ws (Structure form) h early told room new =
    let bounds = words-within (declared_in script) (declaration_tokens (Structure form)) (first ∷ ws) [] told.spelled
    in
    let is : IsForm form = told-form (declared_in script) form.kind form refl told.whole.0 told.whole.1 bounds.1.1 in
    record {
      structures = rw (length_push script.structures form) (room_structures script first told.spelled.0 room);
      connectors = h.connectors;
      forms = All-push IsForm script.structures form h.forms is;
      lines = grind (arith, no_lines);
    }
declared-keeps script first ws (Pref on pref) h early told room new =
    grind (arith, words-within, pref-keeps, no_lines)
declared-keeps script first ws (Connector name) h early told room new =
    grind (arith, length_push, room_connectors, no_lines)

pub declaration-keeps : (script : Script) (first : List ℕ) (ws : Words) (after : Script) → IsWellFormed script
    → AddsDeclaration script first (first ∷ ws) after → IsWellFormed after
declaration-keeps script first ws after h adds = grind (arith, not-true, declared-keeps)
