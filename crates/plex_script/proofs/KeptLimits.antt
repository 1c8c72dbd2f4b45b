-- Each script of a text keeps the limits.
use Rattle.plex_script.proofs.Imports.{not-true, ◌≡◌, ◌≢◌, ℕ, ◌+◌, ◌≤◌, ◌==◌, Bool, true, false, cond, List, [], ◌∷◌, ◌++◌, Option, Some, None, length, map, refl, sym, ap, arith, subst, slice_get, slice_set, get_or, All, list_any, sum_by, option_map_or, map-set_same, nat_tests, length-set, length_push, map-append, All-nil, All-push, All-set, All-weaker, list_any_at, list_any-append, all_pairs_push, sum_by-cons, sum_by-set, get_or_from_slice_get, slice_get_within, Name16, CfId, ConnId, StrNo, Pref as Set, StrForm, IsPref, IsForm, Names, same_word, is_declared, name_word, same_word-of, Words, IsNamed, AreNames, words-within, within-front, within-back, within-append, Declaration, Facility, Structure, Connector, Line, Script, act_tokens, retry_tokens, declaration_tokens, Declares, declared_in, has_lines, is_full, is_twice, is_too_much, facility_units, units_of, all_prefs, with_declaration, AddsDeclaration, AddsLine, IsScript, empty_script, AreFacilities, IsStructureIn, IsLineIn, KeepsLimits}
use Rattle.plex_script.specs.declared.declarations.Declaration.TheVariants.{Pref}
use Rattle.plex_script.proofs.FormLaws.{told-form, apart-new, form-with, no_lines, room_structures, room_connectors}
use Rattle.plex_script.proofs.PolicyPrinted.{units-append, prefs-append}
use Rattle.plex_script.proofs.TokensTold.{may-told, act-told}
use Rattle.plex_script.proofs.{FormedLines.kind-known, KeptAll.Known, KeptAll.script-keeps}

abbrev name_of : StrForm → Name16
name_of form = form.name

-- ---- names

names-push : (names : List Name16) (name : Name16) → AreNames names → IsNamed name
    → list_any (λ other. same_word (name_word other) (name_word name)) names ≡ false → AreNames (names ++ name ∷ [])
names-push names name h named new = (
  All-push IsNamed names name h.0 named,
  all_pairs_push (λ (one : Name16) other. one ≢ other) names name h.1 (grind (arith, same_word-of, list_any_at)),
)

any-map : {X Y : Type 0} (q : Y → Bool) (f : X → Y) (xs : List X) → list_any q (map f xs) ≡ list_any (λ x. q (f x)) xs
any-map q f [] = refl
any-map q f (x ∷ xs) = grind (arith, any-map q f xs)

-- ---- facilities

facilities-push : (facilities : List Set) (pref : Set) → AreFacilities facilities → IsPref pref
    → is_declared facilities pref.cf ≡ false → AreFacilities (facilities ++ pref ∷ [])
facilities-push facilities pref h is new = (
  All-push IsPref facilities pref h.0 is,
  all_pairs_push (λ (one : Set) other. one.cf.0 ≢ other.cf.0) facilities pref h.1 (grind (arith, apart-new)),
)

still-declared : (facilities : List Set) (pref : Set) (cf : CfId) → is_declared facilities cf ≡ true
    → is_declared (facilities ++ pref ∷ []) cf ≡ true
still-declared facilities pref cf h = grind (arith, list_any-append)

more-units : (facilities : List Set) (pref : Set) (cf : CfId)
    → facility_units facilities cf ≤ facility_units (facilities ++ pref ∷ []) cf
more-units [] pref cf = omega arith
more-units (facility ∷ facilities) pref cf = grind (arith, more-units facilities pref cf)

-- ---- units set aside

abbrev own : Set → CfId → ℕ
own pref cf = cond (pref.cf.0 == cf.0) pref.units 0

units-one : (pref : Set) (cf : CfId) → units_of (pref ∷ []) cf ≡ own pref cf
units-one pref cf = let e = sum_by-cons (λ (p : Set). own p cf) pref [] in omega (arith, e)

units-by : (structures : List StrForm) (cf : CfId)
    → units_of (all_prefs structures) cf ≡ sum_by (λ (form : StrForm). units_of form.prefs cf) structures
units-by [] cf = refl
units-by (form ∷ structures) cf =
    let one = units-append form.prefs (all_prefs structures) cf in
    let rest = units-by structures cf in
    let all = sum_by-cons (λ (f : StrForm). units_of f.prefs cf) form structures in
    omega (arith, one, rest, all)

same_cf : (one other : CfId) → one.0 ≡ other.0 → one ≡ other
same_cf one other e = ap (λ (n : ℕ). (let cf : CfId = record { 0 = n } in cf)) e

-- ---- lines

-- lines are those of each script that declares the same
line-same : (script after : Script) (line : Line) → after.structures ≡ script.structures → after.connectors
    ≡ script.connectors → after.facilities ≡ script.facilities → IsLineIn script line → IsLineIn after line
line-same script after line structures connectors facilities h = grind arith

-- ---- declarations

declared-keeps : (script : Script) (first : List ℕ) (ws : Words) (declaration : Declaration) → KeepsLimits script
    → has_lines script ≡ false → Declares Names (declared_in script) (first ∷ ws) declaration
    → is_full script first ≡ false → is_twice script declaration ≡ false → is_too_much script declaration ≡ false
    → KeepsLimits (with_declaration script declaration)
declared-keeps script first ws (Facility pref) h early told room new enough =
    grind (arith, words-within, All-weaker, still-declared, facilities-push, more-units, no_lines)
declared-keeps script first ws (Structure form) h early told room new enough =
    let within = words-within (declared_in script) (declaration_tokens (Structure form)) (first ∷ ws) [] told.spelled
    in
    let is : IsForm form = told-form (declared_in script) form.kind form refl told.whole.0 told.whole.1 within.1.1 in
    let bare = told.whole.0 in
    let in_script : IsStructureIn script.facilities form = grind (arith, All-nil) in
    let fresh : list_any (λ (other : Name16). same_word (name_word other) (name_word form.name))
    (map name_of script.structures) ≡ false = grind (arith, any-map) in
    let names = names-push (map name_of script.structures) form.name h.structure_names within.1.0 fresh in
    let none : (cf : CfId) → units_of (all_prefs (form ∷ [])) cf ≡ 0 = grind arith in
    record {
      facilities = h.facilities;
      few_structures = rw (length_push script.structures form) (room_structures script first told.spelled.0 room);
      structures = All-push (IsStructureIn script.facilities) script.structures form h.structures in_script;
      structure_names = subst AreNames (sym (map-append name_of script.structures (form ∷ []))) names;
      few_connectors = h.few_connectors;
      connectors = h.connectors;
      room = λ cf. omega (arith, h.room cf, prefs-append script.structures (form ∷ []) cf, none cf);
      lines = grind (arith, no_lines);
    }
declared-keeps script first ws (Pref on pref) h early told room new enough =
    let within = words-within (declared_in script) (declaration_tokens (Pref on pref)) (first ∷ ws) [] told.spelled in
    let is : IsPref pref = (within.1.1.0.0, within.1.1.1.0.0, within.1.1.1.0.1) in
    let known = within.1.1.0.1 in
    let fits : units_of (all_prefs script.structures) pref.cf + pref.units
    ≤ facility_units script.facilities pref.cf = grind (arith, nat_tests) in
    at_form is known fits (slice_get script.structures on.0) refl new
  where
    at_form : IsPref pref → is_declared script.facilities pref.cf ≡ true
        → units_of (all_prefs script.structures) pref.cf + pref.units ≤ facility_units script.facilities pref.cf
        → (o : Option StrForm) → slice_get script.structures on.0 ≡ o
        → option_map_or (λ (form : StrForm). is_declared form.prefs pref.cf) o false ≡ false → (let put : StrForm
        → List StrForm = λ form. slice_set script.structures on.0 (record form { prefs = form.prefs ++ pref ∷ [] }) in
        KeepsLimits (record script { structures = option_map_or put o script.structures }))
    at_form is known fits None e fresh = h
    at_form is known fits (Some form) e fresh =
        let more : StrForm = record form { prefs = form.prefs ++ pref ∷ [] } in
        let structures = slice_set script.structures on.0 more in
        let low = slice_get_within script.structures on.0 form e in
        let here : get_or script.structures on.0 form ≡ form = grind (arith, get_or_from_slice_get) in
        let in_script : IsStructureIn script.facilities form = grind arith in
        let more_in : IsStructureIn script.facilities more = record {
          formed = form-with form pref in_script.formed is fresh;
          declared = All-push (λ (p : Set). is_declared script.facilities p.cf
              ≡ true) form.prefs pref in_script.declared known;
        } in
        let names : map name_of structures ≡ map name_of script.structures = grind (arith, map-set_same) in
        record {
          facilities = h.facilities;
          few_structures = rw (length-set script.structures on.0 more) h.few_structures;
          structures = All-set (IsStructureIn script.facilities) script.structures on.0 more more_in h.structures;
          structure_names = subst AreNames (sym names) h.structure_names;
          few_connectors = h.few_connectors;
          connectors = h.connectors;
          room = grind (
            arith,
            nat_tests,
            same_cf,
            slice_get_within,
            get_or_from_slice_get,
            sum_by-set,
            units-by,
            units-append,
            units-one,
          );
          lines = grind (arith, no_lines);
        }
declared-keeps script first ws (Connector name) h early told room new enough =
    let within = words-within (declared_in script) (declaration_tokens (Connector name)) (first ∷ ws) [] told.spelled
    in
    record {
      facilities = h.facilities;
      few_structures = h.few_structures;
      structures = h.structures;
      structure_names = h.structure_names;
      few_connectors = rw (length_push script.connectors name) (room_connectors script first told.spelled.0 room);
      connectors = names-push script.connectors name h.connectors within.1.0 new;
      room = h.room;
      lines = grind (arith, no_lines);
    }

limits-declaration : (script : Script) (first : List ℕ) (ws : Words) (after : Script) → KeepsLimits script
    → AddsDeclaration script first (first ∷ ws) after → KeepsLimits after
limits-declaration script first ws after h adds = grind (arith, not-true, declared-keeps)

-- ---- a line of a caller

limits-line : (script : Script) (at : ℕ) (by : ConnId) (on : StrNo) (ws : Words) (after : Script) → KeepsLimits script
    → by.0 ≤ length script.connectors → Known script.structures on → AddsLine script at by on ws after
    → KeepsLimits after
limits-line script at by on ws after h caller known adds =
    let line : Line = record { at = at; by = by; on = on; act = adds.act; retry = adds.retry } in
    let next : Script = record script { lines = script.lines ++ line ∷ [] } in
    let declared = declared_in script in
    let acts = act_tokens adds.says.given adds.act in
    let retries = retry_tokens adds.retry in
    let within = words-within _ _ _ _ adds.says.spelled in
    let front = act-told _ _ _ _ _ _ adds.says.allowed (within-front declared acts retries within) in
    let is : IsLineIn next line = grind (arith, kind-known, may-told, within-append, within-back) in
    let others : All (IsLineIn next) script.lines = grind (arith, All-weaker, line-same) in
    let kept : KeepsLimits next = record {
      facilities = h.facilities;
      few_structures = h.few_structures;
      structures = h.structures;
      structure_names = h.structure_names;
      few_connectors = h.few_connectors;
      connectors = h.connectors;
      room = h.room;
      lines = All-push (IsLineIn next) script.lines line others is;
    } in
    subst KeepsLimits (sym adds.same) kept

-- ---- a text

empty-limits : KeepsLimits empty_script
empty-limits = grind (arith, All-nil)

pub script-limits : (text : List ℕ) (script : Script) → IsScript text script → KeepsLimits script
script-limits text script h = script-keeps KeepsLimits limits-declaration limits-line text script empty-limits h
