-- The printed lines of a policy declare it again.
use Rattle.plex_script.proofs.Imports.{◌≡◌, ℕ, ◌+◌, ◌<◌, ◌≤◌, ◌==◌, Bool, true, false, not, cond, nat_le, nat_lt, List, [], ◌∷◌, ◌++◌, length, map, get_or, Some, slice_get, codes, decimal, refl, sym, ap, ◌∙◌, arith, length-append, subst, All, lit<, list_any, flat_map, option_map_or, get_or-append_seam, set-append_seam, nat_tests, flat_map-append, get_or_append_left, get_or-map, length-map, list_any_none, sum_by-append, sum_by-cons, slice_get-get_or, CONNECTORS, Name16, CfId, StrNo, Kind, Pref as Set, StrForm, IsForm, IsPref, IsKind, IsVectorOf, same_word, line_of, form_tokens, Declared, name_word, is_declared, structure_of, same_word-refl, facility_word, plain_words, facility_line, form_line, pref_line, connector_line, structure_lines, IsNamed, AreNames, AreWithin, apart_words, HaveNames, position-seam, words-said, number-said, facility-said, name-said, connectors-named, AreGood, words-back, line-clear, IsRow, row-append, row-wider, words-good, name-good, number-good, facility-good, Facility, Structure, Connector, Script, IsVectorTold, declared_in, facility_units, units_of, all_prefs, with_pref, AddsWords, line_number, AreFacilities, IsStructureIn}
use Rattle.plex_script.specs.declared.declarations.Declaration.TheVariants.{Pref}
use Rattle.plex_script.proofs.Chains.{Leads, LeadsOne, leads-each, leads-blocks, leads-one}

abbrev policy : List Set → List StrForm → List Name16 → Script
policy facilities structures connectors =
    record { facilities = facilities; structures = structures; connectors = connectors; lines = [] }

-- ---- a line of good words

-- a line is made of these words, and not long
pub line-adds : (script after : Script) (count : ℕ) (words : List (List ℕ)) → AreGood words → length (line_of words)
    ≤ 8192 → AddsWords script (line_number (count + 1)) words after → LeadsOne script count (line_of words) after
line-adds script after count words good short adds = grind (arith, line-clear, words-back, nat_tests)

-- ---- facilities

fresh_cf : (front : List Set) (x : Set) (back : List Set) → AreFacilities (front ++ x ∷ back)
    → is_declared front x.cf ≡ false
fresh_cf front x back h = list_any_none (λ (facility : Set). facility.cf.0 == x.cf.0) front (λ k d low.
    let apart = h.1 k (length front) d low (omega (arith, length-append front (x ∷ back))) in
    grind (arith, get_or_append_left, get_or-append_seam, nat_tests))

pub element : {X : Type 0} (P : X → Type 0) (front : List X) (x : X) (back : List X) → All P (front ++ x ∷ back) → P x
element P front x back h = subst P (get_or-append_seam front x back x) (grind (arith, length-append))

not_false : (b : Bool) → b ≡ false → not b ≡ true
not_false b h = rw h refl

facility-adds : (front : List Set) (x : Set) (back : List Set) (count : ℕ) → AreFacilities (front ++ x ∷ back)
    → LeadsOne (policy front [] []) count (facility_line x) (policy (front ++ x ∷ []) [] [])
facility-adds front x back count h =
    let is : IsPref x = element IsPref front x back h.0 in
    let cf = facility-good x.cf is.0.1 in
    let units = number-good x.units (omega (arith, is.2)) in
    let words = codes "FACILITY" ∷ facility_word x.cf ∷ decimal x.units ∷ [] in
    let good : AreGood words = (refl, refl, (cf.some, cf.solid_all, (units.some, units.solid_all, tt))) in
    let short : length (line_of words) ≤ 8192 = grind (arith, length-append) in
    line-adds (policy front [] []) (policy (front ++ x ∷ []) [] []) count words good short (record {
      early = refl;
      declaration = Facility x;
      declares = grind (arith, facility-said, number-said, lit<);
      not_full = refl;
      once = not_false (is_declared front x.cf) (fresh_cf front x back h);
      within = refl;
      same = refl;
    })

pub facilities-add : (facilities : List Set) → AreFacilities facilities
    → Leads (policy [] [] []) 0 (map facility_line facilities) (policy facilities [] [])
facilities-add facilities h = leads-each (λ (front : List Set). policy front [] []) facility_line
    facilities 0 (λ front x back count e at. facility-adds front x back count (grind arith)) [] facilities 0 refl refl

-- ---- names

pub structures-named : (structures : List StrForm) → AreNames (map (λ (form : StrForm). form.name) structures)
    → HaveNames (λ (form : StrForm). form.name) structures
structures-named structures h =
    let name : StrForm → Name16 = λ form. form.name in
    let at : (k : ℕ) (d : StrForm) → k < length structures
    → get_or (map name structures) k (name d) ≡ name (get_or structures k d) = grind (arith, get_or-map) in
    record {
      named = λ k d low. subst IsNamed (at k d low) (h.0 k (name d) (omega (arith, low, length-map structures name)));
      apart = grind (arith, length-map);
    }

-- a name isn't one of those before it
fresh_name : {X : Type 0} (name : X → Name16) (front : List X) (x : X) (back : List X) → HaveNames name
    (front ++ x ∷ back) → list_any (λ other. same_word (name_word (name other)) (name_word (name x))) front ≡ false
fresh_name {X} name front x back h =
    list_any_none (λ (other : X). same_word (name_word (name other)) (name_word (name x))) front (λ k d low.
    let most : length front < length (front ++ x ∷ back) = omega (arith, length-append front (x ∷ back)) in
    let word = apart_words _ _ (h.named k d (omega (arith, low, most)))
    (h.named (length front) d most) (h.apart k (length front) d low most) in
    grind (arith, get_or_append_left, get_or-append_seam))

name_of_element : {X : Type 0} (name : X → Name16) (front : List X) (x : X) (back : List X)
    → HaveNames name (front ++ x ∷ back) → IsNamed (name x)
name_of_element name front x back h = element (λ y. IsNamed (name y)) front x back h.named

-- ---- forms of structures

form-row : (k : Kind) (form : StrForm) → IsRow 1000 (form_tokens k form)
form-row (Kind.List headers locks how) form = grind (arith, row-wider, row-append)
form-row k form = grind (arith, row-wider, row-append)

form-within : (declared : Declared) (k : Kind) (form : StrForm) → IsForm form → IsKind k → IsVectorOf k form.vector
    → AreWithin declared (form_tokens k form)
form-within declared (Kind.List headers locks how) form h is vector = grind arith
form-within declared k form h is vector = grind arith

vector-told : (k : Kind) (vector : ℕ) → IsVectorOf k vector → IsVectorTold k vector
vector-told k vector h = grind arith

abbrev with_prefs : StrForm → List Set → StrForm
with_prefs form prefs = record form { prefs = prefs }

same_tokens : (k : Kind) (form : StrForm) (prefs : List Set)
    → form_tokens k (with_prefs form prefs) ≡ form_tokens k form
same_tokens k form prefs = grind arith

room-left : (count most : ℕ) → count < most → nat_le most count ≡ false
room-left count most h = grind (arith, nat_tests)

no_names : AreNames []
no_names = (λ k d low. absurd (omega arith), λ j k d before low. absurd (omega arith))

form-adds : (facilities : List Set) (front : List StrForm) (form : StrForm) (back : List StrForm) (count : ℕ)
    → HaveNames (λ (f : StrForm). f.name) (front ++ form ∷ back) → length front < 16 → IsForm form → LeadsOne
    (policy facilities front []) count (form_line form) (policy facilities (front ++ with_prefs form [] ∷ []) [])
form-adds facilities front form back count names few h =
    let bare : StrForm = with_prefs form [] in
    let script = policy facilities front [] in
    let after = policy facilities (front ++ bare ∷ []) [] in
    let declared = declared_in script in
    let tokens = form_tokens form.kind form in
    let row = form-row form.kind form in
    let within = form-within declared form.kind form h h.kind h.vector in
    let named = name_of_element (λ (f : StrForm). f.name) front form back names in
    let name = name-good form.name named.0 in
    let told = words-said declared tokens no_names row.plain within in
    let fine = words-good declared tokens no_names row.plain within in
    let words = codes "STRUCTURE" ∷ name_word form.name ∷ plain_words [] [] tokens in
    let good : AreGood words = (refl, refl, (name.some, name.solid_all, fine.0)) in
    let short : length (line_of words) ≤ 8192 = grind (arith, length-append) in
    let full : nat_le 16 (length front) ≡ false = room-left (length front) 16 few in
    let fresh = fresh_name (λ (f : StrForm). f.name) front form back names in
    line-adds script after count words good short (record {
      early = refl;
      declaration = Structure bare;
      declares = grind (arith, vector-told, name-said, same_tokens);
      not_full = rw full refl;
      once = grind (arith, not_false);
      within = refl;
      same = refl;
    })

-- ---- units set aside

pub units-append : (xs ys : List Set) (cf : CfId) → units_of (xs ++ ys) cf ≡ units_of xs cf + units_of ys cf
units-append xs ys cf = sum_by-append (λ (pref : Set). cond (pref.cf.0 == cf.0) pref.units 0) xs ys

units-first : (pref : Set) (rest : List Set) → units_of (pref ∷ rest) pref.cf ≡ pref.units + units_of rest pref.cf
units-first pref rest = sum_by-cons (λ (p : Set). cond (p.cf.0 == pref.cf.0) p.units 0) pref rest
    ∙ ap (λ (n : ℕ). n + units_of rest pref.cf) (grind (arith, nat_tests))

pub prefs-append : (xs ys : List StrForm) (cf : CfId)
    → units_of (all_prefs (xs ++ ys)) cf ≡ units_of (all_prefs xs) cf + units_of (all_prefs ys) cf
prefs-append xs ys cf = grind (arith, flat_map-append, units-append)

-- one more stays within what all take
room-for : (front : List StrForm) (form : StrForm) (back : List StrForm) (done : List Set) (pref : Set)
    (rest : List Set) (units : ℕ) → done ++ pref ∷ rest ≡ form.prefs → units_of (all_prefs (front ++ form ∷ back))
    pref.cf ≤ units → units_of (all_prefs (front ++ with_prefs form done ∷ [])) pref.cf + pref.units ≤ units
room-for front form back done pref rest units e most = grind (arith, prefs-append, units-append, units-first)

slice_seam : (front : List StrForm) (form : StrForm) → slice_get (front ++ form ∷ []) (length front) ≡ Some form
slice_seam front form = slice_get-get_or (front ++ form ∷ []) (length front)
    form (omega (arith, length-append front (form ∷ []))) ∙ ap Some (get_or-append_seam front form [] form)

pref-adds : (facilities : List Set) (front : List StrForm) (form : StrForm) (back : List StrForm) (done : List Set)
    (pref : Set) (rest : List Set) (count : ℕ) → HaveNames (λ (f : StrForm). f.name) (front ++ form ∷ back)
    → IsStructureIn facilities form → done ++ pref ∷ rest ≡ form.prefs → units_of (all_prefs (front ++ form ∷ back))
    pref.cf ≤ facility_units facilities pref.cf → LeadsOne (policy facilities (front ++ with_prefs form done ∷ []) [])
    count (pref_line form pref) (policy facilities (front ++ with_prefs form (done ++ pref ∷ []) ∷ []) [])
pref-adds facilities front form back done pref rest count names h e room =
    let now = with_prefs form done in
    let more = with_prefs form (done ++ pref ∷ []) in
    let structures = front ++ now ∷ [] in
    let script = policy facilities structures [] in
    let after = policy facilities (front ++ more ∷ []) [] in
    let on : StrNo = record { 0 = length front } in
    let named = name_of_element (λ f. f.name) _ _ _ names in
    let prefs = subst AreFacilities (sym e) (h.formed.prefs, h.formed.apart) in
    let is = element IsPref done pref rest prefs.0 in
    let known : is_declared facilities pref.cf ≡ true = grind (arith, element) in
    let name = name-good _ named.0 in
    let cf = facility-good _ is.0.1 in
    let units = number-good pref.units (omega (arith, is.2)) in
    let words = codes "PREF" ∷ name_word form.name ∷ facility_word pref.cf ∷ decimal pref.units ∷ [] in
    let good : AreGood words = grind arith in
    let short : length (line_of words) ≤ 8192 = grind (arith, length-append) in
    let fresh = fresh_name (λ f. f.name) _ _ _ names in
    let is_it : StrForm → Bool = λ other. same_word (name_word other.name) (name_word form.name) in
    let numbered : ℕ → StrNo = λ place. (record { 0 = place }) in
    let place : structure_of structures (name_word form.name) ≡ Some on =
    grind (arith, position-seam, same_word-refl) in
    let here = slice_seam front now in
    let once = ap (λ o. option_map_or (λ f. is_declared f.prefs pref.cf) o false) here ∙ fresh_cf _ _ _ prefs in
    let set : with_pref structures on pref ≡ front ++ more ∷ [] = grind (arith, set-append_seam) in
    let enough = room-for front form back done pref rest (facility_units facilities pref.cf) e room in
    let within : nat_lt (facility_units facilities pref.cf) (units_of (all_prefs structures) pref.cf + pref.units)
    ≡ false = grind (arith, at_most) in
    line-adds script after count words good short (record {
      early = refl;
      declaration = Pref on pref;
      declares = grind (arith, name-said, facility-said, number-said, lit<);
      not_full = refl;
      once = not_false _ once;
      within = not_false _ within;
      same = ap (λ forms. policy facilities forms []) (sym set);
    })
  where
    at_most : (m n : ℕ) → n ≤ m → nat_lt m n ≡ false
    at_most m n h = grind (arith, nat_tests)

-- ---- structures, with where their instances may stand

structure-adds : (facilities : List Set) (front : List StrForm) (form : StrForm) (back : List StrForm) (count : ℕ)
    → HaveNames (λ (f : StrForm). f.name) (front ++ form ∷ back) → length front < 16 → IsStructureIn facilities form
    → ((cf : CfId) → units_of (all_prefs (front ++ form ∷ back)) cf ≤ facility_units facilities cf)
    → Leads (policy facilities front []) count (structure_lines form) (policy facilities (front ++ form ∷ []) [])
structure-adds facilities front form back count names few h room =
    let state : List Set → Script = λ done. policy facilities (front ++ with_prefs form done ∷ []) [] in
    leads-one _ _ _ _ _ _ (form-adds _ _ _ _ _ names few h.formed) (leads-each state (pref_line form)
    form.prefs (count + 1) (λ done pref rest n e at. pref-adds _ _ _ _ _ _ _ n names h e (room pref.cf))
    [] form.prefs (count + 1) refl (omega arith))

pub structures-add : (facilities : List Set) (structures : List StrForm) (count : ℕ) → AreNames
    (map (λ (form : StrForm). form.name) structures) → length structures ≤ 16 → All (IsStructureIn facilities)
    structures → ((cf : CfId) → units_of (all_prefs structures) cf ≤ facility_units facilities cf)
    → Leads (policy facilities [] []) count (flat_map structure_lines structures) (policy facilities structures [])
structures-add facilities structures count names few forms room =
    let named = structures-named structures names in
    leads-blocks (λ (front : List StrForm). policy facilities front []) structure_lines structures
    (λ front form back n e. structure-adds facilities front form back n (grind (arith, HaveNames)) (
    grind (arith, length-append)) (grind (arith, element)) (grind arith)) [] structures count refl

-- ---- connectors

connector-adds : (facilities : List Set) (structures : List StrForm) (front : List Name16)
    (name : Name16) (back : List Name16) (count : ℕ) → HaveNames (λ (n : Name16). n) (front ++ name ∷ back)
    → length front < CONNECTORS → LeadsOne (policy facilities structures front)
    count (connector_line name) (policy facilities structures (front ++ name ∷ []))
connector-adds facilities structures front name back count names few =
    let named = name_of_element (λ (n : Name16). n) front name back names in
    let word = name-good name named.0 in
    let words = codes "CONNECTOR" ∷ name_word name ∷ [] in
    let good : AreGood words = (refl, refl, (word.some, word.solid_all, tt)) in
    let short : length (line_of words) ≤ 8192 = grind (arith, length-append) in
    let full : nat_le CONNECTORS (length front) ≡ false = room-left (length front) CONNECTORS few in
    let fresh = fresh_name (λ (n : Name16). n) front name back names in
    line-adds (policy facilities structures front) (policy facilities structures (front ++ name ∷ []))
    count words good short (record {
      early = refl;
      declaration = Connector name;
      declares = record { whole = tt; spelled = (refl, ((name-said name named, named.0.1), refl)) };
      not_full = rw full refl;
      once = not_false (list_any (λ (other : Name16). same_word (name_word other) (name_word name)) front) fresh;
      within = refl;
      same = refl;
    })

pub connectors-add : (facilities : List Set) (structures : List StrForm) (connectors : List Name16) (count : ℕ)
    → AreNames connectors → length connectors ≤ CONNECTORS → Leads
    (policy facilities structures []) count (map connector_line connectors) (policy facilities structures connectors)
connectors-add facilities structures connectors count names few =
    let named = connectors-named connectors names in
    leads-each (λ (front : List Name16). policy facilities structures front) connector_line connectors
    count (λ front name back n e at. connector-adds facilities structures front name back n (grind (arith, HaveNames))
    (omega (arith, few, ap length e, length-append front (name ∷ back)))) [] connectors count refl (omega arith)
