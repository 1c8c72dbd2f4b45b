-- A load keeps the forms, the ranges and the limits of the language.
use Rattle.plex_load.proofs.Imports.{◌≡◌, ℕ, ◌+◌, ◌≤◌, ◌<◌, ◌==◌, ◌%◌, Bool, true, false, not, cond, List, [], ◌∷◌, ◌++◌, length, codes, get_or, refl, arith, All, decimal, nat_tests, All-nil, All-cons, get_or-map-range_with_len, Pref, Name16, IsForm, IsPref, IsPadded, Declared, is_term, Term, AreNames, AreWithin, words-within, Act, MayDo, class_in, line_tokens, AreFacilities, IsStructureIn, IsLineIn, KeepsLimits, named, letter, page, read, write, connect, work, own_line, load_facility, load_form, load_connectors, lines_of_first, load_script, Kind}
use Rattle.plex_load.proofs.{EachLine.each_line, TermLaws.letter_is_name, TermLaws.page_term, TermLaws.body_term}

-- ---- names

nobody : Declared
nobody = record { facilities = []; structures = []; connectors = [] }

padded_named : (word : List ℕ) → is_term word ≡ true → length word ≤ 16 → IsPadded (named word).0
padded_named word term short = (words-within nobody (Term (named word).0 ∷ []) (word ∷ []) [] (grind arith)).0

-- ---- the policy

one_set : (pref : Pref) → IsPref pref → All IsPref (pref ∷ [])
one_set pref is = All-cons IsPref pref [] is (All-nil IsPref)

facilities_kept : AreFacilities (load_facility ∷ [])
facilities_kept = grind (arith, one_set)

form_is : IsForm load_form
form_is = grind (arith, one_set)

structures_kept : All (IsStructureIn (load_facility ∷ [])) (load_form ∷ [])
structures_kept = grind (arith, All-cons, All-nil, form_is)

structure_names_kept : AreNames (load_form.name ∷ [])
structure_names_kept = grind (arith, All-cons, All-nil, words-within, nobody)

connector_at : (k : ℕ) (d : Name16) → k < 4 → get_or load_connectors k d ≡ named (letter k)
connector_at k d low = get_or-map-range_with_len (λ (c : ℕ). named (letter c)) 0 4 k k d low (omega arith)

connectors_kept : AreNames load_connectors
connectors_kept = grind (arith, connector_at, words-within, nobody, letter_is_name)

-- ---- lines

page_padded : (j : ℕ) → j < 64 → IsPadded (page j).0
page_padded j low =
    let text = page_term j (omega arith) in
    padded_named (codes "N" ++ decimal j) text.characters text.short

not_operator : (c : ℕ) → not (c + 1 == 0) ≡ true
not_operator c = grind (arith, nat_tests)

abbrev declared : Declared
declared = record {
  facilities = load_facility ∷ [];
  structures = load_form ∷ [];
  connectors = load_connectors;
}

-- what a connector may do at the structure, with values in their ranges
abbrev MayAct : ℕ → Act → Type 0
MayAct c done = MayDo (record { 0 = c + 1 }) Kind.Cache (class_in done) done 0
    × AreWithin declared (line_tokens (own_line c 0 done))

connect_allowed : (c : ℕ) → MayAct c connect
connect_allowed c = ((refl, (not_operator c, refl)), (tt, (tt, tt)))

test_allowed : (c j : ℕ) → j < 64 → MayAct c (Act.Test j)
test_allowed c j low = ((refl, not_operator c, refl, refl), (tt, ((omega arith, omega arith), tt)))

write_allowed : (c i j : ℕ) → c < 4 → i ≤ 1000 → j < 64 → MayAct c (write c i j)
write_allowed c i j few short low =
    let text = body_term c i few (omega arith) in (
      (refl, (not_operator c, refl)),
      (tt, (page_padded j low, ((omega arith, omega arith), (text, (tt, ((omega arith, omega arith), tt)))))),
    )

read_allowed : (c j : ℕ) → j < 64 → MayAct c (read j)
read_allowed c j low = ((refl, (not_operator c, refl)), (tt, (page_padded j low, ((omega arith, omega arith), tt))))

line_kept : (n c i : ℕ) (done : Act) → c < 4 → MayAct c done → IsLineIn (load_script n) (own_line c i done)
unfolding load_script
line_kept n c i done few may = record {
  form = load_form;
  known = refl;
  caller = omega arith;
  allowed = may.0;
  within = may.1;
}

work_allowed : (c i j : ℕ) → c < 4 → i ≤ 1000 → j < 64 → MayAct c (work c i j)
work_allowed c i j few short low = at_test (i % 4 == 0) (i % 4 == 1)
  where
    at_test : (a b : Bool) → MayAct c (cond a (Act.Test j) (cond b (write c i j) (read j)))
    at_test true b = test_allowed c j low
    at_test false true = write_allowed c i j few short low
    at_test false false = read_allowed c j low

lines_kept : (n : ℕ) → All (IsLineIn (load_script n)) (lines_of_first n 4)
lines_kept n = each_line (IsLineIn (load_script n))
    (λ c few. line_kept n c 0 connect few (connect_allowed c)) (grind (arith, line_kept, work_allowed)) n

pub load-keeps : (n : ℕ) → KeepsLimits (load_script n)
unfolding load_script
load-keeps n = grind (arith, facilities_kept, structures_kept, structure_names_kept, connectors_kept, lines_kept)
