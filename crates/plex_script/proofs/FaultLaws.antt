-- A text has one fault.
use Rattle.plex_script.proofs.Imports.{◌≡◌, ℕ, suc, ◌+◌, ◌==◌, List, [], ◌∷◌, ◌++◌, length, refl, sym, ap, subst, ◌∙◌, arith, nat_tests, Why, Late, Syntax, Limit, Unknown, Twice, Space, Script, IsFirst, IsCause, LineCause, rank, Adds, AddsAll, IsFault, line_number}
use Rattle.std.proofs.Common.{if◌then◌else◌}
use Rattle.plex_script.proofs.LineLaws.{adds-one, line-clean}

-- the cause that has a rank
abbrev why_at : ℕ → Why
why_at n = if n == 0 then Late else if n == 1 then Syntax else
    if n == 2 then Limit else if n == 3 then Unknown else if n == 4 then Twice else Space

why_at-rank : (why : Why) → why_at (rank why) ≡ why
why_at-rank Late = refl
why_at-rank why = refl

-- of some causes one is the first
first-one : (holds : Why → Type 0) (one other : Why) → IsFirst holds one → IsFirst holds other → one ≡ other
first-one holds one other f g = grind (arith, nat_tests, why_at-rank)

-- ---- the first line that is wrong

same_line : {line other : List ℕ} {lines others : List (List ℕ)} → line ∷ lines ≡ other ∷ others
    → (line ≡ other) × (lines ≡ others)
same_line e = (cc, cc)

-- no line that is wrong leads on
clean_line : (script next before : Script) (at : ℕ) (line other : List ℕ) (why : Why) → line ≡ other
    → before ≡ script → Adds script at line next → IsCause before other why → ⊥
clean_line script next before at line other why same is adds cause =
    let here : LineCause script line why = rw (same, sym is) cause.here in
    line-clean script next at line why adds here

-- after fronts of one text the lines that are wrong, with their causes, are the same
one-wrong : (front other : List (List ℕ)) (script : Script) (count : ℕ) (line line' : List ℕ)
    (behind behind' : List (List ℕ)) (before before' : Script) (why why' : Why) → front ++
    line ∷ behind ≡ other ++ line' ∷ behind' → AddsAll script count front before → AddsAll script count other before'
    → IsCause before line why → IsCause before' line' why' → (length front ≡ length other) × (why ≡ why')
one-wrong [] [] script count line line' behind behind' before before' why why' whole f g cause cause' =
    let here : IsCause script line why = subst (λ (s : Script). IsCause s line why) f cause in
    let there : IsCause script line why' = grind (arith, same_line) in
    (refl, first-one (LineCause script line) why why' here there)
one-wrong [] (l ∷ other) script count line line' behind behind' before before' why why' whole f g cause cause' =
    let same : l ≡ line = sym (same_line whole).0 in
    absurd (clean_line script g.0 before (line_number (count + 1)) l line why same f g.1 cause)
one-wrong (l ∷ front) [] script count line line' behind behind' before before' why why' whole f g cause cause' =
    let same : l ≡ line' = (same_line whole).0 in
    absurd (clean_line script f.0 before' (line_number (count + 1)) l line' why' same g f.1 cause')
one-wrong (l ∷ front) (m ∷ other) script count line line' behind behind' before before' why why' whole f g cause
    cause' =
    let same : l ≡ m = (same_line whole).0 in
    let adds : Adds script (line_number (count + 1)) l g.0 = rw same g.1 in
    let one : f.0 ≡ g.0 = adds-one script (line_number (count + 1)) l f.0 g.0 f.1 adds in
    let on : AddsAll f.0 (count + 1) other before' = rw one g.2 in
    let rest = one-wrong front other f.0 (count + 1) line line' behind behind' before before' why why'
    (same_line whole).1 f.2 on cause cause' in
    (ap (λ n. suc n) rest.0, rest.1)

-- a text has one fault
pub one-fault : (text : List ℕ) (number other : ℕ) (why why' : Why) → IsFault text number why
    → IsFault text other why' → (number ≡ other) × (why ≡ why')
one-fault text number other why why' f g =
    let one = one-wrong _ _ _ 0 _ _ _ _ _ _ _ _ (sym f.whole ∙ g.whole) f.fine g.fine f.cause g.cause in
    (f.here ∙ ap (λ n. line_number (n + 1)) one.0 ∙ sym g.here, one.1)
