-- The lines of a load have the numbers that they have in its text.
use Rattle.plex_load.proofs.Imports.{◌≡◌, ℕ, ◌+◌, ◌*◌, ◌≤◌, ◌<◌, zero, suc, List, [], ◌∷◌, ◌++◌, length, map, refl, sym, subst, arith, range_with_len, Line, numbered_behind, with_line_numbers, line_number, place_of, work_line, first_number, own_lines, lines_of_first, load_script}
use Rattle.plex_load.proofs.EachLine.{each-is, four_parts, length-connector}

-- each line has the number that it has behind so many others
abbrev AreNumbered : ℕ → List Line → Type 0
AreNumbered count [] = Unit {0}
AreNumbered count (line ∷ lines) = (line.at ≡ line_number (count + 1)) × AreNumbered (count + 1) lines

numbered_same : (count : ℕ) (lines : List Line) → AreNumbered count lines → numbered_behind count lines ≡ lines
numbered_same count [] h = refl
numbered_same count (line ∷ lines) h = grind (arith, numbered_same (count + 1) lines h.1)

numbered-append : (count behind : ℕ) (xs ys : List Line) → count + length xs ≡ behind → AreNumbered count xs
    → AreNumbered behind ys → AreNumbered count (xs ++ ys)
numbered-append count behind [] ys at h k = subst (λ (n : ℕ). AreNumbered n ys) (omega arith) k
numbered-append count behind (x ∷ xs) ys at h k = (h.0, numbered-append (count + 1) behind xs ys (omega arith) h.1 k)

numbered_works : (c x first count before : ℕ) → c < 4 → first + count ≤ 1001 → before + 1 ≡ place_of c first
    → AreNumbered before (map (work_line c x) (range_with_len first count))
numbered_works c x first zero before low short at = tt
numbered_works c x first (suc count) before low short at =
    grind (arith, numbered_works c x (first + 1) count (before + 1) low (omega arith) (omega arith))

numbered_all : (n : ℕ) → AreNumbered 7 (lines_of_first n 4)
numbered_all n =
    let long : (c : ℕ) → length (own_lines n c) ≡ 1001 = λ c. length-connector c (first_number n c) in
    let one : (c : ℕ) → c < 4 → AreNumbered (7 + 1001 * c) (own_lines n c) = grind (arith, numbered_works, each-is) in
    let last = numbered-append 3010 4011 (own_lines n 3) [] (omega (arith, long 3)) (one 3 (omega arith)) tt in
    let third = own_lines n 3 ++ [] in
    let second = own_lines n 2 ++ third in
    let first = own_lines n 1 ++ second in
    subst (AreNumbered 7) (sym (four_parts n)) (grind (arith, numbered-append))

pub load_numbered : (n : ℕ) → with_line_numbers (load_script n) ≡ load_script n
unfolding load_script
load_numbered n = grind (arith, numbered_same, numbered_all)
