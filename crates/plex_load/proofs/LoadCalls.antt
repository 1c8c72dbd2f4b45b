-- How many calls the lines of a load make.
use Rattle.plex_load.proofs.Imports.{◌≡◌, ℕ, ◌+◌, ◌*◌, ◌%◌, ◌≤◌, ◌==◌, zero, suc, Bool, true, false, cond, map, refl, ap, ◌∙◌, arith, range_with_len, nat_tests, sum_by-map-range_with_len_more, sum_by-append, sum_by-cons, StrNo, first_step, most_asks, work, work_line, lines_of_first, load_script, asks_on, asks_of}
use Rattle.std.specs.List.{sum_by}
use Rattle.plex_load.proofs.EachLine.{each-is, four_parts}

-- a test asks nothing, and any other line behind CONNECT asks once
asks_work : (c i j : ℕ) → most_asks (first_step (work c i j) 0) ≡ cond (i % 4 == 0) 0 1
asks_work c i j = grind arith

three_more : (b : Bool) (k next before one two three four : ℕ) → next ≡ k + 1 → before ≡ cond b (3 * k) 0
    → one ≡ before + cond b 1 0 → two ≡ one + cond b 1 0 → three ≡ two + cond b 1 0 → four ≡ three + cond b 0 0
    → four ≡ cond b (3 * next) 0
three_more true k next before one two three four d e f g h i = omega arith
three_more false k next before one two three four d e f g h i = omega arith

nothing : (b : Bool) → 0 ≡ cond b (3 * 0) 0
nothing true = refl
nothing false = refl

module _ (on : StrNo) where
  asks_more : (c x n i : ℕ) (tests : Bool) → 1 + n ≡ i → (i % 4 == 0) ≡ tests
      → sum_by (asks_on on) (map (work_line c x) (range_with_len 1 (n + 1)))
      ≡ sum_by (asks_on on) (map (work_line c x) (range_with_len 1 n)) + cond (0 == on.0) (cond tests 0 1) 0
  asks_more c x n i tests at e = grind (arith, sum_by-map-range_with_len_more, asks_work)

  -- three of each four lines ask once
  asks_works : (c x k n : ℕ) → n ≡ 4 * k
      → sum_by (asks_on on) (map (work_line c x) (range_with_len 1 n)) ≡ cond (0 == on.0) (3 * k) 0
  asks_works c x zero n is = grind (arith, nothing)
  asks_works c x (suc k) n is =
      let total = λ (m : ℕ). sum_by (asks_on on) (map (work_line c x) (range_with_len 1 m)) in
      let m = 4 * k in
      let same : n ≡ m + 1 + 1 + 1 + 1 = omega (arith, is) in
      ap total same ∙ three_more (0 == on.0) k (suc k) (total m) (total (m + 1)) (total (m + 1 + 1))
      (total (m + 1 + 1 + 1)) (total (m + 1 + 1 + 1 + 1)) (omega arith) (asks_works c x k m refl)
      (asks_more c x m (m + 1) false (omega arith) (grind (arith, nat_tests))) (grind (arith, asks_more, nat_tests))
      (asks_more c x (m + 1 + 1) (m + 3) false (omega arith) (grind (arith, nat_tests)))
      (asks_more c x (m + 1 + 1 + 1) (m + 4) true (omega arith) (grind (arith, nat_tests)))

  asks_lines : (n : ℕ) → sum_by (asks_on on) (lines_of_first n 4) ≡ cond (0 == on.0) 3004 0
  asks_lines n = grind (arith, asks_works, each-is, sum_by-cons, four_parts, sum_by-append)

pub load_calls : (n : ℕ) (on : StrNo) → asks_of (load_script n) on ≤ 3008
unfolding load_script
load_calls n on = grind (arith, asks_lines)
