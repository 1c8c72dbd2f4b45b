-- What holds of each line of a load.
use Rattle.plex_load.proofs.Imports.{◌≡◌, ℕ, ◌≤◌, ◌<◌, [], ◌++◌, length, map, refl, sym, subst, arith, length-append, All, range_with_len, All-nil, All-cons, All-append, All-map, length-range_with_len, length-map-range_with_len, get_or-range_with_len, Line, index_of, lines_each, own_line, work, connect_line, work_line, connector_lines, own_lines, lines_of_first, load_script}

pub each-is : lines_each ≡ 1000
unfolding lines_each
each-is = refl

-- the lines of the four connectors
pub four_parts : (n : ℕ)
    → lines_of_first n 4 ≡ own_lines n 0 ++ (own_lines n 1 ++ (own_lines n 2 ++ (own_lines n 3 ++ [])))
unfolding lines_of_first
four_parts n = refl

pub length-connector : (c x : ℕ) → length (connector_lines c x) ≡ 1001
length-connector c x = omega (arith, length-map-range_with_len (work_line c x) 1 lines_each, each-is)

pub length-load : (n : ℕ) → length (load_script n).lines ≡ 4004
unfolding load_script
length-load n = grind (arith, length-connector, length-append, four_parts)

module _ (P : Line → Type 0) where
  each_work : (c x count : ℕ) → ((i number : ℕ) → 1 ≤ i → i ≤ count → P (own_line c i (work c i (index_of number))))
      → All P (map (work_line c x) (range_with_len 1 count))
  each_work c x count each = All-map P (work_line c x) (range_with_len 1 count) (
      grind (arith, length-range_with_len, get_or-range_with_len))

  -- what holds of each CONNECT, and of each line behind one, holds of each line
  pub each_line : ((c : ℕ) → c < 4 → P (connect_line c)) → ((c i number : ℕ) → c < 4 → 1 ≤ i
      → i ≤ 1000 → P (own_line c i (work c i (index_of number)))) → (n : ℕ) → All P (lines_of_first n 4)
  each_line connect each n =
      let one : (c : ℕ) → c < 4 → All P (own_lines n c) = grind (arith, All-cons, each_work, each-is) in
      let third = own_lines n 3 ++ [] in
      let second = own_lines n 2 ++ third in
      let first = own_lines n 1 ++ second in
      subst (All P) (sym (four_parts n)) (All-append P (own_lines n 0) first (one 0 (omega arith))
      (All-append P (own_lines n 1) second (one 1 (omega arith)) (All-append P (own_lines n 2)
      third (one 2 (omega arith)) (All-append P (own_lines n 3) [] (one 3 (omega arith)) (All-nil P)))))
