-- Numbers that go on from others, and the lines that stand for them.
use Rattle.plex_load.proofs.Imports.{◌≡◌, ℕ, ◌+◌, ◌%◌, zero, suc, List, [], ◌∷◌, ◌++◌, map, refl, sym, ap, ◌∙◌, arith, add-zero, add-suc, add-one, append_assoc, flat_map, range_with_len, flat_map_more, map-id, map-range_with_len_more, Line, next_number, number_after, index_of, lines_each, own_line, work, work_line, connector_lines, first_number, lines_of_first, append-nil, line_text, AnyHistory, calls_line, calls_lines}

-- ---- numbers

pub after_none : (x : ℕ) → number_after 0 x ≡ x
unfolding number_after
after_none x = refl

-- what the loop over the lines of a connector begins with
pub ruleset work_begun = (after_none, append-nil)

pub after_more : (steps x : ℕ) → number_after (steps + 1) x ≡ next_number (number_after steps x)
unfolding number_after
after_more steps x = ap (λ (n : ℕ). number_after n x) (add-one steps)

after-add : (a b x : ℕ) → number_after (a + b) x ≡ number_after b (number_after a x)
unfolding number_after
after-add a zero x = ap (λ (n : ℕ). number_after n x) (add-zero a)
after-add a (suc b) x = ap (λ (n : ℕ). number_after n x) (add-suc a b) ∙ ap next_number (after-add a b x)

pub first_none : (n number : ℕ) → number ≡ n % 2147483648 → number ≡ first_number n 0
unfolding number_after
first_none n number is = grind arith

-- the number that goes on from the lines of one connector more
pub first_more : (n c number next : ℕ) → number ≡ first_number n c → next ≡ number_after lines_each number
    → next ≡ first_number n (c + 1)
first_more n c number next here goes = grind (arith, after-add)

-- ---- lines

-- one line more of a connector
pub lines_more : (c x k last : ℕ) (line : Line) (lines start : List Line) → last ≡ number_after k x
    → lines ≡ start ++ map (work_line c x) (range_with_len 1 k) → line ≡ own_line c (k + 1) (work c (k + 1)
    (index_of (next_number last))) → lines ++ line ∷ [] ≡ start ++ map (work_line c x) (range_with_len 1 (k + 1))
lines_more c x k last line lines start number before is =
    let next : next_number last ≡ number_after (k + 1) x = ap next_number number ∙ sym (after_more k x) in
    let same : line ≡ work_line c x (k + 1) = grind arith in
    ap (λ (ls : List Line). ls ++ line ∷ []) before ∙ append_assoc start (map (work_line c x) (range_with_len 1 k))
    (line ∷ []) ∙ ap (λ (l : Line). start ++ (map (work_line c x) (range_with_len 1 k) ++ l ∷ [])) same
    ∙ sym (ap (λ (ls : List Line). start ++ ls) (map-range_with_len_more (work_line c x) 1 k (k + 1) (omega arith)))

range_more : (a n j : ℕ) → a + n ≡ j → range_with_len a (n + 1) ≡ range_with_len a n ++ j ∷ []
range_more a n j is = sym (map-id (range_with_len a (n + 1))) ∙ map-range_with_len_more (λ (k : ℕ). k) a n j is
    ∙ ap (λ (ks : List ℕ). ks ++ j ∷ []) (map-id (range_with_len a n))

-- what one number more makes
pub parts_more : {X : Type 0} (f : ℕ → List X) (start before after : List X) (k : ℕ) → after ≡ before ++ f k
    → before ≡ start ++ flat_map f (range_with_len 0 k) → after ≡ start ++ flat_map f (range_with_len 0 (k + 1))
parts_more {X} f start before after k adds is = grind (arith, flat_map_more, range_more)

-- the lines of no connector, and of one more
pub callers_none : (n : ℕ) (lines : List Line) → lines ≡ [] → lines ≡ lines_of_first n 0
unfolding lines_of_first
callers_none n lines is = is

pub callers_more : (n c number : ℕ) (lines after : List Line) → number ≡ first_number n c → lines ≡ lines_of_first n c
    → after ≡ lines ++ connector_lines c number → after ≡ lines_of_first n (c + 1)
unfolding lines_of_first
callers_more n c number lines after here before adds = parts_more (λ (k : ℕ). connector_lines k (first_number n k))
    [] lines after c (adds ∙ ap (λ (m : ℕ). lines ++ connector_lines c m) here) before

-- ---- lines of a summary

-- the lines of no connector, and of one more
pub calls_none : (histories : List AnyHistory) (text : List ℕ)
    → text ≡ text ++ flat_map line_text (calls_lines histories 0)
unfolding calls_lines
calls_none histories text = sym (append-nil text)

pub calls_more : (histories : List AnyHistory) (c : ℕ) (start before after : List ℕ)
    → after ≡ before ++ line_text (calls_line histories c) → before ≡ start ++ flat_map line_text
    (calls_lines histories c) → after ≡ start ++ flat_map line_text (calls_lines histories (c + 1))
unfolding calls_lines
calls_more histories c start before after adds is =
    let lines = map (calls_line histories) (range_with_len 0 c) in
    adds ∙ ap (λ (text : List ℕ). text ++ line_text (calls_line histories c)) is ∙ flat_map_more
    line_text start lines (calls_line histories c) ∙ ap (λ (ls : List (List ℕ)). start ++ flat_map line_text ls)
    (sym (map-range_with_len_more (calls_line histories) 0 c c (omega arith)))
