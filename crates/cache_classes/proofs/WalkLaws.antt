-- Entries one after another.
use Rattle.cache_classes.proofs.Imports.{◌≡◌, ℕ, ◌+◌, ◌≤◌, ◌==◌, Bool, true, false, cond, List, ◌∷◌, filter, map, length, sym, ap, ◌∙◌, arith, IsPermutation, length-map, Name16, same_name, name_before, pairwise, length-filter-le, in_turn, arranged-filter, sorted_is, length_arranged, Changed, is_of_class, name_of, names_in, names_of, count_of, Entry, entries_in, classes_in}
use Rattle.cache_classes.proofs.NameOrder.{name_order}

-- as many pass a test as they lie in the map as in their order
pub alike_in : (es : List Entry) (p : Changed → Bool)
    → length (filter p (entries_in es)) ≡ length (filter p (classes_in es))
alike_in es p = sym (length_arranged name_of name_before (filter p (entries_in es)))
    ∙ ap (λ (l : List Changed). length l) (arranged-filter name_of same_name name_before name_order p (entries_in es))

-- the names, once they are sorted, are those in order
pub sorted_names : (es : List Entry) (ks : List Name16) → IsPermutation (names_in (entries_in es)) ks
    → pairwise (in_turn (λ k. k) name_before) ks ≡ true → ks ≡ names_in (classes_in es)
sorted_names es ks perm turn = sorted_is same_name name_before name_order name_of (entries_in es) ks perm turn

-- and those of a class
pub sorted_of : (class : ℕ) (es : List Entry) (ks : List Name16) → IsPermutation (names_of class (entries_in es)) ks
    → pairwise (in_turn (λ k. k) name_before) ks ≡ true → ks ≡ names_of class (classes_in es)
sorted_of class es ks perm turn = sorted_is same_name name_before name_order
    name_of (filter (is_of_class class) (entries_in es)) ks perm turn ∙ ap (λ (l : List Changed). map name_of l)
    (arranged-filter name_of same_name name_before name_order (is_of_class class) (entries_in es))

-- one entry more is counted
count_step : (b : Bool) (x : Changed) (xs : List Changed) → length (cond b (x ∷ xs) xs) ≡ cond b 1 0 + length xs
count_step true x xs = omega arith
count_step false x xs = omega arith

pub counted_next : (class : ℕ) (left rest all : List Entry) (e : Entry) (now one : ℕ) → left ≡ e ∷ rest
    → one ≡ cond (e.1 == class) 1 0 → now + count_of class (entries_in left) ≡ count_of class (entries_in all)
    → now + one + count_of class (entries_in rest) ≡ count_of class (entries_in all)
counted_next class left rest all e now one taken is so_far = grind (arith, count_step)

pub count_fits : (class : ℕ) (all : List Entry) → count_of class (entries_in all) ≤ length all
count_fits class all = grind (arith, length-map, length-filter-le)
