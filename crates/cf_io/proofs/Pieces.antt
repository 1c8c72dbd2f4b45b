-- Bytes that go piece by piece.
use Rattle.cf_io.proofs.Imports.{◌≡◌, ℕ, ◌+◌, ◌≤◌, Option, List, ◌++◌, length, take, drop, sym, ap, ◌∙◌, subst, arith, length-append, length-take, take_at, drop-drop, length-take-le, take-append-drop, take-add, Appends, Appends-trans}

-- what took the first m bytes of a text, and then the first n of the rest, took the first m + n
pub Appends-more : (a b c : Option (List ℕ)) (text rest : List ℕ) (m n : ℕ) → rest ≡ drop m text
    → Appends a b (take m text) → Appends b c (take n rest) → Appends a c (take (m + n) text)
Appends-more a b c text rest m n e p q =
    subst (Appends a c) (ap (λ l. take m text ++ take n l) e ∙ sym (take-add m n text)) (Appends-trans a b c _ _ p q)

-- some bytes and the first n of others are at most k, where the bytes and n are
pub length-more : (xs ys : List ℕ) (n k : ℕ) → length xs + n ≤ k → length (xs ++ take n ys) ≤ k
length-more xs ys n k h = omega (arith, length-append xs (take n ys), length-take n ys)

-- the n bytes after t stand at the front of a place, and with those after them are all the bytes after t
pub drop-read : (t n : ℕ) (bytes place piece : List ℕ) → n ≤ length (drop t bytes) → piece ≡ take n (drop t bytes)
    → drop t bytes ≡ take n (piece ++ place) ++ drop (t + n) bytes
drop-read t n bytes place piece h e =
    let front : take n (piece ++ place) ≡ take n (drop t bytes) = take_at piece place n (ap length e
    ∙ length-take-le n (drop t bytes) h) ∙ e in
    let rest : drop n (drop t bytes) ≡ drop (t + n) bytes = drop-drop n t bytes in
    sym (take-append-drop n (drop t bytes)) ∙ ap (λ l. l ++ drop n (drop t bytes)) (sym front)
    ∙ ap (λ l. take n (piece ++ place) ++ l) rest
