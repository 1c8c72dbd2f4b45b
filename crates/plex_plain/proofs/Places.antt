-- Where a name stands among names.
use Rattle.plex_plain.proofs.Imports.{◌≡◌, ◌≢◌, ℕ, ◌-◌, ◌<◌, ◌≤◌, Bool, true, false, List, [], ◌∷◌, ◌++◌, length, length-append, get_or, Some, position, refl, arith, zero, suc, position_or_len, list_any, or_parts, nat_tests, slice_get-get_or, Name16, same_word, name_word, same_word-refl, word-same, caller_name, IsNamed}

-- ---- the first place at which a test holds

first_place : {X : Type 0} (p : X → Bool) (xs : List X) (i : ℕ) (d : X) → i < length xs → p (get_or xs i d) ≡ true
    → ((k : ℕ) → k < i → p (get_or xs k d) ≡ false) → position_or_len p xs ≡ i
first_place p [] i d low here before = absurd (omega arith)
first_place p (x ∷ xs) zero d low here before = rw here refl
first_place p (x ∷ xs) (suc i) d low here before =
    let no : p x ≡ false = before 0 (omega arith) in
    let rest = first_place p xs i d (omega arith) here (λ k h. before (suc k) (omega arith)) in
    rw no (omega (arith, rest))

pub position-first : {X : Type 0} (p : X → Bool) (xs : List X) (i : ℕ) (d : X) → i < length xs
    → p (get_or xs i d) ≡ true → ((k : ℕ) → k < i → p (get_or xs k d) ≡ false) → position p xs ≡ Some i
position-first p xs i d low here before = grind (arith, first_place, nat_tests)

-- ---- names

same_bytes : (a b : Name16) → IsNamed a → IsNamed b → name_word a ≡ name_word b → a ≡ b
same_bytes a b h k e = grind arith

pub apart_words : (a b : Name16) → IsNamed a → IsNamed b → a ≢ b → same_word (name_word a) (name_word b) ≡ false
apart_words a b h k apart = grind (arith, same_bytes, word-same)

-- things that have names, each once
pub record HaveNames {X : Type 0} (name : X → Name16) (xs : List X) : Type 0 where
  pub named : (k : ℕ) (d : X) → k < length xs → IsNamed (name (get_or xs k d))
  pub apart : (j k : ℕ) (d : X) → j < k → k < length xs → name (get_or xs j d) ≢ name (get_or xs k d)

-- a name stands where it stands, and not before
pub name-place : {X : Type 0} (name : X → Name16) (xs : List X) (i : ℕ) (d : X) → HaveNames name xs → i < length xs
    → position (λ x. same_word (name_word (name x)) (name_word (name (get_or xs i d)))) xs ≡ Some i
name-place name xs i d h low = position-first (λ x. same_word (name_word (name x)) (name_word (name (get_or xs i d))))
    xs i d low (same_word-refl (name_word (name (get_or xs i d)))) (grind (arith, apart_words))

-- a connector by its name
pub caller-word : (connectors : List Name16) (n : ℕ) (d : Name16) → 1 ≤ n → n ≤ length connectors
    → caller_name connectors n ≡ name_word (get_or connectors (n - 1) d)
caller-word connectors n d some most = grind (arith, nat_tests, slice_get-get_or)

-- behind things at which a test fails
seam_place : {X : Type 0} (p : X → Bool) (front : List X) (x : X) (back : List X)
    → list_any p front ≡ false → p x ≡ true → position_or_len p (front ++ x ∷ back) ≡ length front
seam_place p [] x back before here = rw here refl
seam_place p (y ∷ front) x back before here =
    let parts = or_parts (p y) (list_any p front) before in
    let rest = seam_place p front x back parts.1 here in
    let no = parts.0 in
    rw no (omega (arith, rest))

pub position-seam : {X : Type 0} (p : X → Bool) (front : List X) (x : X) (back : List X) → list_any p front ≡ false
    → p x ≡ true → position p (front ++ x ∷ back) ≡ Some (length front)
position-seam p front x back before here = grind (arith, seam_place, nat_tests, length-append)
