-- Elements in table entries, seen in the order of their keys.
use Rattle.std.specs.Prelude.{◌≡◌, ℕ, Bool, true, false, not, ◌==◌, IsTrue, List, [], ◌∷◌, ◌++◌}
use Rattle.std.specs.List.{list_all, slice_index_or}
use Rattle.cf_lists.specs.Insertions.{insertion}

abbrev pub is_keyed : {X K : Type 0} → (X → K) → (K → K → Bool) → K → X → Bool
is_keyed key same k x = same (key x) k

-- an element doesn't stand behind another
abbrev pub in_turn : {X K : Type 0} → (X → K) → (K → K → Bool) → X → X → Bool
in_turn key before x y = not (before (key y) (key x))

-- by key, and of one key in the order of the list
unfoldable pub arranged : {X K : Type 0} → (X → K) → (K → K → Bool) → List X → List X
arranged key before [] = []
arranged key before (x ∷ xs) = insertion (λ y. before (key y) (key x)) x (arranged key before xs)

-- what lies in all entries
unfoldable pub joined : {X : Type 0} → List (List X) → List X
joined [] = []
joined (bin ∷ bins) = bin ++ joined bins

-- each element lies in the entry that its key picks
abbrev pub AreAtHome : {X K : Type 0} → (X → K) → (K → ℕ) → List (List X) → Type 0
AreAtHome key slot bins = (i : ℕ) → IsTrue (list_all (λ x. slot (key x) == i) (slice_index_or bins i []))

-- keys in a total order, which are the same where they are equal
pub record IsKeyOrder {K : Type 0} (same before : K → K → Bool) : Type 0 where
  pub itself : (a : K) → same a a ≡ true
  pub equal : (a b : K) → same a b ≡ true → a ≡ b
  pub once : (a : K) → before a a ≡ false
  pub asym : (a b : K) → before a b ≡ true → before b a ≡ false
  pub follows : (a b c : K) → before b a ≡ false → before c b ≡ false → before c a ≡ false
  pub ties : (a b : K) → before a b ≡ false → before b a ≡ false → same b a ≡ true
