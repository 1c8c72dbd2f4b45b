-- What follows from what a reader made of words.
use Rattle.plex_spell.proofs.Imports.{◌≡◌, ℕ, ◌==◌, Bool, true, false, cond, List, [], ◌∷◌, Option, Some, None, option_map, refl, arith, and_parts, and_from, nat_tests, same_word, ◌>>=◌}

-- which way a test went
pub chosen : {X G : Type 0} (b : Bool) (x y : Option X) (v : X) → (b ≡ true → x ≡ Some v → G)
    → (b ≡ false → y ≡ Some v → G) → cond b x y ≡ Some v → G
chosen true x y v f g h = f refl h
chosen false x y v f g h = g refl h

pub not_some : {X G : Type 0} (v : X) → None ≡ Some v → G
not_some v h = absurd (cc)

pub record Mapped {X Y : Type 0} (f : X → Y) (o : Option X) (y : Y) : Type 0 where
  pub value : X
  pub read : o ≡ Some value
  pub made : f value ≡ y

pub mapped : {X Y : Type 0} (f : X → Y) (o : Option X) (y : Y) → option_map f o ≡ Some y → Mapped f o y
mapped f None y h = absurd (cc)
mapped f (Some x) y h = record { value = x; read = refl; made = cc }

pub record Bound {X Y : Type 0} (f : X → Option Y) (o : Option X) (y : Y) : Type 0 where
  pub value : X
  pub read : o ≡ Some value
  pub then_ : f value ≡ Some y

pub bound : {X Y : Type 0} (f : X → Option Y) (o : Option X) (y : Y) → (o >>= f) ≡ Some y → Bound f o y
bound f None y h = absurd (cc)
bound f (Some x) y h = record { value = x; read = refl; then_ = h }

-- ---- the same word

pub same_word-refl : (w : List ℕ) → same_word w w ≡ true
same_word-refl [] = refl
same_word-refl (b ∷ w) = grind (arith, nat_tests, and_from, same_word-refl w)

pub word-same : (v w : List ℕ) → same_word v w ≡ true → v ≡ w
word-same [] w h = grind arith
word-same (b ∷ v) [] h = absurd (cc)
word-same (b ∷ v) (c ∷ w) h =
    let parts = and_parts (b == c) (same_word v w) h in grind (arith, nat_tests, word-same v w parts.1)

pub same_word-of : (v w : List ℕ) → v ≡ w → same_word v w ≡ true
same_word-of v w h = rw h (same_word-refl w)

-- the same, where what was read shows the test
pub pick : {X G : Type 0} {b : Bool} {x y : Option X} {v : X} → cond b x y ≡ Some v → (b ≡ true → x ≡ Some v → G)
    → (b ≡ false → y ≡ Some v → G) → G
pick h f g = chosen _ _ _ _ f g h
