-- Counts of items over one list and over all seats.
use Rattle.lock_words.proofs.Imports.{◌≡◌, ◌≢◌, ◌==◌, ◌+◌, ◌-◌, ◌*◌, ◌%◌, ◌^◌, ◌<◌, ◌≤◌, ◌&&◌, ℕ, zero, suc, Bool, true, false, not, cond, List, [], ◌∷◌, ◌++◌, length, set, get_or, filter, All, AllPairs, Option, Some, None, sum_by, refl, sym, ap, ◌∙◌, subst, ⊎_elim, arith, eq-eqb, ne_eqb, eq-zero-or-pos, if◌then◌else◌, eqb-true, eqb-false, get_or-set_same, get_or-set_other, sum_by-cons, sum_by-append, sum_by_push, get_or-le-sum_by, All-head, All-tail, some, some-injective, some-ne-none, dite, ℕ_discrete, get_elem?, Hold, View, is_hold, tally, IsValue, AreCompatible, held_as, says_excl, noted, hold, total}

abbrev bit : Bool → ℕ
bit b = cond b 1 0

-- one hold of a word and state
abbrev pub one : ℕ → Bool → Hold → ℕ
one w e x = cond (is_hold w e x) 1 0

pub tally-cons : (w : ℕ) (e : Bool) (x : Hold) (xs : List Hold) → tally w e (x ∷ xs) ≡ one w e x + tally w e xs
tally-cons w e x xs = sum_by-cons (one w e) x xs

pub tally-push : (w : ℕ) (e : Bool) (xs : List Hold) (x : Hold) → tally w e (xs ++ x ∷ []) ≡ tally w e xs + one w e x
tally-push w e xs x = sum_by_push (one w e) xs x

pub tally-append : (w : ℕ) (e : Bool) (xs ys : List Hold) → tally w e (xs ++ ys) ≡ tally w e xs + tally w e ys
tally-append w e xs ys = sum_by-append (one w e) xs ys

-- a hold of another word counts nothing
pub one-other : (w k : ℕ) (e b : Bool) → w ≢ k → one k e (hold w b) ≡ 0
one-other w k e b ne = ap (λ t. bit (t && cond e b (not b))) (ne_eqb w k ne)

pub one-same : (w : ℕ) (e : Bool) → one w e (hold w e) ≡ 1
one-same w true = ap (λ t. bit (t && true)) (eq-eqb w w refl)
one-same w false = ap (λ t. bit (t && true)) (eq-eqb w w refl)

pub one-opposite : (w : ℕ) (e : Bool) → one w (not e) (hold w e) ≡ 0
one-opposite w true = ap (λ t. bit (t && false)) (eq-eqb w w refl)
one-opposite w false = ap (λ t. bit (t && false)) (eq-eqb w w refl)

abbrev left : ℕ → List Hold → List Hold
left w xs = filter (λ (x : Hold). not (x.word == w)) xs

-- a released word counts nothing, and each other one as before
pub tally-released : (w : ℕ) (e : Bool) (xs : List Hold) → tally w e (left w xs) ≡ 0
tally-released w e [] = refl
tally-released w e (x ∷ xs) = grind (arith, tally-cons, tally-released w e xs)

pub tally-spared : (w k : ℕ) (e : Bool) (xs : List Hold) → k ≢ w → tally k e (left w xs) ≡ tally k e xs
tally-spared w k e [] ne = refl
tally-spared w k e (x ∷ xs) ne = go (tally-spared w k e xs ne) (x.word == w) refl
  where
    go : tally k e (left w xs) ≡ tally k e xs → (b : Bool) → (x.word == w) ≡ b
        → tally k e (left w (x ∷ xs)) ≡ tally k e (x ∷ xs)
    go more true is = grind (arith, tally-cons, eqb-true)
    go more false is = ap (λ t. tally k e (cond (not t) (x ∷ left w xs) (left w xs))) is
        ∙ omega (arith, tally-cons k e x (left w xs), tally-cons k e x xs, more)

-- a hold that is counted has what all of them have
pub counted : (P : Hold → Type 0) (w : ℕ) (e : Bool) (xs : List Hold) → All P xs → 0 < tally w e xs → P (hold w e)
counted P w e [] all pos = absurd (omega arith)
counted P w e (x ∷ xs) all pos =
    grind (arith, All-tail, All-head, tally-cons, eqb-true, counted P w e xs (All-tail P x xs all))

-- the first hold of a word tells how it is held, where there is at most one
pub held-as : (w : ℕ) (o : Option Bool) (xs : List Hold)
    → tally w false xs ≡ noted false o → tally w true xs ≡ noted true o → held_as xs w ≡ o
held-as w None [] p q = refl
held-as w (Some true) [] p q = absurd (omega arith)
held-as w (Some false) [] p q = absurd (omega arith)
held-as w o (x ∷ xs) p q = go (λ o f t. held-as w o xs f t) (x.word == w) x.excl refl refl o p q
  where
    parts : (b c e : Bool) → (x.word == w) ≡ b → x.excl ≡ c
        → tally w e (x ∷ xs) ≡ cond (b && cond e c (not c)) 1 0 + tally w e xs
    parts b c e p q = tally-cons w e x xs ∙ (λ i. cond (p i && cond e (q i) (not (q i))) 1 0 + tally w e xs)

    here : (b : Bool) → (x.word == w) ≡ true → x.excl ≡ b → held_as (x ∷ xs) w ≡ Some b
    here b p q = ap (λ t. if t then Some x.excl else held_as xs w) p ∙ ap Some q

    go : ((o : Option Bool) → tally w false xs ≡ noted false o → tally w true xs ≡ noted true o → held_as xs w ≡ o)
        → (b c : Bool) → (x.word == w) ≡ b → x.excl ≡ c → (o : Option Bool) → tally w false (x ∷ xs) ≡ noted false o
        → tally w true (x ∷ xs) ≡ noted true o → held_as (x ∷ xs) w ≡ o
    go more false c p q o f t = grind (arith, parts)
    go more true true p q (Some true) f t = here true p q
    go more true false p q (Some false) f t = here false p q
    go more true true p q (Some false) f t = absurd (omega (arith, parts true true true p q, t))
    go more true true p q None f t = absurd (omega (arith, parts true true true p q, t))
    go more true false p q (Some true) f t = absurd (omega (arith, parts true false false p q, f))
    go more true false p q None f t = absurd (omega (arith, parts true false false p q, f))

-- what is summed over the seats, after one seat's change
pub sum-set : (f : View → ℕ) (vs : List View) (i : ℕ) (v w : View) → get_elem? vs i ≡ some v
    → sum_by f (set vs i w) + f v ≡ sum_by f vs + f w
sum-set f [] i v w e = absurd (some-ne-none v (sym e))
sum-set f (x ∷ xs) zero v w e = omega (arith, sum_by-cons f x xs, sum_by-cons f w xs, ap f (some-injective x v e))
sum-set f (x ∷ xs) (suc i) v w e = grind (arith, sum_by-cons, sum-set f xs i v w e)

-- some seat has a part of a sum above 0
pub somewhere : (f : View → ℕ) (vs : List View) → 0 < sum_by f vs
    → (i : ℕ) × (v : View) × (get_elem? vs i ≡ some v) × (0 < f v)
somewhere f [] pos = absurd (omega arith)
somewhere f (x ∷ xs) pos = ⊎_elim (λ (z : f x ≡ 0). let t = somewhere f xs (omega (arith, sum_by-cons f x xs, z, pos))
    in (suc t.0, t.1, t.2, t.3)) (λ (p : 0 < f x). (zero, x, refl, p)) (eq-zero-or-pos (f x))

-- where no other seat has a part, the sum is one seat's
pub alone : (f : View → ℕ) (vs : List View) (i : ℕ) (v : View) → get_elem? vs i ≡ some v
    → ((j : ℕ) (u : View) → j ≢ i → get_elem? vs j ≡ some u → f u ≡ 0) → sum_by f vs ≡ f v
alone f [] i v e others = absurd (some-ne-none v (sym e))
alone f (x ∷ xs) zero v e others = omega (
  arith,
  sum_by-cons f x xs,
  ap f (some-injective x v e),
  none f xs (λ j u at. others (suc j) u (λ h. omega arith) at),
)
  where
    none : (f : View → ℕ) (vs : List View) → ((j : ℕ) (u : View) → get_elem? vs j ≡ some u → f u ≡ 0) → sum_by f vs ≡ 0
    none f [] all = refl
    none f (x ∷ xs) all = omega (arith, sum_by-cons f x xs, all zero x refl, none f xs (λ j u at. all (suc j) u at))
alone f (x ∷ xs) (suc i) v e others = omega (
  arith,
  sum_by-cons f x xs,
  others zero x (λ h. omega arith) refl,
  alone f xs i v e (λ j u ne at. others (suc j) u (λ h. ne (omega arith)) at),
)

-- a word's value, as one sum
pub value-sum : (s x n : ℕ) → IsValue s x n → (n ≡ s + x * 9223372036854775808) × (s + x * 65535 ≤ 65535)
value-sum s x n v = grind (arith, ⊎_elim)

pub value-is : (s x n : ℕ) → n ≡ s + x * 9223372036854775808 → s + x * 65535 ≤ 65535 → IsValue s x n
value-is s x n sum most = grind (arith, ⊎_elim, eq-zero-or-pos)

pub value-same : (s x n s' x' n' : ℕ) → s ≡ s' → x ≡ x' → n ≡ n' → IsValue s x n → IsValue s' x' n'
value-same s x n s' x' n' p q r = subst (λ (t : ℕ × ℕ × ℕ). IsValue t.0 t.1 t.2) (λ i. (p i, q i, r i))

-- a value above 0 has a holder of its state
pub value-state : (s x n : ℕ) → IsValue s x n → 0 < n → (b : Bool) → says_excl n ≡ b → 0 < cond b x s
value-state s x n v pos true is = grind (arith, value-sum, eqb-true)
value-state s x n v pos false is = grind (arith, value-sum, eqb-false, ⊎_elim)

-- one seat's change, seen from the words
pub values-set : (ws : List ℕ) (views : List View) (id i n : ℕ) (v w : View) → get_elem? views id ≡ some v
    → i < length ws → ((k : ℕ) → IsValue (total k false views) (total k true views) (get_or ws k 0))
    → ((k : ℕ) (e : Bool) → k ≢ i → tally k e w.held ≡ tally k e v.held)
    → IsValue (total i false (set views id w)) (total i true (set views id w)) n → (k : ℕ)
    → IsValue (total k false (set views id w)) (total k true (set views id w)) (get_or (set ws i n) k 0)
values-set ws views id i n v w at within all same here k =
    grind (arith, dite, ℕ_discrete, get_or-set_same, value-same, sums, get_or-set_other)
  where
    sums : (k : ℕ) (e : Bool) → k ≢ i → total k e views ≡ total k e (set views id w)
    sums k e ne = omega (arith, sum-set (λ u. tally k e u.held) views id v w at, same k e ne)

-- two elements' parts are within a sum
pair-le : (f : Hold → ℕ) (xs : List Hold) (i j : ℕ) (d : Hold) → i < j → j < length xs
    → f (get_or xs i d) + f (get_or xs j d) ≤ sum_by f xs
pair-le f [] i j d lt within = absurd (omega arith)
pair-le f (x ∷ xs) i zero d lt within = absurd (omega arith)
pair-le f (x ∷ xs) zero (suc j) d lt within = omega (arith, sum_by-cons f x xs, get_or-le-sum_by f xs j d (omega arith))
pair-le f (x ∷ xs) (suc i) (suc j) d lt within =
    omega (arith, sum_by-cons f x xs, pair-le f xs i j d (omega arith) (omega arith))

one-of : (x : Hold) (w : ℕ) (b : Bool) → x.word ≡ w → x.excl ≡ b → one w b x ≡ 1
one-of x w b p q = ap (one w b) (λ i. hold (p i) (q i)) ∙ one-same w b

-- where each word has a value, no two locks exclude one another
pub compatible-in : (xs : List Hold) → ((w : ℕ) → (n : ℕ) × IsValue (tally w false xs) (tally w true xs) n)
    → AllPairs AreCompatible xs
compatible-in xs values i j d lt within same =
    let x = get_or xs i d in
    let y = get_or xs j d in
    let v = values y.word in
    let t = value-sum (tally y.word false xs) (tally y.word true xs) v.0 v.1 in
    go x y x.excl y.excl same refl refl (pair-le (one y.word false) xs i j d lt within)
    (pair-le (one y.word true) xs i j d lt within) t.1
  where
    go : (x y : Hold) (b c : Bool) → x.word ≡ y.word → x.excl ≡ b → y.excl ≡ c → one y.word false
        x + one y.word false y ≤ tally y.word false xs → one y.word true x + one y.word true y ≤ tally y.word true xs
        → tally y.word false xs + tally y.word true xs * 65535 ≤ 65535 → (x.excl ≡ false) × (y.excl ≡ false)
    go x y false false same p q f t most = (p, q)
    go x y true true same p q f t most = grind (arith, one-of)
    go x y true false same p q f t most = grind (arith, one-of)
    go x y false true same p q f t most = grind (arith, one-of)

-- a step of a hand takes its share off a word
pub taken-off : (n k : ℕ) → k ≤ n → n < 18446744073709551616 → (n + (2 ^ 64 - k)) % 2 ^ 64 ≡ n - k
taken-off n k le small = omega arith
