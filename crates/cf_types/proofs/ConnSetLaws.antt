-- Sets of connectors: what a member more or less changes, and how the bits that a set is kept as follow.
use Rattle.cf_types.proofs.Imports.{◌≡◌, ◌≢◌, ℕ, zero, suc, ◌+◌, ◌*◌, ◌/◌, ◌%◌, ◌^◌, ◌<◌, ◌≤◌, Bool, true, false, cond, not, ◌&&◌, ◌==◌, filter, List, [], ◌∷◌, ◌++◌, length, bit_and, bit_or, count_ones, refl, sym, ap, ◌∙◌, ⊎_elim, arith, add-one, add-zero, zero-add, eq-eqb, ne_eqb, lt-ltb, le-ltb, and_right, cases_eq, cases_order, append-nil, filter-append, shr-shr, mod-pow-add, ones-le, one_shl, pow_pos, or_lt, and_pow, bit_at-lt, bit_at-zero, bit_at_set_same, bit_at_set_other, bit_at_clear_same, bit_at_clear_other, mod-one, zero-mul, bit_at, bit_not, w128, ones_step, SET_NUMBERS, conns_from, is_member, with_member, without_member, members, ConnId}

-- ---- the connectors of a range that pass a test

-- tests that agree in the range keep the same ones
pub filter_agree_from : (p q : ConnId → Bool) (first n : ℕ) → ((c : ConnId) → first ≤ c.0
    → c.0 < first + n → p c ≡ q c) → filter p (conns_from first n) ≡ filter q (conns_from first n)
unfolding conns_from
filter_agree_from p q first zero agree = refl
filter_agree_from p q first (suc n) agree =
    grind (arith, filter_agree_from p q (first + 1) n (λ c low high. agree c (omega arith) (omega arith)))

-- nobody passes
pub filter_none_from : (p : ConnId → Bool) (first n : ℕ)
    → ((c : ConnId) → first ≤ c.0 → c.0 < first + n → p c ≡ false) → filter p (conns_from first n) ≡ []
unfolding conns_from
filter_none_from p first zero none = refl
filter_none_from p first (suc n) none =
    grind (arith, filter_none_from p (first + 1) n (λ c low high. none c (omega arith) (omega arith)))

-- a connector below the range isn't among them
pub is_member-below : (p : ConnId → Bool) (conn : ConnId) (first n : ℕ) → conn.0 < first
    → is_member conn (filter p (conns_from first n)) ≡ false
unfolding conns_from
is_member-below p conn first zero below = refl
is_member-below p conn first (suc n) below = grind (arith, ne_eqb, is_member-below p conn (first + 1) n (omega arith))

-- one in the range is among them where it passes
is_member-first : (p : ConnId → Bool) (conn : ConnId) (first n : ℕ) → first ≡ conn.0 → (b : Bool) → is_member conn
    (cond b (record { 0 = first } ∷ filter p (conns_from (first + 1) n)) (filter p (conns_from (first + 1) n))) ≡ b
is_member-first p conn first n here true = rw (eq-eqb first conn.0 here) refl
is_member-first p conn first n here false = is_member-below p conn (first + 1) n (omega arith)

is_member-later : (conn c : ConnId) (others : List ConnId) → c.0 ≢ conn.0 → (b : Bool)
    → is_member conn (cond b (c ∷ others) others) ≡ is_member conn others
is_member-later conn c others apart true = rw (ne_eqb c.0 conn.0 apart) refl
is_member-later conn c others apart false = refl

pub is_member-from : (p : ConnId → Bool) (conn : ConnId) (first n : ℕ) → first ≤ conn.0 → conn.0 < first + n
    → is_member conn (filter p (conns_from first n)) ≡ p conn
unfolding conns_from
is_member-from p conn first zero low high = absurd (omega arith)
is_member-from p conn first (suc n) low high =
    let c : ConnId = record { 0 = first } in
    let at : ℕ → ConnId = λ n. record { 0 = n } in
    ⊎_elim (λ here. is_member-first p _ _ n here _ ∙ ap (λ k. p (at k)) here) (λ apart. is_member-later _ c _ apart _
    ∙ is_member-from p conn (first + 1) n (omega arith) (omega arith)) (cases_eq first conn.0)

-- ---- a member more

with_member-below : (p : ConnId → Bool) (conn : ConnId) (first n : ℕ) → conn.0 < first
    → with_member conn (filter p (conns_from first n)) ≡ conn ∷ filter p (conns_from first n)
unfolding conns_from
with_member-below p conn first zero below = refl
with_member-below p conn first (suc n) below =
    grind (arith, ne_eqb, le-ltb, with_member-below p conn (first + 1) n (omega arith))

with_member-here : (p : ConnId → Bool) (conn : ConnId) (n : ℕ) (b : Bool)
    → conn ∷ filter p (conns_from (conn.0 + 1) n)
    ≡ with_member conn (cond b (conn ∷ filter p (conns_from (conn.0 + 1) n)) (filter p (conns_from (conn.0 + 1) n)))
with_member-here p conn n true = rw (le-ltb conn.0 conn.0 (omega arith), eq-eqb conn.0 conn.0 refl) refl
with_member-here p conn n false = sym (with_member-below p conn (conn.0 + 1) n (omega arith))

with_member-later : (conn c : ConnId) (now others : List ConnId) → c.0 < conn.0 → now ≡ with_member conn others
    → (b : Bool) → cond b (c ∷ now) now ≡ with_member conn (cond b (c ∷ others) others)
with_member-later conn c now others low is true = rw (lt-ltb c.0 conn.0 low) (ap (λ (t : List ConnId). c ∷ t) is)
with_member-later conn c now others low is false = is

with_member-first : (p q : ConnId → Bool) (conn : ConnId) (first n : ℕ)
    → first ≡ conn.0 → q conn ≡ true → filter q (conns_from (first + 1) n) ≡ filter p (conns_from (first + 1) n)
    → cond (q (record { 0 = first })) (record { 0 = first } ∷ filter q (conns_from (first + 1) n))
    (filter q (conns_from (first + 1) n)) ≡ with_member conn (cond (p (record { 0 = first }))
    (record { 0 = first } ∷ filter p (conns_from (first + 1) n)) (filter p (conns_from (first + 1) n)))
with_member-first p q conn first n here one rest = grind (arith, with_member-here)

-- where one of the range passes besides
pub with_member-from : (p q : ConnId → Bool) (conn : ConnId) (first n : ℕ) → first ≤ conn.0 → conn.0 < first + n
    → q conn ≡ true → ((c : ConnId) → c.0 ≢ conn.0 → q c ≡ p c)
    → filter q (conns_from first n) ≡ with_member conn (filter p (conns_from first n))
unfolding conns_from
with_member-from p q conn first zero low high one same = absurd (omega arith)
with_member-from p q conn first (suc n) low high one same =
    let c : ConnId = record { 0 = first } in
    let others : filter q (conns_from (first + 1) n) ≡ filter p (conns_from (first + 1) n) → first ≡ conn.0
    → cond (q c) (c ∷ filter q (conns_from (first + 1) n)) (filter q (conns_from (first + 1) n))
    ≡ with_member conn (cond (p c) (c ∷ filter p (conns_from (first + 1) n))
    (filter p (conns_from (first + 1) n))) = λ rest here. with_member-first p q _ _ n here one rest in
    let later : first < conn.0 → cond (q c) (c ∷ filter q (conns_from (first + 1) n))
    (filter q (conns_from (first + 1) n)) ≡ with_member conn (cond (p c) (c ∷ filter p (conns_from (first + 1) n))
    (filter p (conns_from (first + 1) n))) = λ before. rw (same c (λ e. omega arith)) (with_member-later
    _ c _ _ before (with_member-from p q conn (first + 1) n (omega arith) (omega arith) one same) _) in
    ⊎_elim (λ here. others (filter_agree_from q p _ n (λ c low high. same c (λ e. omega arith))) here)
    (λ o. ⊎_elim later (λ h. absurd (omega arith)) o) (cases_order first conn.0)

-- ---- a member less

filter-filter : {X : Type 0} (p q : X → Bool) (xs : List X) → filter q (filter p xs) ≡ filter (λ x. p x && q x) xs
filter-filter p q [] = refl
filter-filter {X = X} p q (x ∷ xs) = grind (arith, filter-filter p q xs)

and-true : (b : Bool) → b ≡ (b && true)
and-true true = refl
and-true false = refl

without_member-at : (p q : ConnId → Bool) (conn c : ConnId) → q conn ≡ false → (c.0 ≢ conn.0 → q c ≡ p c)
    → q c ≡ (p c && not (c.0 == conn.0))
without_member-at p q conn c none same = grind (arith, ⊎_elim, and_right, eq-eqb, ne_eqb, and-true, cases_eq)

-- where one of the range passes no more
pub without_member-from : (p q : ConnId → Bool) (conn : ConnId) (first n : ℕ) → q conn ≡ false
    → ((c : ConnId) → c.0 ≢ conn.0 → c.0 < first + n → q c ≡ p c)
    → filter q (conns_from first n) ≡ without_member conn (filter p (conns_from first n))
without_member-from p q conn first n none same = grind (arith, filter_agree_from, without_member-at, filter-filter)

-- ---- one connector more in the range

conns_from-suc : (first n : ℕ) → conns_from first (suc n) ≡ conns_from first n ++ record { 0 = first + n } ∷ []
unfolding conns_from
conns_from-suc first zero = let at : ℕ → List ConnId = λ m. record { 0 = m } ∷ [] in ap at (sym (add-zero first))
conns_from-suc first (suc n) = grind (arith, conns_from-suc (first + 1) n)

with_member-last : (p : ConnId → Bool) (conn : ConnId) (first n : ℕ) → first + n ≤ conn.0
    → with_member conn (filter p (conns_from first n)) ≡ filter p (conns_from first n) ++ conn ∷ []
unfolding conns_from
with_member-last p conn first zero above = refl
with_member-last p conn first (suc n) above =
    grind (arith, lt-ltb, with_member-last p conn (first + 1) n (omega arith))

filter-one : (p : ConnId → Bool) (conn : ConnId) (n : ℕ) → n ≤ conn.0 → (b : Bool) → filter p (conns_from 0 n) ++ cond
    b (conn ∷ []) [] ≡ cond b (with_member conn (filter p (conns_from 0 n))) (filter p (conns_from 0 n))
filter-one p conn n above true = sym (with_member-last p conn 0 n (omega arith))
filter-one p conn n above false = append-nil (filter p (conns_from 0 n))

-- the first n and one more
pub filter-from_zero_more : (p : ConnId → Bool) (n : ℕ) → filter p (conns_from 0 (n + 1)) ≡ cond
    (p (record { 0 = n })) (with_member (record { 0 = n }) (filter p (conns_from 0 n))) (filter p (conns_from 0 n))
filter-from_zero_more p n =
    let conn : ConnId = record { 0 = n } in
    let more : conns_from 0 (n + 1) ≡ conns_from 0 n ++ conn ∷ [] = rw (add-one, conns_from-suc 0 n, zero-add n) refl
    in
    rw (more, filter-append p (conns_from 0 n) (conn ∷ [])) (filter-one p conn n (omega arith) (p conn))

-- ---- the bits of a set

pub members-zero : members 0 ≡ []
unfolding members
members-zero = filter_none_from (λ conn. bit_at 0 conn.0 == 1) 0 SET_NUMBERS (λ c low high. rw (bit_at-zero c.0) refl)

pub is_member-members : (bits : ℕ) (conn : ConnId) → conn.0 < SET_NUMBERS
    → is_member conn (members bits) ≡ (bit_at bits conn.0 == 1)
unfolding members
is_member-members bits conn within = is_member-from (λ c. bit_at bits c.0 == 1) conn 0 SET_NUMBERS (omega arith) within

pub members-set : (bits : ℕ) (conn : ConnId) → conn.0 < SET_NUMBERS
    → members (bit_or bits (1 * 2 ^ conn.0 % 2 ^ SET_NUMBERS)) ≡ with_member conn (members bits)
unfolding members
members-set bits conn within = with_member-from (λ c. bit_at bits c.0 == 1) (λ c. bit_at (bit_or
    bits (1 * 2 ^ conn.0 % 2 ^ SET_NUMBERS)) c.0 == 1) conn 0 SET_NUMBERS (omega arith) within (rw (bit_at_set_same
    w128 bits conn.0 within) refl) (λ c apart. rw (bit_at_set_other w128 bits conn.0 within c.0 apart) refl)

pub members-clear : (bits : ℕ) (conn : ConnId) → conn.0 < SET_NUMBERS
    → members (bit_and bits (bit_not w128 (1 * 2 ^ conn.0 % 2 ^ SET_NUMBERS))) ≡ without_member conn (members bits)
unfolding members
members-clear bits conn within = without_member-from (λ c. bit_at bits c.0 == 1) (λ c. bit_at (bit_and
    bits (bit_not w128 (1 * 2 ^ conn.0 % 2 ^ SET_NUMBERS))) c.0 == 1) conn 0 SET_NUMBERS (rw (bit_at_clear_same w128
    bits conn.0 within) refl) (λ c apart high. rw (bit_at_clear_other w128 bits conn.0 within c.0 high apart) refl)

length-first : (c : ConnId) (others : List ConnId) (bit : ℕ) → bit < 2
    → length (cond (bit == 1) (c ∷ others) others) ≡ bit + length others
length-first c others bit small = ⊎_elim (λ (one : bit ≡ 1). rw one (omega arith))
    (λ (apart : bit ≢ 1). rw (ne_eqb bit 1 apart) (omega arith)) (cases_eq bit 1)

count_ones-low : (high low all : ℕ) → all ≡ high * 2 + low → low < 2 → count_ones all ≡ low + count_ones high
count_ones-low high low all is small =
    let rest : all / 2 ≡ high = omega arith in
    let digit : all % 2 ≡ low = omega arith in
    ones_step all ∙ rw (rest, digit) refl

count_ones-from : (bits first n : ℕ) → count_ones (bits / 2 ^ first % 2 ^ n)
    ≡ length (filter (λ conn. bit_at bits conn.0 == 1) (conns_from first n))
unfolding conns_from
count_ones-from bits first zero = let none : count_ones 0 ≤ 0 = ones-le 0 0 (omega arith) in
    rw (mod-one (bits / 2 ^ first)) (omega arith)
count_ones-from bits first (suc n) =
    let others : count_ones (bits / 2 ^ first / 2 % 2 ^ n)
    ≡ length (filter (λ conn. bit_at bits conn.0 == 1) (conns_from (first + 1) n)) =
    rw (shr-shr bits first 1) (count_ones-from bits (first + 1) n) in
    let whole = mod-pow-add (bits / 2 ^ first) n 1 in
    rw (← add-one n) (count_ones-low _ _ _ whole (bit_at-lt bits first)
    ∙ ap (λ k. bit_at bits first + k) others ∙ sym (length-first _ _ _ (bit_at-lt bits first)))

pub length-members : (bits : ℕ) → bits < 2 ^ SET_NUMBERS → count_ones bits ≡ length (members bits)
unfolding members
length-members bits small =
    let whole : bits / 2 ^ 0 % 2 ^ SET_NUMBERS ≡ bits = omega arith in
    rw whole at (count_ones-from bits 0 SET_NUMBERS)

-- the test of one bit by a mask
bit_tested : (bit p : ℕ) → bit < 2 → 0 < p → not (bit * p == 0) ≡ (bit == 1)
bit_tested bit p small some = ⊎_elim (λ (one : bit ≡ 1). rw (one, ne_eqb (1 * p) 0 (λ e. omega arith)) refl)
    (λ (apart : bit ≢ 1). let none : bit ≡ 0 = omega arith in rw (none, zero-mul p) refl) (cases_eq bit 1)

pub has_bit : (bits : ℕ) (conn : ConnId) → conn.0 < SET_NUMBERS
    → not (bit_and bits (1 * 2 ^ conn.0 % 2 ^ SET_NUMBERS) == 0) ≡ is_member conn (members bits)
has_bit bits conn within =
    rw (one_shl conn.0 SET_NUMBERS within, and_pow bits conn.0) (bit_tested (bit_at bits conn.0)
    (2 ^ conn.0) (bit_at-lt bits conn.0) (pow_pos conn.0) ∙ sym (is_member-members bits conn within))

pub bits_set-lt : (bits : ℕ) (conn : ConnId)
    → bits < 2 ^ SET_NUMBERS → bit_or bits (1 * 2 ^ conn.0 % 2 ^ SET_NUMBERS) < 2 ^ SET_NUMBERS
bits_set-lt bits conn small = or_lt SET_NUMBERS _ _ small (omega arith)
