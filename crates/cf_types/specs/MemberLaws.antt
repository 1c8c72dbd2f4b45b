-- The bits that a set of connectors is kept as can be told from its members.
use Rattle.std.proofs.Common.{◌≡◌, ℕ, zero, suc, ◌+◌, ◌*◌, ◌/◌, ◌%◌, ◌^◌, ◌<◌, Bool, true, false, cond, ◌==◌, filter, List, ◌∷◌, refl, sym, ap, subst, ◌∙◌, arith, add-one}
use Rattle.std.proofs.lemmas.Bool.{eqb-true, eqb-false}
use Rattle.std.proofs.lemmas.Nat.{shr-shr, mod-pow-add, pow-add}
use Rattle.std.proofs.lemmas.Nat.Bits.{bit_at-lt}
use Rattle.std.proofs.lemmas.List.Sums.{sum_by-cons}
use Rattle.std.proofs.Math.Nat.{mod-one}
use Rattle.std.specs.Int.{bit_at}
use Rattle.cf_types.specs.declared.limits.TheConstants.{SET_NUMBERS}
use Rattle.cf_types.specs.ConnSets.{conns_from, members, bits_of}
use Rattle.cf_types.specs.declared.numbers.ConnId.{ConnId}
use Rattle.cf_types.specs.declared.conn_sets.ConnSet.TheInside.{Inside}

-- a digit more at the low end, where the lowest one weighs p
low_digit : (r b p : ℕ) → (r * 2 + b) * p ≡ b * p + r * (p * 2)
low_digit r b p = omega arith

no_digit : (x p : ℕ) → (x % 1) * p ≡ 0
no_digit x p = rw (mod-one x) (omega arith)

-- the members among those from this number on tell their bits
member_first : (bits n first : ℕ) (rest : List ConnId)
    → bits_of rest ≡ (bits / 2 ^ (first + 1) % 2 ^ n) * 2 ^ (first + 1) → (b : Bool) → (bit_at bits first == 1) ≡ b
    → bits_of (cond b (record { 0 = first } ∷ rest) rest) ≡ (bits / 2 ^ first % 2 ^ (n + 1)) * 2 ^ first
member_first bits n first rest others b is = go b is
  where
    other : bits_of rest ≡ (bits / 2 ^ first / 2 % 2 ^ n) * (2 ^ first * 2)
    other = rw (shr-shr bits first 1) (rw (← pow-add 2 first 1) others)

    whole : (bits / 2 ^ first % 2 ^ (n + 1)) * 2 ^ first
        ≡ bit_at bits first * 2 ^ first + (bits / 2 ^ first / 2 % 2 ^ n) * (2 ^ first * 2)
    whole = ap (λ (d : ℕ). d * 2 ^ first) (mod-pow-add (bits / 2 ^ first) n 1)
        ∙ low_digit (bits / 2 ^ first / 2 % 2 ^ n) (bit_at bits first) (2 ^ first)

    go : (b : Bool) → (bit_at bits first == 1) ≡ b
        → bits_of (cond b (record { 0 = first } ∷ rest) rest) ≡ (bits / 2 ^ first % 2 ^ (n + 1)) * 2 ^ first
    go true is =
        let one = eqb-true (bit_at bits first) 1 is in
        sum_by-cons (λ (conn : ConnId). 2 ^ conn.0) (record { 0 = first }) rest
        ∙ rw (whole, one) (omega (arith, other))
    go false is =
        let none : bit_at bits first ≡ 0 = omega (arith, bit_at-lt bits first, eqb-false (bit_at bits first) 1 is) in
        rw (whole, none) (omega (arith, other))

bits_of-from : (bits n first : ℕ) → bits_of (filter (λ conn. bit_at bits conn.0 == 1) (conns_from first n))
    ≡ (bits / 2 ^ first % 2 ^ n) * 2 ^ first
unfolding conns_from
bits_of-from bits zero first = sym (no_digit (bits / 2 ^ first) (2 ^ first))
bits_of-from bits (suc n) first =
    let kept = filter (λ (conn : ConnId). bit_at bits conn.0 == 1) (conns_from (first + 1) n) in
    subst (λ (m : ℕ). bits_of (cond (bit_at bits first == 1) (record { 0 = first } ∷ kept) kept)
    ≡ (bits / 2 ^ first % 2 ^ m) * 2 ^ first) (add-one n)
    (member_first bits n first kept (bits_of-from bits n (first + 1)) (bit_at bits first == 1) refl)

all_bits : (bits : ℕ) → bits < 2 ^ SET_NUMBERS → (bits / 2 ^ 0 % 2 ^ SET_NUMBERS) * 2 ^ 0 ≡ bits
all_bits bits small = omega arith

pub bits_of-members : (set : Inside) → set.0 < 2 ^ SET_NUMBERS → record { 0 = bits_of (members set.0) } ≡ set
unfolding members
bits_of-members set small =
    let of : ℕ → Inside = λ bits. record { 0 = bits } in
    ap of (bits_of-from set.0 SET_NUMBERS 0 ∙ all_bits set.0 small)
