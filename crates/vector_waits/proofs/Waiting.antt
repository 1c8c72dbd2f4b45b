-- What is done to waits in the order of their numbers.
use Rattle.std.proofs.Common.{◌≡◌, ℕ, zero, suc, ◌+◌, ◌<◌, ◌≤◌, ◌==◌, inl, inr, Bool, true, false, List, [], ◌∷◌, ◌++◌, length, map, take, drop, slice_get, get_or, set, Some, refl, sym, ap, subst, ◌∙◌, arith}
use Rattle.std.proofs.lemmas.Bool.{eq-eqb, cases_lt}
use Rattle.std.proofs.lemmas.Option.{slice_get-get_or, get_or_from_slice_get}
use Rattle.vector_waits.specs.declared.wait.Wait.{Wait}
use Rattle.vector_waits.specs.Waits.{told_before, told_behind, before_block, behind_block, AreRising, ArePast, IsQueue}
use Rattle.cf_types.specs.declared.numbers.ConnId.{ConnId}
use Rattle.vector_waits.proofs.Parts.{part_start, part_left, part_read, part_step}

other_number : (m n : ℕ) → (m ≡ n → ⊥) → m == n ≡ false
other_number m n not = by_test (m == n) refl
  where
    by_test : (b : Bool) → m == n ≡ b → b ≡ false
    by_test true same = absurd (not (grind (arith, eq-eqb)))
    by_test false other = refl

before_other : (number : ℕ) (stood : ℕ → Bool) (wait : Wait) → (wait.at ≡ number → ⊥)
    → before_block number stood wait ≡ wait
before_other number stood wait not = rw (other_number wait.at number not) refl

behind_other : (number : ℕ) (stood : ℕ → Bool) (wait : Wait) → (wait.at ≡ number → ⊥)
    → behind_block number stood wait ≡ wait
behind_other number stood wait not = rw (other_number wait.at number not) refl

module _ (waits : List Wait) (next number : ℕ) (stood : ℕ → Bool) where
  below : ArePast waits next number → (i : ℕ) (x : Wait) → i < next → slice_get waits i ≡ Some x → x.at ≡ number → ⊥
  below past i x few there same = let less : x.at < number = past i x few there in omega (arith, less, same)

  above : AreRising waits → (k : ℕ) (y : Wait) → slice_get waits k ≡ Some y → number < y.at → (i : ℕ) (x : Wait)
      → k ≤ i → slice_get waits i ≡ Some x → x.at ≡ number → ⊥
  above rising k y at high i x few there same =
      let more : y.at ≤ x.at = rising k i y x few at there in omega (arith, more, high, same)

  pub before_starts : ArePast waits next number
      → waits ≡ map (before_block number stood) (take next waits) ++ drop next waits
  before_starts past = part_start (before_block number stood) waits next
      (λ i x few there. before_other number stood x (below past i x few there))

  pub before_leaves : AreRising waits → (k : ℕ) (y : Wait) → slice_get waits k ≡ Some y → number < y.at
      → map (before_block number stood) (take k waits) ++ drop k waits ≡ map (before_block number stood) waits
  before_leaves rising k y at high = part_left (before_block number stood) waits k
      (λ i x few there. before_other number stood x (above rising k y at high i x few there))

  pub behind_starts : ArePast waits next number
      → waits ≡ map (behind_block number stood) (take next waits) ++ drop next waits
  behind_starts past = part_start (behind_block number stood) waits next
      (λ i x few there. behind_other number stood x (below past i x few there))

  pub behind_leaves : AreRising waits → (k : ℕ) (y : Wait) → slice_get waits k ≡ Some y → number < y.at
      → map (behind_block number stood) (take k waits) ++ drop k waits ≡ map (behind_block number stood) waits
  behind_leaves rising k y at high = part_left (behind_block number stood) waits k
      (λ i x few there. behind_other number stood x (above rising k y at high i x few there))

-- ---- a loop that asks one after another

module _ (waits now : List Wait) (k number : ℕ) (stood : ℕ → Bool) (d : Wait) (within : k < length waits) where
  stands : (y : Wait) → get_or now k d ≡ get_or waits k d → y ≡ get_or now k d → slice_get waits k ≡ Some y
  stands y same is = slice_get-get_or waits k d within ∙ ap (λ (w : Wait). Some w) (sym same ∙ sym is)

  module _ (so_far : now ≡ map (before_block number stood) (take k waits) ++ drop k waits) where
    pub before_exits : AreRising waits → (let y = get_or now k d in number < y.at)
        → now ≡ map (before_block number stood) waits
    before_exits rising high = so_far ∙ before_leaves waits k number stood rising k (get_or now k d)
        (stands (get_or now k d) (part_read (before_block number stood) waits now k d so_far within) refl) high

    pub before_step : (told : Bool) → told ≡ told_before number stood (get_or now k d) → set now k (record
        (get_or now k d) { told = told }) ≡ map (before_block number stood) (take (k + 1) waits) ++ drop (k + 1) waits
    before_step told is = part_step (before_block number stood) waits now k d (record (get_or now k d) { told = told })
        so_far within (ap (λ (b : Bool). (let y : Wait = record (get_or now k d) { told = b } in y)) is)

  module _ (so_far : now ≡ map (behind_block number stood) (take k waits) ++ drop k waits) where
    pub behind_exits : AreRising waits → (let y = get_or now k d in number < y.at)
        → now ≡ map (behind_block number stood) waits
    behind_exits rising high = so_far ∙ behind_leaves waits k number stood rising k (get_or now k d)
        (stands (get_or now k d) (part_read (behind_block number stood) waits now k d so_far within) refl) high

    pub behind_step : (told : Bool) → told ≡ told_behind number stood (get_or now k d) → set now k (record
        (get_or now k d) { told = told }) ≡ map (behind_block number stood) (take (k + 1) waits) ++ drop (k + 1) waits
    behind_step told is = part_step (behind_block number stood) waits now k d (record (get_or now k d) { told = told })
        so_far within (ap (λ (b : Bool). (let y : Wait = record (get_or now k d) { told = b } in y)) is)

    pub past_step : ArePast waits k (number + 1) → (let y = get_or now k d in y.at ≤ number)
        → ArePast waits (k + 1) (number + 1)
    past_step past low i x few there = elim (cases_lt i k) [
      | inl before ↦ past i x before there
      | inr here ↦
          let same : i ≡ k = omega (arith, few, here) in
          let is : get_or waits k d ≡ x = get_or_from_slice_get waits k x d
          (subst (λ (j : ℕ). slice_get waits j ≡ Some x) same there) in
          let read = part_read (behind_block number stood) waits now k d so_far within in
          let at : (let y = get_or now k d in y.at ≡ x.at) = ap (λ (w : Wait). w.at) (read ∙ is) in
          omega (arith, at, low)
    ]

pub past_more : (waits : List Wait) (next number : ℕ) → ArePast waits next number → ArePast waits next (number + 1)
past_more waits next number past i x few there =
    let less : x.at < number = past i x few there in omega (arith, less)

pub past_less : (waits : List Wait) (next fewer number : ℕ) → fewer ≤ next → ArePast waits next number
    → ArePast waits fewer number
past_less waits next fewer number few past i x less there = past i x (omega (arith, less, few)) there

-- ---- what keeps the numbers

module _ (f : Wait → Wait) (keeps_at : (x : Wait) → (let y = f x in y.at ≡ x.at)) where
  mapped : (waits : List Wait) (i : ℕ) (y : Wait) → slice_get (map f waits) i ≡ Some y
      → (x : Wait) × (slice_get waits i ≡ Some x) × (y.at ≡ x.at)
  mapped [] i y e = absurd (let none : slice_get [] i ≡ Some y = e in grind arith)
  mapped (x ∷ waits) zero y e =
      let same : f x ≡ y = cc in (x, refl, ap (λ (w : Wait). w.at) (sym same) ∙ keeps_at x)
  mapped (x ∷ waits) (suc i) y e = mapped waits i y e

  pub rising_kept : (waits : List Wait) → AreRising waits → AreRising (map f waits)
  rising_kept waits rising i j x y few at there =
      let one = mapped waits i x at in
      let other = mapped waits j y there in
      let less = rising i j one.0 other.0 few one.1 other.1 in
      omega (arith, less, one.2, other.2)

  pub past_kept : (waits : List Wait) (next number : ℕ) → ArePast waits next number
      → ArePast (map f waits) next number
  past_kept waits next number past i x few at =
      let one = mapped waits i x at in
      let less = past i one.0 few one.1 in omega (arith, less, one.2)

-- a queue whose waits were asked behind a call
pub queue_behind : (conn : ConnId) (old new seen shown : List Wait) (next behind number : ℕ) (stood : ℕ → Bool)
    → IsQueue number (record { conn = conn; waits = old; next = next }) → seen ≡ old
    → new ≡ map (behind_block number stood) seen → ArePast seen behind (number + 1)
    → shown ≡ new → IsQueue (number + 1) (record { conn = conn; waits = shown; next = behind })
queue_behind conn old new seen shown next behind number stood queue same is past told =
    let f : Wait → Wait = behind_block number stood in
    let whole : shown ≡ map f old = told ∙ is ∙ ap (λ (l : List Wait). map f l) same in
    let before : ArePast old behind (number + 1) = subst (λ (l : List Wait). ArePast l behind (number + 1)) same past in
    record {
      caller = queue.caller;
      rising = subst AreRising (sym whole) (rising_kept f (λ x. refl) old queue.rising);
      past = subst (λ (l : List Wait). ArePast l behind (number + 1)) (sym whole)
          (past_kept f (λ x. refl) old behind (number + 1) before);
    }
