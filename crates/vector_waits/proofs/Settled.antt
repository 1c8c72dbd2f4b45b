-- A wait that is settled by a history is settled by a longer one, once it was asked before the block and behind it.
use Rattle.engine_api.proofs.Imports.{◌≡◌, ℕ, ◌<◌, ◌≤◌, ◌==◌, ◌||◌, ◌⊎◌, inl, inr, Bool, true, false, List, [], ◌++◌, length, refl, sym, subst, ◌∙◌, arith, nat_tests, eq-eqb, ConnId, StrForm, Meaning, IsLegal, stands_after}
use Rattle.std.proofs.Common.{◌↔◌, nat_lt, not, ◌&&◌}
use Rattle.std.proofs.lemmas.Bool.{false≢true, cases_lt, cases_order}
use Rattle.engine_api.specs.declared.histories.Entry.{Entry}
use Rattle.engine_api.specs.History.{Tells}
use Rattle.block_laws.specs.Blocks.{EndsBlock, TellsNow}
use Rattle.block_laws.proofs.Tests.{tells_longer, tells_past, tells_none, tells_now, tells_never}
use Rattle.vector_waits.specs.declared.wait.Wait.{Wait}
use Rattle.vector_waits.specs.Waits.{same_bit, before_block, behind_block, untold, IsSettled}

same_is : (stood bit : Bool) → same_bit stood bit ≡ true → bit ≡ stood
same_is true true e = refl
same_is true false e = absurd cc
same_is false true e = absurd cc
same_is false false e = refl

is_same : (stood bit : Bool) → bit ≡ stood → same_bit stood bit ≡ true
is_same true true e = refl
is_same true false e = absurd cc
is_same false true e = absurd cc
is_same false false e = refl

-- asked before a block and behind it, at its number
asked : (sure at : ℕ) (was now bit : Bool) → ((nat_lt sure at && same_bit was bit) ||
    (not (nat_lt at sure) && same_bit now bit) ≡ true) ↔ ((sure ≤ at) × ((bit ≡ now) ⊎ ((sure < at) × (bit ≡ was))))
asked sure at was now bit = (there, back)
  where
    there : (nat_lt sure at && same_bit was bit) || (not (nat_lt at sure) && same_bit now bit) ≡ true
        → (sure ≤ at) × ((bit ≡ now) ⊎ ((sure < at) × (bit ≡ was)))
    there e = elim (cases_order sure at) [
      | inl same ↦
          let low : nat_lt sure at ≡ false = grind (arith, nat_tests) in
          let high : nat_lt at sure ≡ false = grind (arith, nat_tests) in
          (omega (arith, same), inl (same_is now bit (rw (low, high) at e)))
      | inr apart ↦ elim apart [
        | inl less ↦
            let low : nat_lt sure at ≡ true = grind (arith, nat_tests) in
            let high : nat_lt at sure ≡ false = grind (arith, nat_tests) in
            (omega (arith, less), by_was less (same_bit was bit) refl (rw (low, high) at e))
        | inr more ↦
            let low : nat_lt sure at ≡ false = grind (arith, nat_tests) in
            let high : nat_lt at sure ≡ true = grind (arith, nat_tests) in
            absurd (let wrong = rw (low, high) at e in cc)
      ]
    ]
      where
        by_was : sure < at → (b : Bool) → same_bit was bit ≡ b → b || same_bit now bit ≡ true
            → (bit ≡ now) ⊎ ((sure < at) × (bit ≡ was))
        by_was less true is h = inr (less, same_is was bit is)
        by_was less false is h = inl (same_is now bit h)

    back : (sure ≤ at) × ((bit ≡ now) ⊎ ((sure < at) × (bit ≡ was)))
        → (nat_lt sure at && same_bit was bit) || (not (nat_lt at sure) && same_bit now bit) ≡ true
    back both = elim both.1 [
      | inl is ↦
          let few : sure ≤ at = both.0 in
          let high : nat_lt at sure ≡ false = grind (arith, nat_tests) in
          rw (high, is_same now bit is) (or_last (nat_lt sure at && same_bit was bit))
      | inr old ↦
          let less : sure < at = old.0 in
          let low : nat_lt sure at ≡ true = grind (arith, nat_tests) in
          rw (low, is_same was bit old.1) refl
    ]
      where
        or_last : (b : Bool) → b || true ≡ true
        or_last true = refl
        or_last false = refl

module _ {C R I S : Type 0} (meaning : Meaning C R I S) (form : StrForm) (conn : ConnId) where
  abbrev Settled : List (Entry C R) → Wait → Type 0
  Settled history wait = IsSettled meaning form history conn wait

  abbrev bits : List (Entry C R) → ℕ → Bool
  bits history index = stands_after meaning form history conn index

  -- ---- before the first call

  pub settled_first : (wait : Wait) → Settled [] (behind_block 0 (bits []) (untold wait))
  settled_first wait = by_test (wait.at == 0) refl
    where
      by_test : (b : Bool) → wait.at == 0 ≡ b → Settled [] (behind_block 0 (bits []) (untold wait))
      by_test true same =
          let zero : wait.at ≡ 0 = grind (arith, eq-eqb) in
          let both = asked wait.sure wait.at true (bits [] wait.index) wait.bit in
          let starts = tells_none meaning form [] wait.sure conn wait.index wait.bit in
          rw (same, zero) (
            λ told. starts.1 (first_told told),
            λ tells. told_first (starts.0 tells),
          )
        where
          first_told : not (nat_lt 0 wait.sure) && same_bit (bits [] wait.index) wait.bit ≡ true
              → (wait.sure ≡ 0) × (wait.bit ≡ bits [] wait.index)
          first_told e = by_sure (nat_lt 0 wait.sure) refl
            where
              by_sure : (b : Bool) → nat_lt 0 wait.sure ≡ b → (wait.sure ≡ 0) × (wait.bit ≡ bits [] wait.index)
              by_sure true some = absurd (let wrong = rw some at e in cc)
              by_sure false none = (grind (arith, nat_tests), same_is (bits [] wait.index) wait.bit (rw none at e))

          told_first : (wait.sure ≡ 0) × (wait.bit ≡ bits [] wait.index)
              → not (nat_lt 0 wait.sure) && same_bit (bits [] wait.index) wait.bit ≡ true
          told_first both = rw (both.0, is_same (bits [] wait.index) wait.bit both.1) refl
      by_test false other = rw other (
        λ told. absurd (false≢true told),
        λ tells. absurd (let past : 0 < wait.at = grind (arith, eq-eqb) in
            tells_past meaning form [] wait.at wait.sure conn wait.index wait.bit
            (record { turns = []; made = refl }) past tells),
      )

  -- ---- behind a block more

  module _ (before block : List (Entry C R)) (legal : IsLegal meaning form before)
      (legal' : IsLegal meaning form (before ++ block)) (ends : EndsBlock block) where
    abbrev whole : List (Entry C R)
    whole = before ++ block

    abbrev number : ℕ
    number = length whole

    -- as it was asked, whatever number it shows
    abbrev after : Wait → Wait
    after wait = behind_block number (bits whole) (before_block number (bits before) wait)

    same_wait : (wait : Wait) → wait.at == number ≡ false → after wait ≡ wait
    same_wait wait other = rw other refl

    settled_here : (wait : Wait) → wait.at == number ≡ true → wait.at ≡ number → Settled whole (after wait)
    settled_here wait test here = rw (test, here) (
      λ told. (let both = (asked wait.sure number (bits before wait.index) (bits whole wait.index) wait.bit).0 told in
          now.1 (record { seen = both.0; stood = both.1 })),
      λ tells. (let all = now.0 tells in
          (asked wait.sure number (bits before wait.index) (bits whole wait.index) wait.bit).1 (all.seen, all.stood)),
    )
      where
        now : Tells meaning form whole number wait.sure conn wait.index wait.bit
            ↔ TellsNow meaning form before block wait.sure conn wait.index wait.bit
        now = tells_now meaning form before block legal legal' ends wait.sure conn wait.index wait.bit

    settled_other : (wait : Wait) → (wait.at ≡ number → ⊥) → Settled before wait → Settled whole wait
    settled_other wait not settled = elim (cases_lt (length before) wait.at) [
      | inl past ↦ elim (cases_order wait.at number) [
        | inl same ↦ absurd (not same)
        | inr apart ↦ (
          λ told. absurd (tells_past meaning form before wait.at wait.sure conn wait.index wait.bit legal past
              (settled.0 told)),
          λ tells. absurd (elim apart [
            | inl less ↦ tells_never meaning form before block legal legal' ends wait.at wait.sure conn wait.index
                wait.bit past less tells
            | inr more ↦ tells_past meaning form whole wait.at wait.sure conn wait.index wait.bit legal' more tells
          ]),
        )
      ]
      | inr few ↦
          let longer =
          tells_longer meaning form before block wait.at wait.sure conn wait.index wait.bit legal legal' few in
          (λ told. longer.0 (settled.0 told), λ tells. settled.1 (longer.1 tells))
    ]

    pub settled_more : (wait : Wait) → Settled before wait → Settled whole (after wait)
    settled_more wait settled = by_test (wait.at == number) refl
      where
        by_test : (b : Bool) → wait.at == number ≡ b → Settled whole (after wait)
        by_test true same = settled_here wait same (grind (arith, eq-eqb))
        by_test false other = subst (Settled whole) (sym (same_wait wait other))
            (settled_other wait (λ same. (let is : wait.at == number ≡ true = grind (arith, eq-eqb) in
            false≢true (sym other ∙ is))) settled)
