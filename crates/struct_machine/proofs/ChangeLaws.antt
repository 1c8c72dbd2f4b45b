-- Which bits stand as before.
use Rattle.struct_machine.proofs.Imports.{arith, ◌≡◌, ℕ, Bool, true, false, List, [], ◌∷◌, All, Option, Some, is_some, filter, refl, recursion_from_All, AllByRecursion, BitChange, StrForm, ConnId, Refusal, gains_none, Bits, Gains, is_for, bits_told, Ask, Machine, room_of, call_cause, bits_of, Meaning, Held, state_in, ChangeList, IsUntouched, Names, may_be_any, Mark}

-- ---- what is told covers what changed

filter_none : {X : Type 0} (p : X → Bool) (xs : List X) → AllByRecursion (λ x. p x ≡ false) xs → filter p xs ≡ []
filter_none p [] none = refl
filter_none p (x ∷ xs) none = rw none.0 (filter_none p xs none.1)

-- nothing is told of a bit that isn't named
told_unnamed : (changes : List BitChange) (conn : ConnId) (index : ℕ)
    → All (λ change. is_for conn index change ≡ false) changes → bits_told changes conn index ≡ []
told_unnamed changes conn index unnamed = grind (arith, filter_none, recursion_from_All)

-- a bit that is none of those that may have changed stands as before
pub untouched_same : (before after : Bits) (changed : ChangeList) → Names changed before after
    → (conn : ConnId) (index : ℕ) → IsUntouched changed conn index → after conn index ≡ before conn index
untouched_same before after changed names conn index untouched = grind (arith, told_unnamed)

-- where nothing changed, nothing is named
pub names_nothing : {S : Type 0} (bits_in : S → Bits) (was now : S) (changed : ChangeList) → changed.bits ≡ []
    → (changed.all ≡ false → now ≡ was) → Names changed (bits_in was) (bits_in now)
names_nothing {S} bits_in was now changed none same not_all = grind (arith, gains_none)

-- the same of a content that stands
pub gains_held : {C R I S : Type 0} (meaning : Meaning C R I S) (form : StrForm) (was now : Option (Held S))
    (bits : List BitChange) → is_some was ≡ true → is_some now ≡ true
    → Gains (bits_of meaning was) (bits_of meaning now) [] bits
    → Gains (meaning.stands (state_in meaning form was)) (meaning.stands (state_in meaning form now)) [] bits
gains_held meaning form was now bits stands left gains = grind arith

-- ---- when any bit may have changed

module _ {C R I S : Type 0} (meaning : Meaning C R I S) (form : StrForm) (machine : Machine S) (by : ConnId)
    (marks : List Mark) (all : Bool) where
  -- a call that is refused
  pub refused_all : (call : Ask C) (refusal : Refusal) → call_cause form (room_of meaning form machine) machine.shell
      by call ≡ Some refusal → marks ≡ [] → all ≡ false → all ≡ may_be_any meaning form machine by call marks
  refused_all call refusal is unmarked quiet = grind arith
