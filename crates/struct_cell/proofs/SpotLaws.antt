-- Places that are found by their numbers.
use Rattle.struct_cell.proofs.Imports.{◌≡◌, ℕ, ◌<◌, List, [], ◌∷◌, ◌++◌, length, get_or, set, Some, ◌∙◌, arith, inl, inr, ◌≢◌, slice_get, cases_lt, get_or_append_left, get_or_push, get_or-set_same, get_or-set_other, length_push, length-set, All-push, slice_get-get_or, Place, word_number, IsWithin, word_number-same, AreSpotted}

same_place : (one other : Place) → one.conn.0 ≡ other.conn.0 → one.word ≡ other.word → one ≡ other
same_place one other conn word = λ j. record { conn = record { 0 = conn j }; word = word j }

abbrev number_in : ℕ → Place → ℕ
number_in len place = word_number len place.conn.0 place.word

-- two places of one number are the same
pub numbered : (conns len : ℕ) (one other : Place) → IsWithin conns len one → IsWithin conns len other
    → number_in len one ≡ number_in len other → one ≡ other
numbered conns len one other this that same =
    let both = word_number-same len one.conn.0 other.conn.0 one.word other.word this.0 that.0 this.2 that.2 same in
    same_place one other both.0 both.1

-- one more
pub spotted_push : (conns len : ℕ) (places : List Place) (spots : List ℕ) (place : Place) (number : ℕ)
    → AreSpotted conns len places spots → IsWithin conns len place → number ≡ number_in len place
    → number < length spots → ((k : ℕ) → get_or spots number 0 ≡ k → slice_get places k ≢ Some place)
    → AreSpotted conns len (places ++ place ∷ []) (set spots number (length places))
spotted_push conns len places spots place number is here number_is below absent = record {
  within = All-push (IsWithin conns len) places place is.within here;
  size = length-set spots number (length places) ∙ is.size;
  spotted = λ k d inside. elim (cases_lt k (length places)) [
    | inl low ↦
        let old = get_or places k d in
        let at : get_or (places ++ place ∷ []) k d ≡ old = get_or_append_left places (place ∷ []) d k low in
        let spot : get_or spots (number_in len old) 0 ≡ k = is.spotted k d low in
        let other : number_in len old ≢ number = λ same.
        (let equal : old ≡ place = numbered conns len old place (is.within k d low) here (same ∙ number_is) in
        grind (arith, slice_get-get_or)) in grind (arith, get_or-set_other)
    | inr high ↦ grind (arith, length_push, get_or_push, get_or-set_same)
  ];
}
