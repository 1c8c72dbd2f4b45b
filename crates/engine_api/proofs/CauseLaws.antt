-- What no refusal tells of the causes.
use Rattle.engine_api.proofs.Imports.{◌≡◌, Bool, true, false, List, [], ◌∷◌, Option, Some, None, refl, cond, Refusal, first_refusal}

-- none of them holds
abbrev pub NoneHolds : List (Option Refusal) → Type 0
NoneHolds [] = Unit {0}
NoneHolds (cause ∷ causes) = (cause ≡ None) × NoneHolds causes

pub none_hold : (causes : List (Option Refusal)) → first_refusal causes ≡ None → NoneHolds causes
none_hold [] fine = tt
none_hold (None ∷ causes) fine = (refl, none_hold causes fine)
none_hold (Some refusal ∷ causes) fine = absurd (cc)

pub unless_false : (b : Bool) (refusal : Refusal) → cond b None (Some refusal) ≡ None → b ≡ true
unless_false true refusal fine = refl
unless_false false refusal fine = absurd (cc)
