-- Where instances are made there is a facility.
use Rattle.struct_machine.proofs.Imports.{arith, ◌≡◌, ℕ, Bool, List, [], ◌∷◌, Option, None, IfSome, filter, recursion_from_All, AllByRecursion, Pref, StrForm, ConnId, IsFacility, IsPref, IsForm, place_for, fresh_of, Shell, candidates, Rebuild, Telling, Places}

-- ---- places of a form

place_in : (units : ℕ) (is : Pref → Bool) (prefs : List Pref) → AllByRecursion IsPref prefs
    → IfSome (place_for units (filter is prefs)) IsFacility
place_in units is [] all = tt
place_in units is (pref ∷ prefs) all = grind (arith, place_in units is prefs all.1)

-- a place that is found is a facility
pub found_facility : (form : StrForm) (shell : Shell) (by : ConnId) (units : ℕ) → IsForm form
    → IfSome (place_for units (candidates form shell by)) IsFacility
found_facility form shell by units formed = grind (arith, place_in, recursion_from_All)

-- ---- the new instance of a rebuild stands in a facility

abbrev pub InFacility : Option Rebuild → Type 0
InFacility rebuild = IfSome (fresh_of rebuild) IsFacility

-- the place that is told is a facility, where the new one hasn't one already
abbrev pub IsPlaceTold : Option Rebuild → Telling → Type 0
IsPlaceTold rebuild (Places cf) = fresh_of rebuild ≡ None → IsFacility cf
IsPlaceTold rebuild _ = Unit {0}
