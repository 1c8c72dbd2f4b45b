-- An instance stands where the first link of a call on the content is asked.
use Rattle.std.proofs.Common.{◌≡◌, ◌++◌, ◌∷◌, ◌||◌, Bool, true, false, List, [], refl, ap, subst, arith}
use Rattle.std.specs.Prelude.{Option, None, Some, All, get_or}
use Rattle.engine_api.specs.CfTypes.declared.{numbers.CfId.CfId, refusals.Refusal.Refusal}
use Rattle.engine_api.specs.LinkAsks.{Asks, apart, asked_unless, listed}
use Rattle.engine_api.specs.{CfTypes.Forms.IsFacility, Instances.is_at}
use Rattle.engine_api.proofs.AskLaws.{itself}

-- the links of these two places, unless the call is refused
abbrev asked_of : Option Refusal → (primary secondary : Option CfId) → Asks
asked_of cause primary secondary =
    asked_unless cause (record { links = listed primary ++ listed secondary; stops = false })

there : (at cf : CfId) (b : Bool) → cf ≡ at → is_at cf (Some at) || b ≡ true
there at cf b same = subst (λ (it : CfId). is_at cf (Some it) || b ≡ true) same (rw (itself cf) refl)

first_of : (xs : List CfId) (cf : CfId) (rest : List CfId) → cf ∷ rest ≡ xs → cf ≡ get_or xs 0 cf
first_of xs cf rest same = ap (λ (it : List CfId). get_or it 0 cf) same

stands_first : (cause : Option Refusal) (primary secondary : Option CfId) (cf : CfId) (rest : List CfId) (b : Bool)
    → cf ∷ rest ≡ (asked_of cause primary secondary).links → is_at cf primary || (is_at cf secondary || b) ≡ true
stands_first (Some refusal) primary secondary cf rest b same = absurd (cc)
stands_first None (Some x) secondary cf rest b same =
    there x cf (is_at cf secondary || b) (first_of (apart (x ∷ listed secondary)) cf rest same)
stands_first None None (Some y) cf rest b same = there y cf b (first_of (y ∷ []) cf rest same)
stands_first None None None cf rest b same = absurd (cc)

-- the first of two that are asked is one of the instances' places
pub asked_stands : (cause : Option Refusal) (primary secondary first second : Option CfId) (stops : Bool) (cf : CfId)
    (b : Bool) → first ≡ Some cf → Path Asks (record { links = listed first ++ listed second; stops = stops })
    (asked_of cause primary secondary) → is_at cf primary || (is_at cf secondary || b) ≡ true
asked_stands cause primary secondary first second stops cf b at asks =
    stands_first cause primary secondary cf (listed second) b (subst (λ (it : Option CfId). listed it ++ listed
    second ≡ (asked_of cause primary secondary).links) at (ap (λ (it : Asks). it.links) asks))

pub asked_facility : (first second : Option CfId) (cf : CfId) → first ≡ Some cf
    → All IsFacility (listed first ++ listed second) → IsFacility cf
asked_facility first second cf at places =
    subst (λ (it : Option CfId). All IsFacility (listed it ++ listed second)) at places 0 cf (omega arith)
