-- The bits that stand, where the same headers have records.
use Rattle.list_core.proofs.Imports.{arith, ◌≡◌, ℕ, Bool, List, [], ◌∷◌, refl, ConnId, Monitor}
use Rattle.list_model.specs.ListWatch.Monitors as watch

pub stands-agree : (monitors : List Monitor) (f g : ℕ → Bool) → ((header : ℕ) → f header ≡ g header)
    → (conn : ConnId) (index : ℕ) → watch.stands monitors f conn index ≡ watch.stands monitors g conn index
stands-agree [] f g same conn index = refl
stands-agree (m ∷ monitors) f g same conn index = grind (arith, stands-agree monitors f g same conn index)
