use Rattle.cache_reclaim.proofs.Imports.{◌≡◌, ℕ, List, Option, arith, Used, IsTied}
use Rattle.cache_reclaim.proofs.order.Order.copy.Goals as goal

same_tied : (es fs : List (ℕ × Option Used)) (ns ms : List (List ℕ × ℕ)) (cap most : ℕ) → fs ≡ es → ms ≡ ns
    → most ≡ cap → IsTied es ns cap → IsTied fs ms most
same_tied es fs ns ms cap most e f g tied = rw (e, f, g) tied

pub invariant_of-result : goal.invariant_of-result
invariant_of-result c = grind (arith, same_tied)
