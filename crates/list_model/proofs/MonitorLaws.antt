-- Monitors: one more, and fewer.
use Rattle.list_model.proofs.Imports.{arith, ◌≡◌, ℕ, ◌||◌, Bool, true, false, not, List, filter, refl, list_all, and_from, false≢true, list_all-append, ConnId, list_all-filter, list_all-filter_same, list_all_weaker, pairwise-filter, pairwise_push, Monitor, is_replaced, monitors_with, AreMonitors}

neither : (a b : Bool) → not (a || b) ≡ true → (not a ≡ true) × (not b ≡ true)
neither true b h = absurd (false≢true h)
neither false b h = (refl, h)

pub monitors-filter : (q : Monitor → Bool) (monitors : List Monitor) → AreMonitors monitors
    → AreMonitors (filter q monitors)
monitors-filter q monitors are = grind (arith, pairwise-filter)

pub monitors-with : (conn : ConnId) (index header : ℕ) (monitors : List Monitor) → AreMonitors monitors
    → AreMonitors (monitors_with conn index header monitors)
monitors-with conn index header monitors are =
    let new : Monitor = record { conn = conn; index = index; header = header } in
    let kept = λ (monitor : Monitor). not (is_replaced conn index header monitor) in
    let others = filter kept monitors in
    let all = list_all-filter_same kept monitors in
    record {
      one_at_index = grind (arith, pairwise_push, pairwise-filter, list_all_weaker, neither);
      one_for_header = grind (arith, pairwise_push, pairwise-filter, list_all_weaker, neither);
    }

pub all-monitors_with : (p : Monitor → Bool) (conn : ConnId) (index header : ℕ) (monitors : List Monitor)
    → p (record { conn = conn; index = index; header = header }) ≡ true → list_all p monitors ≡ true
    → list_all p (monitors_with conn index header monitors) ≡ true
all-monitors_with p conn index header monitors e h = grind (arith, list_all-append, and_from, list_all-filter)
