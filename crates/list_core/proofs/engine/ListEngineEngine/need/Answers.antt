use Rattle.list_core.proofs.Imports.{◌≡◌, ℕ, not, List, sym, ap, ◌∙◌, Caps, filter_all, all_from_none, Record, all_records, records_without, is_id, count_of, elements_in, new_id, new-alone, need-items}
use Rattle.list_core.proofs.engine.ListEngineEngine.need.Goals as goal

pub returns : goal.returns
returns c =
    let e = c.self.inside in
    let content = e.kept.content in
    let all = all_records content.lists in
    let same : records_without (new_id content) all ≡ all = filter_all (λ rec. not (is_id (new_id content) rec))
    all (all_from_none (is_id (new_id content)) all (new-alone e.shape e.caps content c.self.invariant.content)) in
    let told = rw c.next.ensures at c.elements_of_others.ensures in
    let caps : ℕ → ℕ → Caps = λ n m. record { entries = n; elements = m } in
    rw (← c.self.view_is) (ap (λ (n : ℕ). caps n c.elements_of_others.result) c.count.ensures
    ∙ ap (λ (n : ℕ). caps (count_of content.lists) n) (told ∙ ap (λ (l : List Record). elements_in l) same)
    ∙ sym (need-items e.shape content))
