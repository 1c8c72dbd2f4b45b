use Rattle.cache_reclaim.proofs.Imports.{ℕ, [], ◌∷◌, List, Option, reverse, length, rules, ap, ◌∙◌, true, Bor, filter_map, rev_steps, TakesLast, deref_pair, count_from_yields_List, YieldsList-from_filter_map, YieldsList-from_shown, reverse-append, Used, part_of}
use Rattle.cache_reclaim.proofs.SlotLaws.{used_part}
use Rattle.cache_reclaim.proofs.slots.count_of.Goals as goal

pub returns : goal.returns
returns c =
    let h = λ (e : ℕ × Option Used). part_of c.args.stg true e.1 in
    count_from_yields_List c.filter_map.result c.count.result c.count.ensures.ran (YieldsList-from_filter_map
    {steps = rev_steps (TakesLast deref_pair)} {v = λ (p : Bor ℕ × Bor (Option Used)). (p.0.now, p.1.now)}
    {ys = reverse c.filter_map.result.iter.iter} _ h (YieldsList-from_shown (rev_steps (TakesLast deref_pair))
    (λ (p : Bor ℕ × Bor (Option Used)). (p.0.now, p.1.now)) (λ s. reverse s.iter) (λ s t h. ap
    (λ l. length (reverse l)) h.0) (λ s x t h. ap reverse h ∙ reverse-append t.iter ((x.0.now, x.1.now) ∷ []))
    c.filter_map.result.iter) c.filter_map.ensures.closure (λ x r q k. search rules)) ∙ ap (λ l. length (filter_map
    h (reverse l))) (ap (λ r. r.iter) c.filter_map.ensures.source ∙ c.rev.ensures.source ∙ c.iter.ensures.rest)
    ∙ ap (λ (l : List Used). length l) (used_part c.args.stg true (reverse c.args.slots.now.entries))
