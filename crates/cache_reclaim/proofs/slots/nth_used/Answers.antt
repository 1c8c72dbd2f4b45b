use Rattle.cache_reclaim.proofs.Imports.{◌≡◌, ℕ, [], ◌∷◌, Option, Some, None, reverse, length, rules, refl, sym, ap, ◌∙◌, slice_get, option_map, Bor, filter_map, rev_steps, TakesLast, deref_pair, nth_from_yields_List, YieldsList-from_filter_map, YieldsList-from_shown, reverse-append, Used}
use Rattle.cache_reclaim.proofs.slots.nth_used.Goals as goal

same_option : {X : Type 0} (o : Option X) → option_map (λ y. y) o ≡ o
same_option None = refl
same_option (Some x) = refl

pub returns : goal.returns
returns c =
    let h = λ (e : ℕ × Option Used). e.1 in
    sym (same_option c.nth.result)
    ∙ nth_from_yields_List {v = λ y. y} {all = filter_map h (reverse c.filter_map.result.iter.iter)} c.nth.result
    c.nth.new.self c.args.k c.nth.ensures.ran (YieldsList-from_filter_map {steps = rev_steps (TakesLast deref_pair)}
    {v = λ (p : Bor ℕ × Bor (Option Used)). (p.0.now, p.1.now)} {ys = reverse c.filter_map.result.iter.iter} _ h
    (YieldsList-from_shown (rev_steps (TakesLast deref_pair)) (λ (p : Bor ℕ × Bor (Option Used)). (p.0.now, p.1.now))
    (λ s. reverse s.iter) (λ s t h. ap (λ l. length (reverse l)) h.0)
    (λ s x t h. ap reverse h ∙ reverse-append t.iter ((x.0.now, x.1.now) ∷ [])) c.filter_map.result.iter)
    c.filter_map.ensures.closure (λ x r q k. search rules)) ∙ ap (λ l. slice_get (filter_map h (reverse l)) c.args.k)
    (ap (λ r. r.iter) c.filter_map.ensures.source ∙ c.rev.ensures.source ∙ c.iter.ensures.rest)
