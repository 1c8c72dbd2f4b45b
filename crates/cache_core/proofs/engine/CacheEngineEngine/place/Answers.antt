use Rattle.cache_core.proofs.Imports.{arith, ◌∙◌, ◌++◌, ◌∷◌, [], IsTrue, List, sym, subst, is_cache, content-placed, CacheItem, IsContent, content_with, cache_meaning, alone-next, cache-fronts, EngineView, content_of, sum_by-append, elements_in, ◌≤◌}
use Rattle.cache_core.proofs.{NextLaws.before_next, PlanLaws.either_way}
use Rattle.cache_core.specs.EngineView.{bound_of}
use Rattle.cache_core.proofs.BaseLaws.{less, wider}
use Rattle.cache_core.proofs.engine.CacheEngineEngine.place.Goals as goal

pub push-requires-clause-last : goal.push-requires-clause-last
push-requires-clause-last c = grind (arith, before_next)

pub push-requires-clause-alone : goal.push-requires-clause-alone
push-requires-clause-alone c = grind (arith, alone-next)

pub push-requires-clause-few : goal.push-requires-clause-few
push-requires-clause-few c = omega (arith, c.self.invariant.content.entries, c.self.invariant.places)

pub push-requires-clause-fits : goal.push-requires-clause-fits
push-requires-clause-fits c =
    let held = c.args.self.now.held in
    let kind : IsTrue (is_cache held.shape.kind) = subst (λ (e : EngineView). IsTrue (is_cache e.held.shape.kind))
    c.self.view_is c.self.invariant.cache in
    let placed : IsContent c.self.inside.caps (content_with (content_of c.self.inside) c.args.item) =
    subst (λ (e : EngineView). IsContent e.held.caps (content_with e.held.state c.args.item)) (sym c.self.view_is)
    (content-placed cache_meaning is_cache (λ shape caps content. IsContent caps content) cache-fronts held.shape
    held.state c.args.item c.requires.next held.caps kind c.requires.fits) in
    let all : elements_in (c.self.inside.rows.rows ++ c.args.item ∷ []) ≤ c.self.inside.caps.elements = placed.elements in
    let same = c.self.invariant.elements in
    grind (arith, sum_by-append)

pub invariant_of-self : goal.invariant_of-self
invariant_of-self c =
    let held = c.args.self.now.held in
    let kind : IsTrue (is_cache held.shape.kind) = subst (λ (e : EngineView). IsTrue (is_cache e.held.shape.kind))
    c.self.view_is c.self.invariant.cache in
    let placed : IsContent (bound_of c.self.inside.base) (content_with (content_of c.self.inside) c.args.item) =
    wider c.self.inside.caps (bound_of c.self.inside.base) _ (less c.self.inside.caps c.self.inside.base
    c.self.invariant.within) (subst (λ (e : EngineView). IsContent e.held.caps (content_with e.held.state c.args.item)) (sym c.self.view_is)
    (content-placed cache_meaning is_cache (λ shape caps content. IsContent caps content) cache-fronts held.shape
    held.state c.args.item c.requires.next held.caps kind c.requires.fits)) in
    record {
      cache = c.self.invariant.cache;
      base = c.self.invariant.base;
      within = c.self.invariant.within;
      content = either_way (λ (l : List CacheItem). IsContent (bound_of c.self.inside.base) (record {
        rows = l;
        regs = c.self.inside.regs.regs;
      })) c.push.result c.self.inside.rows.rows (c.self.inside.rows.rows ++
          c.args.item ∷ []) c.push.new.self.rows c.push.ensures.ok c.push.ensures.err placed c.self.invariant.content;
      vector = c.self.invariant.vector;
      places = c.push.ensures.entries ∙ c.self.invariant.places;
      elements = c.push.ensures.elements ∙ c.self.invariant.elements;
    }
