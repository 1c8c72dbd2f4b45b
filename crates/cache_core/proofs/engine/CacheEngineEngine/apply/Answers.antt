use Rattle.cache_core.proofs.Imports.{List, refl, ap, sym, ◌∙◌, subst, Name16, gains_none, Content, IsContent, after, content-done, IsIndexed, content_of}
use Rattle.cache_core.proofs.PlanLaws.{taken_accepted, spared_victims, indexed}
use Rattle.cache_model.proofs.ContentLaws.{bounded-done}
use Rattle.cache_core.specs.EngineView.{bound_of}
use Rattle.cache_core.proofs.BaseLaws.{less}
use Rattle.cache_core.proofs.engine.CacheEngineEngine.apply.Goals as goal

pub act-requires-clause-spared : goal.act-requires-clause-spared
act-requires-clause-spared c =
    let accepted = taken_accepted _ _ c.args.by c.args.cmd.now _ _ _ c.self.view_is c.requires.ready.planned
    c.take.ensures.value c.in-Some.is c.in-Ok.is in
    rw (c.items.ensures, accepted.gone) (spared_victims c.self.inside.caps c.self.inside.rows.rows c.args.cmd.now
    c.self.invariant.content.directory)

pub act-requires-clause-index : goal.act-requires-clause-index
act-requires-clause-index c =
    let e = c.self.inside in
    let accepted = taken_accepted _ _ c.args.by c.args.cmd.now _ _ _ c.self.view_is c.requires.ready.planned
    c.take.ensures.value c.in-Some.is c.in-Ok.is in
    subst (λ n. IsIndexed n c.args.cmd.now) (sym c.self.invariant.vector)
    (indexed e.shape.vector e.caps (content_of e) c.args.by c.args.cmd.now accepted.none)

pub act-requires-clause-fits : goal.act-requires-clause-fits
act-requires-clause-fits c =
    let e = c.self.inside in
    let accepted = taken_accepted _ _ c.args.by c.args.cmd.now _ _ _ c.self.view_is c.requires.ready.planned
    c.take.ensures.value c.in-Some.is c.in-Ok.is in
    rw (c.items.ensures, accepted.gone, c.self.invariant.elements) (bounded-done e.caps (bound_of e.base)
    (less e.caps e.base c.self.invariant.within) e.shape.vector (content_of e) c.args.by c.args.cmd.now c.self.invariant.content accepted.none).elements

pub invariant_of-self : goal.invariant_of-self
invariant_of-self c =
    let e = c.self.inside in
    let accepted = taken_accepted _ _ c.args.by c.args.cmd.now _ _ _ c.self.view_is c.requires.ready.planned
    c.take.ensures.value c.in-Some.is c.in-Ok.is in
    let left = c.act.ensures.content
    ∙ ap (λ (l : List Name16). after l (content_of e) c.args.by c.args.cmd.now) (c.items.ensures ∙ accepted.gone) in
    record {
      cache = c.self.invariant.cache;
      base = c.self.invariant.base;
      within = c.self.invariant.within;
      content = subst (λ (k : Content). IsContent (bound_of e.base) k) (sym left) (bounded-done e.caps (bound_of e.base)
          (less e.caps e.base c.self.invariant.within) e.shape.vector (content_of e) c.args.by c.args.cmd.now c.self.invariant.content accepted.none);
      vector = c.act.ensures.len ∙ c.self.invariant.vector;
      places = c.act.ensures.entries ∙ c.self.invariant.places;
      elements = c.act.ensures.elements ∙ c.self.invariant.elements;
    }

pub returns-in-Some-clause-bits : goal.returns-in-Some-clause-bits
returns-in-Some-clause-bits c = rw (← c.self.view_is) (gains_none _ _ _ (λ conn index. refl))
