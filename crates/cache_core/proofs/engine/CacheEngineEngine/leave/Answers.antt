use Rattle.cache_core.proofs.Imports.{◌∙◌, arith, length-filter-le, content-without, content_of}
use Rattle.cache_core.specs.EngineView.{bound_of}
use Rattle.cache_core.proofs.engine.CacheEngineEngine.leave.Goals as goal

pub drop_conn-requires : goal.drop_conn-requires
drop_conn-requires c = grind (arith, length-filter-le)

pub invariant_of-self : goal.invariant_of-self
invariant_of-self c = record {
  cache = c.self.invariant.cache;
  base = c.self.invariant.base;
  within = c.self.invariant.within;
  content = rw (c.release.ensures.rows, c.drop_conn.ensures.regs) (content-without (bound_of c.self.inside.base)
      (content_of c.self.inside) c.args.conn c.self.invariant.content);
  vector = c.drop_conn.ensures.len ∙ c.self.invariant.vector;
  places = c.release.ensures.entries ∙ c.self.invariant.places;
  elements = c.release.ensures.elements ∙ c.self.invariant.elements;
}
