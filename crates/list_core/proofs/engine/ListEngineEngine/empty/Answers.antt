use Rattle.list_core.proofs.Imports.{ap, ◌∙◌, Shape, content-nothing, is_list}
use Rattle.list_core.proofs.engine.ListEngineEngine.empty.Goals as goal

pub invariant_of-result : goal.invariant_of-result
invariant_of-result c = record {
  list = ap (λ (s : Shape). is_list s.kind) c.of-shape.ensures ∙ c.requires.kind;
  caps = c.requires.caps;
  content = rw c.in_ok-kept.ensures.content (content-nothing c.of-shape.result c.args.caps);
  pool = c.in_ok-kept.ensures.elements;
  vector = c.in_ok-kept.ensures.vector;
}
