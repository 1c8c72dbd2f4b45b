-- A capacity and the base that it is within.
use Rattle.cache_core.proofs.Imports.{arith}
use Rattle.std.proofs.Common.{◌≤◌}
use Rattle.cf_types.specs.declared.forms.Caps.{Caps}
use Rattle.engine_api.specs.Instances.{units_of}
use Rattle.engine_api.specs.Items.{IsNoMore}
use Rattle.cache_model.specs.Contents.{Content, IsContent}
use Rattle.cache_core.specs.EngineView.{bound_of}

pub less : (caps base : Caps) → units_of caps ≤ units_of base → IsNoMore caps (bound_of base)
less caps base within = (omega (arith, within), omega (arith, within))

-- a content is one at a greater capacity
pub wider : (caps bound : Caps) (content : Content) → IsNoMore caps bound → IsContent caps content
    → IsContent bound content
wider caps bound content more is = record {
  directory = is.directory;
  entries = omega (arith, is.entries, more.0);
  elements = omega (arith, is.elements, more.1);
  registry = is.registry;
  row_each = is.row_each;
}
