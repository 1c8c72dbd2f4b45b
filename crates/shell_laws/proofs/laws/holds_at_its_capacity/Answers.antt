use Rattle.shell_laws.proofs.Imports.{arith, content-moved}
use Rattle.shell_laws.proofs.CapacityLaws.{ContentLaws, held-replay}
use Rattle.shell_laws.proofs.laws.holds_at_its_capacity.Goals as goal

pub returns : goal.returns
returns g c =
    let from = g.met.E.Engine g.world.𝓛 g.world.𝓜 g.world.𝓡 ((λ s x. x), (λ x. x), (λ x. x), λ x. x) in
    let laws : ContentLaws g.E.Engine.meaning g.E.Engine.is_kind g.E.Engine.is_content = record {
      content_empty = from.content_empty;
      items_empty = from.items_empty;
      content_done = from.content_done;
      content_leave = from.content_leave;
      content_back = from.content_back;
      content_moved = content-moved g.E.Engine.meaning g.E.Engine.is_kind g.E.Engine.is_content (grind arith);
      need_first = from.need_first;
      need_leave = from.need_leave;
    } in
    record {
      held = grind (arith, held-replay);
    }
