use Rattle.engine_api.specs.Shapes.{shape_of}
use Rattle.engine_api.specs.History.{replay}
use Rattle.alter_model.specs.Meaning.{alter_meaning, caps_or}
use Rattle.cf_alter.proofs.laws.fits_its_limits.Goals as goal

pub returns : goal.returns
returns g c =
    let from = g.met.E.SetCaps g.world.𝓛 g.world.𝓜 g.world.𝓡 ((λ s x. x), (λ x. x), (λ x. x), λ x. x) in
    let held = c.holds_at_its_capacity.ensures.held in
    let machine = replay (alter_meaning g.E.Engine.meaning) c.args.form.now c.args.history.now in
    record {
      limited = record {
        limits = held.content.limits;
        target = held.content.target;
        need = from.content_fits (shape_of c.args.form.now) (caps_or machine.content.limits machine.shell.caps)
            machine.content.inner c.requires.kind held.content.inner;
      };
    }
