use Rattle.vec_world.proofs.Imports.{arith, take_all, All-more, FitsHalf}
use Rattle.vec_world.proofs.WorldLaws.{IsSound, sound-world_of, genuine_from_sound}
use Rattle.vec_world.proofs.LoadLaws.{each_load_tells, world_of-more}
use Rattle.vec_world.proofs.machine.run.Goals as goal

pub loop-step-preserved : goal.loop-step-preserved
loop-step-preserved c =
    let steps = c.args.steps.now in
    let within = c.loop-step-test.true in (
      world_of-more _ _ _ _ _ _ _ within c.loop-step.invariant.0 c.in_ok-act.ensures.ok,
      All-more FitsHalf steps c.loop-step.step-index _ within c.loop-step.invariant.1 c.in_ok-act.ensures.fits,
    )

pub returns-clause-fresh : goal.returns-clause-fresh
returns-clause-fresh c = grind (arith, each_load_tells, take_all)

pub returns-clause-genuine : goal.returns-clause-genuine
returns-clause-genuine c = grind (arith, genuine_from_sound, IsSound, sound-world_of)
