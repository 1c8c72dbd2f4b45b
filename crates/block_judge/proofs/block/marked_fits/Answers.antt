use Rattle.std.proofs.Common.{rules, ◌≡◌, true, [], ◌∷◌, subst}
use Rattle.engine_api.specs.LinkAsks.{Asks}
use Rattle.engine_api.specs.Points.{AreMarksOf}
use Rattle.block_laws.proofs.Stands.{first_stands}
use Rattle.struct_machine.specs.Turns.{asks_in}
use Rattle.block_judge.proofs.Cases.{first_in}
use Rattle.block_judge.proofs.block.marked_fits.Goals as goal

pub mark_and_call-requires-clause-facility : goal.mark_and_call-requires-clause-facility
mark_and_call-requires-clause-facility g c κs within =
    let yes : c.may_mark.result ≡ true = search rules in
    first_in (asks_in c.asks.result) c.in-Some.cf [] c.asks.ensures.places (c.may_mark.ensures.0 yes)

pub mark_and_call-requires-clause-there : goal.mark_and_call-requires-clause-there
mark_and_call-requires-clause-there g c κs within =
    let yes : c.may_mark.result ≡ true = search rules in
    first_stands g.E.Engine.meaning c.args.machine.now.form c.args.machine.now.machine c.args.entry.now.by
    c.args.ask.now c.in-Some.cf [] (subst (λ (asks : Asks). AreMarksOf asks (c.in-Some.cf ∷ [])) c.asks.ensures.asks
    (c.may_mark.ensures.0 yes))
