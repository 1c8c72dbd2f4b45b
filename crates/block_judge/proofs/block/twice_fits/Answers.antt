use Rattle.std.proofs.Common.{rules, ◌≡◌, true, [], ◌∷◌, subst, Some}
use Rattle.engine_api.specs.LinkAsks.{Asks}
use Rattle.engine_api.specs.Points.{AreMarksOf}
use Rattle.block_laws.proofs.Stands.{first_stands, other_stands}
use Rattle.struct_machine.specs.Turns.{asks_in}
use Rattle.block_judge.specs.Fits.{facility_told}
use Rattle.block_judge.proofs.Cases.{first_in, other_in, two_answered}
use Rattle.block_judge.proofs.block.twice_fits.Goals as goal

pub marks_and_call-requires-clause-facility : goal.marks_and_call-requires-clause-facility
marks_and_call-requires-clause-facility g c κs within =
    let yes : c.may_mark_both.result ≡ true = search rules in
    first_in (asks_in c.asks.result) c.in-Some.cf (c.in-Some-facility.next ∷ []) c.asks.ensures.places
    (c.may_mark_both.ensures.0 yes)

pub marks_and_call-requires-clause-other : goal.marks_and_call-requires-clause-other
marks_and_call-requires-clause-other g c κs within =
    let yes : c.may_mark_both.result ≡ true = search rules in
    other_in (asks_in c.asks.result) c.in-Some.cf c.in-Some-facility.next [] c.asks.ensures.places
    (c.may_mark_both.ensures.0 yes)

pub marks_and_call-requires-clause-there : goal.marks_and_call-requires-clause-there
marks_and_call-requires-clause-there g c κs within =
    let yes : c.may_mark_both.result ≡ true = search rules in
    first_stands g.E.Engine.meaning c.args.machine.now.form c.args.machine.now.machine c.args.entry.now.by
    c.args.ask.now c.in-Some.cf (c.in-Some-facility.next ∷ []) (subst (λ (asks : Asks). AreMarksOf
    asks (c.in-Some.cf ∷ c.in-Some-facility.next ∷ [])) c.asks.ensures.asks (c.may_mark_both.ensures.0 yes))

pub marks_and_call-requires-clause-behind : goal.marks_and_call-requires-clause-behind
marks_and_call-requires-clause-behind g c κs within =
    let yes : c.may_mark_both.result ≡ true = search rules in
    other_stands g.E.Engine.meaning c.args.machine.now.form c.args.machine.now.machine c.args.entry.now.by
    c.args.ask.now c.in-Some.cf c.in-Some-facility.next [] (subst (λ (asks : Asks). AreMarksOf
    asks (c.in-Some.cf ∷ c.in-Some-facility.next ∷ [])) c.asks.ensures.asks (c.may_mark_both.ensures.0 yes))

pub returns-clause-judged : goal.returns-clause-judged
returns-clause-judged g c =
    let yes : c.may_mark_both.result ≡ true = search rules in
    let lost : facility_told c.args.mark.now.what ≡ Some c.in-Some.cf = search rules in
    let also : facility_told c.args.other.now.what ≡ Some c.in-Some-facility.next = search rules in
    two_answered g.E.Engine.meaning c.args.machine.now.form c.args.machine.now.machine c.args.count c.args.entry.now
    c.args.ask.now c.requires.asks c.marks_and_call.new.machine.machine c.args.mark.now c.args.other.now c.in-Some.cf
    c.in-Some-facility.next c.marks_and_call.result lost also
    (subst (λ (asks : Asks). AreMarksOf asks (c.in-Some.cf ∷ c.in-Some-facility.next ∷ [])) c.asks.ensures.asks
    (c.may_mark_both.ensures.0 yes)) c.marks_and_call.ensures.fits c.marks_and_call.ensures.left
