use Rattle.std.proofs.Common.{rules, ◌∙◌}
use Rattle.caller_walk.proofs.WorkLaws.{depart_goes, depart_fails}
use Rattle.caller_walk.specs.Running.{places_at}
use Rattle.caller_walk.proofs.works.depart_all.Goals as goal

pub returns-then-not-depart-clause-done : goal.returns-then-not-depart-clause-done
returns-then-not-depart-clause-done c = depart_fails c.args.structures.now c.args.items.now c.loop-number.number
    (search rules) _ _ _ _ _ c.loop-number.invariant.leads
    (places_at c.args.conn c.args.histories.now c.depart.new.spots) c.depart.new.count c.if-not-depart.ensures.done

pub loop-number-preserved : goal.loop-number-preserved
loop-number-preserved c = record {
  size = c.if-not-depart.ensures.spots ∙ c.loop-number.invariant.size;
  leads = depart_goes c.args.structures.now c.args.items.now c.loop-number.number (search rules) _ _ _ _ _
      c.loop-number.invariant.leads _ _ c.if-not-depart.ensures.done;
}
