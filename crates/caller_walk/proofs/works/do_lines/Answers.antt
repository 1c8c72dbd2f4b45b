use Rattle.std.proofs.Common.{rules, ◌∙◌}
use Rattle.caller_walk.proofs.WorkLaws.{line_leads, line_breaks, line_passes}
use Rattle.caller_walk.proofs.works.do_lines.Goals as goal
use Rattle.caller_walk.proofs.works.do_lines.Goals.{then-line-conn+else-not-do_line, else-line-conn}

pub returns-then-not-do_line-clause-done : goal.returns-then-not-do_line-clause-done
returns-then-not-do_line-clause-done c = line_breaks c.args.structures.now c.args.items.now c.args.conn c.args.lines.now
    c.loop-line.line-index c.line-item.result c.line-item.result (search rules) c.line-item.is _ _ _ _ _ (search rules)
    c.loop-line.invariant.leads c.if-not-do_line.ensures.done

pub loop-line-preserved : goal.loop-line-preserved
loop-line-preserved c = elim c.if-line-conn.branch [
  | then-line-conn+else-not-do_line w ↦ rw (w.spots-is, w.count-is) (record {
    size = w.if-not-do_line.ensures.spots ∙ c.loop-line.invariant.size;
    leads = line_leads c.args.structures.now c.args.items.now c.args.conn c.args.lines.now c.loop-line.line-index
        c.line-item.result c.line-item.result (search rules) c.line-item.is _ _ _ _ _ _ _ (search rules)
        c.loop-line.invariant.leads w.if-not-do_line.ensures.done;
  })
  | else-line-conn w ↦ rw (w.spots-is, w.count-is) (record {
    size = c.loop-line.invariant.size;
    leads = line_passes c.args.structures.now c.args.items.now c.args.conn c.args.lines.now c.loop-line.line-index
        c.line-item.result c.line-item.result (search rules) c.line-item.is _ _ _ _ _ (search rules)
        c.loop-line.invariant.leads;
  })
]
