-- A command on the content leaves the instances where they stand.
use Rattle.struct_machine.proofs.Imports.{arith, ◌≡◌, rules, letters_by, kept_of}
use Rattle.struct_machine.proofs.ChangeLaws.{gains_held}
use Rattle.struct_machine.proofs.KeptLaws.{content_stands, held_stands, answered_some, content_alone, content_same, kept_content}
use Rattle.struct_machine.proofs.doing.apply.Goals as goal

pub apply-answer-requires-clause-stands : goal.apply-answer-requires-clause-stands
apply-answer-requires-clause-stands g c κs within = grind (arith, held_stands, content_stands)

pub apply-answer-requires-clause-alone : goal.apply-answer-requires-clause-alone
apply-answer-requires-clause-alone g c κs within = content_alone g.E.Engine.meaning c.args.shell.now (kept_of g.E.Engine.held c.args.content.now) c.requires.of_form c.args.by c.requires.accepted

pub returns-clause-done : goal.returns-clause-done
returns-clause-done g c =
    let kept = kept_of g.E.Engine.held c.args.content.now in
    let of = c.requires.of_form in
    let sent : c.items.result.now ≡ letters_by g.E.Engine.meaning c.args.by c.args.cmd.now kept.held = search rules in
    rw c.content_reply.ensures (content_same g.E.Engine.meaning
    c.args.shell.now c.post_all.new.shell kept (kept_of g.E.Engine.held c.apply-answer.new.self)
    c.items.result.now c.args.by c.args.cmd.now c.apply-answer.result of
    (grind (arith, held_stands, content_stands))
    c.post_all.ensures.form c.post_all.ensures.shell sent c.apply-answer.ensures.step (content_alone g.E.Engine.meaning
    c.args.shell.now kept of c.args.by c.requires.accepted) c.apply-answer.ensures.fresh)

pub returns-clause-bits : goal.returns-clause-bits
returns-clause-bits g c = grind (arith, gains_held, answered_some, held_stands, content_stands)

pub returns-clause-of_form : goal.returns-clause-of_form
returns-clause-of_form g c =
    let kept = kept_of g.E.Engine.held c.args.content.now in
    let of = c.requires.of_form in
    kept_content g.E.Engine.meaning c.args.shell.now c.post_all.new.shell kept (kept_of
    g.E.Engine.held c.apply-answer.new.self) c.items.result.now c.args.by c.args.cmd.now c.apply-answer.result of
    c.post_all.ensures.form c.post_all.ensures.shell c.apply-answer.ensures.step c.apply-answer.ensures.places
    (content_alone g.E.Engine.meaning c.args.shell.now kept of c.args.by c.requires.accepted)
    c.apply-answer.ensures.fresh
