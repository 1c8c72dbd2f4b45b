-- A common command but COPY asks no link.
use Rattle.struct_machine.proofs.Imports.{arith, ◌≡◌, None, false, sym, ◌∙◌, rules, Reply, command_done, room_of, kept_of, shell_cause, is_copying, machine_of, IsJudgedTurn, Ask}
use Rattle.struct_machine.proofs.TurnLaws.{command_asks, ok_map, turn_quiet}
use Rattle.struct_machine.proofs.doing.answer_judged.Goals as goal

pub returns-else-is_copying-clause-turn : goal.returns-else-is_copying-clause-turn
returns-else-is_copying-clause-turn g c =
    let machine = machine_of g.E.Engine.meaning c.args.shell.now
    (kept_of g.E.Engine.held c.args.content.now) in
    let now = machine_of g.E.Engine.meaning c.do_command.new.shell
    (kept_of g.E.Engine.held c.do_command.new.content) in
    let accepted : shell_cause c.args.shell.now.form (room_of g.E.Engine.meaning c.args.shell.now.form machine)
    c.args.shell.now.shell c.args.by c.in-Shell.cmd ≡ None = search rules in
    let other : is_copying c.in-Shell.cmd ≡ false = sym c.is_copying.ensures ∙ c.if-is_copying.false in
    rw c.in-Shell.is (ok_map c.do_command.result (λ (r : Reply g.row.E-Reply.Denot). (record
    { reply = r; machine = now }) ≡ command_done g.E.Engine.meaning c.args.shell.now.form machine c.args.by c.in-Shell.cmd)
    (λ (r : Reply g.row.E-Reply.Denot). IsJudgedTurn g.L.Link.calls g.L.Link.downs g.L.Link.faults
    g.E.Engine.meaning c.args.shell.now.form machine now c.args.content.now.pair.links c.do_command.new.content.pair.links
    c.args.by (Ask.Shell c.in-Shell.cmd) c.do_command.new.changed.marks r) (λ r done. turn_quiet g.E.Engine.meaning
    c.args.shell.now.form g.L.Link.calls g.L.Link.downs g.L.Link.faults machine now c.args.content.now.pair.links
    c.do_command.new.content.pair.links c.args.by (Ask.Shell c.in-Shell.cmd) c.do_command.new.changed.marks
    r (grind (arith, command_asks)) c.do_command.ensures.links (c.do_command.ensures.marks ∙ c.requires.unmarked) (
    grind arith)) c.do_command.ensures.ok)
