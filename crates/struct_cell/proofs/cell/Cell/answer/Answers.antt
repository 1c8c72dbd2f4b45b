use Rattle.struct_cell.proofs.Imports.{rules, arith, ◌≤◌, ◌+◌, length, refl, ap, sym, ◌∙◌, count_of, stands_at, untouched_same, entered}
use Rattle.struct_cell.proofs.TurnLaws.{length-entered, number-later, few_marks}
use Rattle.struct_cell.proofs.{KeptLaws.cell_answered, ToldLaws.issued_within}
use Rattle.struct_cell.proofs.cell.Cell.answer.Goals as goal

pub returns-clause-cell : goal.returns-clause-cell
returns-clause-cell g c = cell_answered g.L.Link.calls g.L.Link.downs g.L.Link.faults g.E.Engine.meaning
    c.args.self.now c.args.inside.now.limit c.args.inside.now.machine c.answer.new.self c.args.inside.now.touched
    c.note.new.self c.args.inside.now.journal.items c.enter_marks.new.journal.items c.push_reserved.new.self.items
    c.answer.new.changed.marks c.args.inside.now.seat c.learn.new.seat c.begin.new.seat c.store_words.new.seat
    c.commit_call.new.seat c.self.inside.vectors c.note.new.self.places _ c.args.pass.now.owner
    c.owner-by.result c.args.ask c.in_ok-reply.reply c.requires.cell c.in_ok-reply.ensures.turn
    c.answer.ensures.form c.note.ensures.table (search rules) (λ conn index some most inside spared. untouched_same
    (stands_at g.E.Engine.meaning c.args.inside.now.machine.machine)
    (stands_at g.E.Engine.meaning c.answer.new.self.machine) c.answer.new.changed
    c.in_ok-reply.ensures.bits conn index (c.note.ensures.spared conn index some most inside spared)) (grind arith)
    (sym c.self.invariant.0 ∙ ap (λ k. k.words) c.self.view_is) refl c.learn.ensures.seat (grind arith) (search rules)
    (search rules) c.learn.ensures.owner c.begin.ensures.seat c.store_words.ensures (search rules) (search rules)

pub returns-clause-later : goal.returns-clause-later
returns-clause-later g c = number-later c.args.inside.now.journal.items c.enter_marks.new.journal.items
    c.marks.result.now c.args.pass.now.known (c.len.result + 1) _ (issued_within g.L.Link.calls
    g.L.Link.downs g.L.Link.faults g.E.Engine.meaning c.args.self.now c.args.inside.now.limit
    c.args.inside.now.machine c.args.inside.now.touched c.args.inside.now.journal.items c.args.inside.now.seat
    c.requires.cell c.args.pass.now.known c.learn.ensures.before) (grind arith) (grind arith) (grind arith)

-- two marks at most: there is room for them, and the numbers fit

pub enter_marks-requires-clause-room : goal.enter_marks-requires-clause-room
enter_marks-requires-clause-room g c = grind (arith, few_marks)

pub enter_marks-requires-clause-short : goal.enter_marks-requires-clause-short
enter_marks-requires-clause-short g c = grind (arith, few_marks)

pub overflow_cast-no : goal.overflow_cast-no
overflow_cast-no g c = grind (arith, few_marks, length-entered)

pub overflow_add-no : goal.overflow_add-no
overflow_add-no g c = grind (arith, few_marks, length-entered)

pub begin-requires-clause-above : goal.begin-requires-clause-above
begin-requires-clause-above g c =
    let old : count_of c.learn.new.seat.log ≤ length c.args.inside.now.journal.items = grind arith in
    number-later c.args.inside.now.journal.items c.enter_marks.new.journal.items c.marks.result.now
    (count_of c.learn.new.seat.log) (c.len.result + 1) _ old
    (c.enter_marks.ensures.items ∙ ap (λ h. entered h c.marks.result.now) c.in_ok-reserve_entries.ensures.items)
    (ap (λ n. n + 1) (c.len.ensures ∙ c.enter_marks.new.journal.ok.0)) refl
