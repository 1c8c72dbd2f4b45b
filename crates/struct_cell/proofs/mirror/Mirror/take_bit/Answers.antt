use Rattle.struct_cell.proofs.Imports.{arith, ◌<◌, subst, ◌∙◌, MirrorWords}
use Rattle.struct_cell.proofs.MirrorLaws.{bit_taken}
use Rattle.struct_cell.proofs.mirror.Mirror.take_bit.Goals as goal

pub returns-then-is_past-clause-words : goal.returns-then-is_past-clause-words
returns-then-is_past-clause-words c = grind arith

pub returns-clause-words : goal.returns-clause-words
returns-clause-words c = λ before are.
    let inside = c.is_past.ensures.inside c.if-is_past.false in
    bit_taken c.args.self.now c.put.new.self before c.args.change.now c.changed_bit.result c.put.ensures.table inside.0
    (subst (λ (m : MirrorWords). c.args.change.now.index < m.len) c.self.view_is inside.2)
    (λ f is. c.changed_bit.ensures f (c.word-bits.ensures ∙ is)) c.put.ensures.here c.put.ensures.others are
