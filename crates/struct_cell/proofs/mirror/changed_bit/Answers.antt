use Rattle.struct_cell.proofs.Imports.{rules, ◌<◌, ◌^◌, ap, sym, ◌∙◌}
use Rattle.struct_cell.proofs.{Binary.one_if, MirrorLaws.bit_put}
use Rattle.struct_cell.proofs.mirror.changed_bit.Goals as goal

pub returns-then-bit : goal.returns-then-bit
returns-then-bit c = λ f was.
    let small : c.with_one.result < 2 ^ 32 = search rules in
    bit_put f c.args.bits c.with_one.result c.args.place c.args.bit small
    (c.with_one.ensures.here ∙ ap one_if (sym c.if-bit.true)) (λ k less apart. c.with_one.ensures.others k apart) was

pub returns-else-bit : goal.returns-else-bit
returns-else-bit c = λ f was.
    let small : c.without_one.result < 2 ^ 32 = search rules in
    bit_put f c.args.bits c.without_one.result c.args.place c.args.bit small
    (c.without_one.ensures.here ∙ ap one_if (sym c.if-bit.false)) c.without_one.ensures.others was
