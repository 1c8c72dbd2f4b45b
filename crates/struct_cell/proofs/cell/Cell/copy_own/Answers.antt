use Rattle.struct_cell.proofs.Imports.{ap, sym, ◌∙◌, calls_of, reply_at}
use Rattle.struct_cell.proofs.ToldLaws.{reply_own}
use Rattle.struct_cell.proofs.cell.Cell.copy_own.Goals as goal

pub returns-clause-reply : goal.returns-clause-reply
returns-clause-reply g c = c.in_ok-reply.ensures ∙ ap (λ journal. reply_at journal c.owner.result c.args.no)
    c.as_slice.ensures.value ∙ reply_own g.L.Link.calls g.L.Link.downs g.L.Link.faults g.E.Engine.meaning
    c.args.self.now c.args.inside.now.limit c.args.inside.now.machine c.args.inside.now.touched
    c.args.inside.now.journal.items c.args.inside.now.seat c.requires.cell c.owner.result c.args.pass.now.mine
    c.args.no (c.learn.ensures.mine ∙ ap (λ owner. calls_of owner c.args.inside.now.seat.log) (sym c.owner.ensures))
