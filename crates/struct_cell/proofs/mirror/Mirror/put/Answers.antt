use Rattle.struct_cell.proofs.Imports.{arith, ap, sym, subst, ◌∙◌, IsWithin, MirrorWords, word_at}
use Rattle.struct_cell.proofs.MirrorLaws.{put_other}
use Rattle.struct_cell.proofs.mirror.Mirror.put.Goals as goal

pub returns-clause-others : goal.returns-clause-others
returns-clause-others c = λ conn word some within apart. put_other c.self.inside.conns c.self.inside.len
    c.self.inside.words.items c.args.place c.number_of-number.result c.args.bits conn word
    (subst (λ (m : MirrorWords). IsWithin m.conns m.len c.args.place) (sym c.self.view_is) c.requires)
    c.number_of-number.ensures.number some (grind arith) apart
    ∙ ap (λ (m : MirrorWords). word_at m.len m.words conn word) c.self.view_is
