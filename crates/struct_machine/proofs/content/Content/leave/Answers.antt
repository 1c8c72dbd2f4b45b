-- A content that somebody left is one, and a copy of it begins anew.
use Rattle.struct_machine.proofs.Imports.{content_of}
use Rattle.struct_machine.proofs.ContentLaws.{LeaveLaws, left_standing}
use Rattle.struct_machine.proofs.content.Content.leave.Goals as goal

pub invariant_of-self : goal.invariant_of-self
invariant_of-self g c =
    let from = g.met.E.Engine g.world.𝓛 g.world.𝓜 g.world.𝓡 ((λ s x. x), (λ x. x), (λ x. x), λ x. x) in
    let laws : LeaveLaws g.E.Engine.meaning g.E.Engine.is_kind g.E.Engine.is_content g.E.Engine.is_order = record {
      content = from.content_leave;
      need = from.need_leave;
    } in
    left_standing g.E.Engine.meaning g.E.Engine.is_kind g.E.Engine.is_content g.E.Engine.is_order laws (content_of
    g.E.Engine.held c.self.inside.pair) (content_of g.E.Engine.held c.leave.new.self) c.self.inside.filling
    c.begin_anew.new.filling c.args.conn c.args.keep c.leave.ensures.content c.begin_anew.ensures c.self.invariant
