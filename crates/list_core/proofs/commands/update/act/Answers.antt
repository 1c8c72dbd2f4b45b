use Rattle.list_core.proofs.Imports.{◌∙◌, ap, sym, subst, Record, record_of, lists_replaced, Bare, renewed, IsOrderly}
use Rattle.list_core.proofs.FoundLaws.{found-any, found-renewed}
use Rattle.list_core.proofs.commands.update.act.Goals as goal

pub replace-requires-clause-there : goal.replace-requires-clause-there
replace-requires-clause-there c =
    rw c.updated-bare.ensures (found-any c.args.kept.now.content.lists c.args.at c.requires.found)

pub replace-requires-clause-orderly : goal.replace-requires-clause-orderly
replace-requires-clause-orderly c =
    let lists = c.args.kept.now.content.lists in
    let is = ap (λ (b : Bare). renewed b c.args.body.now (record_of b.id lists)) c.updated-bare.ensures
    ∙ found-renewed lists c.args.at c.args.body.now c.args.adj c.requires.found in
    subst (λ (rec : Record). IsOrderly c.args.kept.now.elements (lists_replaced rec lists)) (sym is)
    c.requires.orderly
