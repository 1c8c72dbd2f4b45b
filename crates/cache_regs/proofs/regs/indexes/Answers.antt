use Rattle.cache_regs.proofs.Imports.{◌≡◌, ◌++◌, ap, ◌∙◌, arith, registered_at, named_at}
use Rattle.cache_regs.proofs.ListedLaws.{listed_first, listed_more, listed_all}
use Rattle.cache_regs.proofs.regs.indexes.Goals as goal

pub loop-index-init : goal.loop-index-init
loop-index-init c = c.new-list.ensures.items ∙ listed_first c.args.conn c.args.maps.now.regs

pub loop-index-preserved : goal.loop-index-preserved
loop-index-preserved c = c.in_ok-push_at.ensures
    ∙ ap (λ l. l ++ named_at c.loop-index.index (registered_at c.args.maps.now.regs c.args.conn c.loop-index.index))
    c.loop-index.invariant ∙ listed_more c.args.conn c.loop-index.index c.args.maps.now.regs c.requires.ordered

pub returns : goal.returns
returns c =
    let end : c.loop-index.index ≡ c.args.len = omega arith in
    c.loop-index.invariant ∙ listed_all c.args.conn c.loop-index.index c.args.maps.now.regs (grind arith)
