use Rattle.list_kept.proofs.Imports.{◌≡◌, length, ap, ◌∙◌, arith, length-replicate, front, front_none, front_all}
use Rattle.list_kept.proofs.DataLaws.{no_chains}
use Rattle.list_kept.proofs.copies.copy_records.Goals as goal

pub loop-header-init : goal.loop-header-init
loop-header-init c = grind (arith, front_none, no_chains, length-replicate)

pub loop-header-preserved : goal.loop-header-preserved
loop-header-preserved c = grind arith

pub returns-clause-lists : goal.returns-clause-lists
returns-clause-lists c =
    let lists = c.args.store.now.lists in
    let end : c.loop-header.header ≡ length lists = omega
    (arith, c.loop-header-test.false, c.headers-header-end.ensures, c.loop-header.auto.header-end) in
    c.loop-header.invariant.0 ∙ ap (λ n. front n 0 lists) end ∙ front_all lists
