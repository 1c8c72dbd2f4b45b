use Rattle.plex_agent.proofs.Imports.{sym, ◌∙◌, subst, arith, with_items_is, length-append, Floor, IsFloorOf}
use Rattle.std.proofs.Math.ListN.{length-set}
use Rattle.plex_agent.proofs.FloorLaws.{hears_before, hears_behind, heard_fits}
use Rattle.plex_agent.proofs.floor.Floor.hear.Goals as goal

pub returns-then-to-from-clause-heard : goal.returns-then-to-from-clause-heard
returns-then-to-from-clause-heard g c =
    let whole = sym c.deref_mut.ensures.value ∙ c.split_at_mut-low.ensures.value in
    let count = c.self.inside.workers.ok.0 in
    hears_before c.split_at_mut-low.result.0.now c.split_at_mut-low.result.1.now c.args.by c.args.on c.self.view_is
    c.requires.floor c.requires.place c.from.ensures c.index.ensures c.in-Some.is c.requires.by c.from-to.ensures
    c.from-from.ensures whole (c.worker.view_is ∙ sym c.index-low-to.is) (c.other.view_is ∙ sym c.index-high-0.is)
    c.hear.ensures.desk c.hear.ensures.from c.split_at_mut-low.ensures.front_len c.if-to-from.true c.index-low-to.is
    c.index-high-0.is (with_items_is c.self.inside.workers _ (grind (arith, length-append, length-set)))

pub returns-then-to-from-clause-of_board : goal.returns-then-to-from-clause-of_board
returns-then-to-from-clause-of_board g c = subst (λ (floor : Floor). IsFloorOf c.args.board.now floor)
    (sym (returns-then-to-from-clause-heard g c)) (heard_fits c.requires.floor c.args.by c.args.on c.requires.by)

pub returns-then-from-to-clause-heard : goal.returns-then-from-to-clause-heard
returns-then-from-to-clause-heard g c =
    let whole = sym c.deref_mut-then-from-to.ensures.value ∙ c.split_at_mut-low-then-from-to.ensures.value in
    let count = c.self.inside.workers.ok.0 in
    hears_behind c.split_at_mut-low-then-from-to.result.0.now c.split_at_mut-low-then-from-to.result.1.now
    c.args.by c.args.on c.self.view_is c.requires.floor c.requires.place
    c.from.ensures c.index.ensures c.in-Some.is c.requires.by c.from-to.ensures c.from-from.ensures
    whole (c.worker-then-from-to.view_is ∙ sym c.index-high-0-then-from-to.is) (c.other-then-from-to.view_is
    ∙ sym c.index-low-from.is) c.hear-then-from-to.ensures.desk c.hear-then-from-to.ensures.from
    c.split_at_mut-low-then-from-to.ensures.front_len c.if-from-to.true c.index-high-0-then-from-to.is
    c.index-low-from.is (with_items_is c.self.inside.workers _ (grind (arith, length-append, length-set)))

pub returns-then-from-to-clause-of_board : goal.returns-then-from-to-clause-of_board
returns-then-from-to-clause-of_board g c = subst (λ (floor : Floor). IsFloorOf c.args.board.now floor)
    (sym (returns-then-from-to-clause-heard g c)) (heard_fits c.requires.floor c.args.by c.args.on c.requires.by)
