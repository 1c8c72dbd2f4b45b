use Rattle.plex_board.proofs.Imports.{length, ap, arith, All-get_or, take_all, into_iter_items}
use Rattle.plex_board.proofs.StartLaws.{forms-more, links-more, start-none, count-more, opened-cells, opened-links, opened-desks}
use Rattle.plex_board.proofs.board.Board.start.Goals as goal

pub loop-form-init : goal.loop-form-init
loop-form-init g c =
    let none = start-none _ _ _ c.in-Ok.ensures.none c.into_iter-left.ensures.rest in
    record {
      opening = c.in-Ok.ensures.opening c.args.limit;
      forms = none.0;
      count = none.1;
      links = none.2;
      left = omega (arith, c.into_iter-left.ensures.len, c.requires.links);
    }

pub add-requires-clause-formed : goal.add-requires-clause-formed
add-requires-clause-formed g c κs within = grind (arith, All-get_or)

pub loop-form-preserved : goal.loop-form-preserved
loop-form-preserved g c =
    let before = c.loop-form.invariant in
    record {
      opening = c.in-Ok-add.ensures.opening;
      forms = forms-more c.items-form-items.result.now c.loop-form.form-index c.form-item.result _ _
          c.loop-form-test.true c.form-item.is before.forms c.in-Ok-add.ensures.forms;
      count = count-more c.loop-form.opening.stations.items _ c.form-item.result _
          c.in-Ok-add.ensures.forms before.count;
      links = links-more _ _ _ _ _ _ c.in-Ok-add.ensures.links before.links c.next_four-four.ensures.items;
      left = omega (arith, c.next_four-four.ensures.len, before.left);
    }

pub returns-clause-forms : goal.returns-clause-forms
returns-clause-forms g c = grind (arith, All-get_or, take_all)

pub returns-clause-cells : goal.returns-clause-cells
returns-clause-cells g c = opened-cells c.loop-form.opening.stations.items
    (length c.items.result.now) (into_iter_items c.loop-form.left) c.open.result _ c.args.limit
    (ap length c.items.ensures) c.loop-form.invariant.opening.started c.open.ensures.board

pub returns-clause-links : goal.returns-clause-links
returns-clause-links g c = opened-links c.loop-form.opening.stations.items (length c.items.result.now)
    (into_iter_items c.loop-form.left) c.open.result _ c.loop-form.invariant.links c.open.ensures.board

pub returns-clause-desks : goal.returns-clause-desks
returns-clause-desks g c =
    opened-desks c.loop-form.opening.stations.items (length c.items.result.now) (into_iter_items c.loop-form.left)
    c.open.result _ (ap length c.items.ensures) c.open.ensures.board c.open.ensures.desks
