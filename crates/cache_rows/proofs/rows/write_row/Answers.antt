use Rattle.cache_rows.proofs.Imports.{Some, arith, le-leb, refl, elements_of, rows_without, item_with}
use Rattle.cache_rows.proofs.TallyLaws.{can_grow, tally_come}
use Rattle.cache_rows.proofs.CountLaws.{counts_grow, counts_come}
use Rattle.cache_rows.proofs.rows.write_row.Goals as goal

pub add-requires-clause-room : goal.add-requires-clause-room
add-requires-clause-room c = can_grow _ (rows_without c.args.label.now.name c.args.directory.now.rows)
    c.count_out.ensures.counted.tally (omega (arith, c.count_out.ensures.fewer, c.requires.less))

pub add-requires-clause-below : goal.add-requires-clause-below
add-requires-clause-below c = counts_grow _ _ c.count_out.ensures.counted.counts (omega (
  arith,
  c.count_out.ensures.counted.tally.rows,
  c.count_out.ensures.fewer,
  c.requires.less,
))

pub returns-clause-counted : goal.returns-clause-counted
returns-clause-counted c =
    let label = c.args.label.now in
    let rows = c.args.directory.now.rows in
    let row = item_with label (Some c.args.body.now) in
    let sized = c.elements.ensures.elements in
    record {
      tally = tally_come c.count_out.new.totals.tally _ row (rows_without label.name rows) _
          c.count_out.ensures.counted.tally (grind arith)
          (le-leb (elements_of row.body) 16 (omega (arith, sized, c.elements.ensures.few))) c.write.ensures.rows;
      counts = counts_come _ _ _ _ row (rows_without label.name rows) _ c.count_out.ensures.counted.counts refl refl
          c.add.ensures.counts c.write.ensures.rows;
    }
