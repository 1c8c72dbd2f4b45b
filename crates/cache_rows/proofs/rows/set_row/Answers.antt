use Rattle.cache_rows.proofs.Imports.{arith, le-leb, refl}
use Rattle.cache_rows.proofs.TallyLaws.{can_grow, tally_come}
use Rattle.cache_rows.proofs.CountLaws.{counts_grow, counts_come}
use Rattle.cache_rows.proofs.rows.set_row.Goals as goal

pub add-requires-clause-room : goal.add-requires-clause-room
add-requires-clause-room c = can_grow
    _ _ c.count_out-elements.ensures.counted.tally (omega (arith, c.count_out-elements.ensures.fewer, c.requires.less))

pub add-requires-clause-below : goal.add-requires-clause-below
add-requires-clause-below c = counts_grow _ _ c.count_out-elements.ensures.counted.counts (omega (
  arith,
  c.count_out-elements.ensures.counted.tally.rows,
  c.count_out-elements.ensures.fewer,
  c.requires.less,
))

pub returns-clause-counted : goal.returns-clause-counted
returns-clause-counted c =
    let label = c.args.label.now in
    let rows = c.args.directory.now.rows in
    let sized = c.count_out-elements.ensures.taken in
    record {
      tally = tally_come _ _ _ _ _ c.count_out-elements.ensures.counted.tally (grind arith) (grind (arith, le-leb))
          c.set.ensures.rows;
      counts = counts_come _ _ _ _ _ _ _ c.count_out-elements.ensures.counted.counts refl refl c.add.ensures.counts
          c.set.ensures.rows;
    }
