use Rattle.cache_rows.proofs.TallyLaws.{shrinks, counted_out, counted_none}
use Rattle.cache_rows.proofs.CountLaws.{counts_lower, counts_gone, none_gone}
use Rattle.cache_rows.proofs.rows.count_out.Goals as goal

pub subtract-requires-clause-tally : goal.subtract-requires-clause-tally
subtract-requires-clause-tally c = shrinks _ _ _ c.requires.tally c.in-Some.row
    _ _ c.row.ensures.apart c.in-Some.ensures.row c.class.ensures c.elements-elements.ensures.elements

pub subtract-requires-clause-counts : goal.subtract-requires-clause-counts
subtract-requires-clause-counts c = counts_lower _ _ _ _ _ c.in-Some.row c.row.ensures.apart
    c.in-Some.ensures.row c.class.ensures c.stg.ensures c.requires.counts

pub returns-in-Some-clause-counted : goal.returns-in-Some-clause-counted
returns-in-Some-clause-counted c = record {
  tally = counted_out _ _ _ c.requires.tally c.in-Some.row _ _ c.row.ensures.apart
      c.in-Some.ensures.row c.class.ensures c.elements-elements.ensures.elements _ c.subtract.ensures.tally;
  counts = counts_gone _ _ _ _ _ c.in-Some.row c.row.ensures.apart c.in-Some.ensures.row c.class.ensures
      c.stg.ensures c.requires.counts _ c.subtract.ensures.counts;
}

pub returns-in-None-clause-counted : goal.returns-in-None-clause-counted
returns-in-None-clause-counted c = record {
  tally = counted_none _ _ _ c.requires.tally c.in-None.ensures.row;
  counts = none_gone _ _ _ c.in-None.ensures.row c.requires.counts;
}
