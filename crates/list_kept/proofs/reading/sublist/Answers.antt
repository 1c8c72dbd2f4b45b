use Rattle.list_kept.proofs.Imports.{records_of}
use Rattle.list_kept.proofs.SublistLaws.{fewer_before, counted_between}
use Rattle.list_kept.proofs.reading.sublist.Goals as goal

pub overflow_sub-result : goal.overflow_sub-result
overflow_sub-result c = rw (c.place_of.ensures.place, c.place_of-2.ensures.place)
    (fewer_before c.args.key.now (records_of c.args.kept.now.content.lists c.args.header) c.place_of.ensures.ordered)

pub returns : goal.returns
returns c = rw (c.place_of.ensures.place, c.place_of-2.ensures.place)
    (counted_between c.args.key.now (records_of c.args.kept.now.content.lists c.args.header) c.place_of.ensures.ordered)
