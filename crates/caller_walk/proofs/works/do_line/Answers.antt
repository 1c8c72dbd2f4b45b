use Rattle.std.proofs.Common.{rules}
use Rattle.caller_walk.proofs.WorkLaws.{line_read}
use Rattle.caller_walk.proofs.works.do_line.Goals as goal

pub returns-clause-done : goal.returns-clause-done
returns-clause-done c = line_read c.args.conn c.args.structures.now c.args.items.now c.args.line.now
    c.args.histories.now c.args.spots.now c.index-structures-place.result c.index-histories-place.result _
    c.act-done.new.spot c.args.count.now c.act-done.new.count c.act-done.result c.from-place.result (search rules)
    (search rules) c.requires.many c.requires.spots c.index-structures-place.is c.index-histories-place.is
    c.act-done.ensures
