use Rattle.std.proofs.Common.{get_or, refl, rules}
use Rattle.caller_walk.proofs.WorkLaws.{depart_read}
use Rattle.caller_walk.proofs.works.depart.Goals as goal

pub returns-clause-done : goal.returns-clause-done
returns-clause-done c = depart_read c.args.conn c.args.structures.now c.args.items.now c.args.number
    c.args.histories.now c.args.spots.now
    (get_or c.args.structures.now c.from-place.result c.index-structures-place.result)
    c.index-structures-place.result c.index-histories-place.result _
    c.leave-done.new.spot c.args.count.now c.leave-done.new.count c.leave-done.result c.from-place.result (search rules)
    c.requires.there c.requires.many c.requires.spots refl c.index-histories-place.is
    c.leave-done.ensures
