-- The desks are those of a board that begins, and its links those that are down once.
use Rattle.std.proofs.Common.{rules, ◌≡◌, length}
use Rattle.failover.specs.Members.{HasPool}
use Rattle.failover.proofs.OutcomeLaws.{opened}
use Rattle.failover.proofs.open.Goals as goal

pub returns-then-has_pool : goal.returns-then-has_pool
returns-then-has_pool g c =
    let three : length c.in-Ok-start.desks.items ≡ 3 = search rules in
    let pool : HasPool c.in-Ok-start.board = search (rules, c.has_pool.ensures) in
    opened c.in-Ok-start.board c.args.script.now c.in-Ok-start.desks.items c.in-Ok.links.items
    (length c.args.script.now.connectors) c.in-Ok-start.ensures.forms c.in-Ok-start.ensures.callers
    c.in-Ok-start.ensures.links c.in-Ok.ensures.down c.in-Ok-start.ensures.desks three pool
