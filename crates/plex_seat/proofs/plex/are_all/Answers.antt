-- Desk by desk.
use Rattle.plex_seat.proofs.Imports.{rules, ◌≡◌, ◌<◌, length, get_or, arith, false≢true}
use Rattle.plex_seat.proofs.PlexLaws.{owner_of, owner_at, from_next, all_exactly}
use Rattle.plex_seat.proofs.plex.are_all.Goals as goal

pub loop-desk-preserved : goal.loop-desk-preserved
loop-desk-preserved c =
    let own : owner_of c.desk-item.result ≡ c.loop-desk.desk-index = search rules in
    let below : c.loop-desk.desk-index < length c.args.desks.now = search rules in
    let there : get_or c.args.desks.now c.loop-desk.desk-index c.desk-item.result ≡ c.desk-item.result = search rules in
    record {
      next = omega (arith, c.loop-desk.invariant.next);
      all = λ rest. c.loop-desk.invariant.all
          (from_next c.args.desks.now c.loop-desk.desk-index c.desk-item.result below there own rest);
    }

pub returns : goal.returns
returns c =
    let end : c.loop-desk.desk-index ≡ length c.args.desks.now = search rules in
    all_exactly c.args.desks.now c.loop-desk.next c.loop-desk.desk-index c.args.count c.loop-desk.invariant.next end
    c.loop-desk.invariant.all

pub returns-then-from-next : goal.returns-then-from-next
returns-then-from-next c =
    let below : c.loop-desk.desk-index < length c.args.desks.now = search rules in
    let there : get_or c.args.desks.now c.loop-desk.desk-index c.desk-item.result ≡ c.desk-item.result = search rules in
    let other : owner_of c.desk-item.result ≡ c.loop-desk.desk-index → ⊥ = search rules in (
      λ never. absurd (false≢true never),
      λ are. absurd (other
          (owner_at c.args.desks.now c.loop-desk.desk-index c.args.count c.desk-item.result below there are)),
    )
