use Rattle.std.proofs.Common.{◌≡◌, drop, length}
use Rattle.caller_slots.specs.Works.{leaves_from}
use Rattle.caller_walk.specs.Running.{Leads, places_at}
use Rattle.caller_walk.proofs.works.depart_all.Given as goal

abbrev pub invariant-loop-number : goal.invariant-loop-number
invariant-loop-number l = record {
  size : length l.spots ≡ length l.structures;
  leads : Leads l.structures l.items (leaves_from 0 l.structures) (leaves_from l.number (drop l.number l.structures))
      (places_at l.conn l.histories l.fn.spots) (places_at l.conn l.histories l.spots) l.fn.count l.count;
}
