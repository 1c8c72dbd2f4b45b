use Rattle.std.proofs.Common.{◌≡◌, drop, length}
use Rattle.caller_walk.specs.Running.{Leads, own_lines, places_at}
use Rattle.caller_walk.proofs.works.do_lines.Given as goal

abbrev pub invariant-loop-line : goal.invariant-loop-line
invariant-loop-line l = record {
  size : length l.spots ≡ length l.structures;
  leads : Leads l.structures l.items (own_lines l.conn l.lines) (own_lines l.conn (drop l.line-index l.lines))
      (places_at l.conn l.histories l.fn.spots) (places_at l.conn l.histories l.spots) l.fn.count l.count;
}
