use Rattle.cache_regs.proofs.Imports.{◌≡◌, ◌≤◌, length, Gains, Falls, stands}
use Rattle.cache_regs.proofs.ends.end_all.Given as goal

abbrev pub invariant-loop-conn : goal.invariant-loop-conn
invariant-loop-conn l = record {
  falls : Falls (stands l.initial.maps.regs) (stands l.maps.regs);
  bits : Gains (stands l.initial.maps.regs) (stands l.maps.regs) l.initial.out.bits.items l.out.bits.items;
  room : length l.maps.regs ≤ l.out.bits.room;
  mail : l.out.mail ≡ l.initial.out.mail;
  place : l.initial.maps.room ≤ l.maps.room;
}

abbrev pub decreases-loop-conn : goal.decreases-loop-conn
decreases-loop-conn l = length l.maps.regs
