use Rattle.cache_core.proofs.Imports.{◌≡◌, ◌+◌, ◌≤◌, length}
use Rattle.cache_core.proofs.EndLaws.{Ending}
use Rattle.cache_core.proofs.commands.end_regs.Given as goal

abbrev pub invariant-loop-name : goal.invariant-loop-name
invariant-loop-name l = record {
  ending : Ending l.names l.fn.regs.regs l.regs.regs l.name-index l.out.bits.room l.fn.out.bits.items
      l.out.bits.items;
  room : l.fn.out.bits.room + length l.regs.regs ≡ l.out.bits.room + length l.fn.regs.regs;
  mail : l.out.mail ≡ l.fn.out.mail;
  place : l.fn.regs.room ≤ l.regs.room;
  len : l.regs.len ≡ l.fn.regs.len;
}
