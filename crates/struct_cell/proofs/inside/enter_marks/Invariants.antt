use Rattle.struct_cell.proofs.Imports.{◌≡◌, ◌+◌, take, vec_len, vec_capacity, entered}
use Rattle.struct_cell.proofs.inside.enter_marks.Given as goal

abbrev pub invariant-loop-mark : goal.invariant-loop-mark
invariant-loop-mark g l = record {
  items : l.journal.items ≡ entered l.fn.journal.items (take l.mark-index l.marks);
  count : vec_len l.journal ≡ vec_len l.fn.journal + l.mark-index;
  room : vec_capacity l.journal ≡ vec_capacity l.fn.journal;
}
