use Rattle.struct_machine.proofs.Imports.{◌≡◌, ◌≤◌, ◌+◌, drop, with_posted}
use Rattle.struct_machine.proofs.departing.post_all.Given as goal

abbrev pub invariant-loop-letter : goal.invariant-loop-letter
invariant-loop-letter l = record {
  form : l.shell.form ≡ l.fn.shell.form;
  shell : with_posted (drop l.letter-index l.letters) l.shell.shell ≡ with_posted l.letters l.fn.shell.shell;
  room : l.fn.shell.room ≤ l.shell.room + l.letter-index;
}
