use Rattle.cf_lists.proofs.Imports.{◌≡◌, ◌++◌}
use Rattle.cf_lists.proofs.nodes.copy_list.Given as goal

abbrev pub invariant-loop-value : goal.invariant-loop-value
invariant-loop-value g l = l.copy ++ l.value-iterator ≡ l.fn.list
