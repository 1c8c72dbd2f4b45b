use Rattle.cf_lists.proofs.Imports.{◌≡◌, ◌+◌, linked_list_len}
use Rattle.cf_lists.proofs.nodes.fill.Given as goal

abbrev pub invariant-loop : goal.invariant-loop
invariant-loop g l = linked_list_len l.spare ≡ linked_list_len l.initial.spare + l.counter
