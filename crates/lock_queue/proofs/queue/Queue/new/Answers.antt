use Rattle.lock_queue.proofs.Imports.{◌∙◌, ap, arith, refl, seen_none, table_none, of_seen, part_of, waiters_in}
use Rattle.lock_queue.proofs.queue.Queue.new.Goals as goal

pub invariant_of-result : goal.invariant_of-result
invariant_of-result c = record {
  entries = rw c.in_ok-entries.ensures (of_seen part_of _ _ (table_none part_of c.max.result
      (omega (arith, c.max.ensures))));
  queue = rw (c.in_ok-entries.ensures, seen_none part_of c.max.result) (record { ordered = refl; one_each = refl });
  count = rw (c.in_ok-entries.ensures, seen_none part_of c.max.result) refl;
  recorded = rw (c.in_ok-entries.ensures, seen_none part_of c.max.result) refl;
}

pub returns : goal.returns
returns c = ap waiters_in c.in_ok-entries.ensures ∙ seen_none part_of c.max.result
