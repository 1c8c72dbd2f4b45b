use Rattle.lock_queue.proofs.Imports.{◌≡◌, ◌+◌, ◌≤◌, ◌&&◌, ◌||◌, not, length, filter, ap, ◌∙◌, arith, length-filter-le, of_seen, kept_in, put_seen, put_table, Waiter, is_on, part_of, waiters_in}
use Rattle.lock_queue.proofs.WaiterLaws.{ahead_front, ahead_stop, ahead_agree, ahead_others, counts_on}
use Rattle.lock_queue.proofs.queue.put_new.Goals as goal

counted : (c : goal.After-put_in-before) → c.put_in-before.result ≡ length (filter (λ (other : Waiter).
    is_on c.args.waiter.r other && (other.alter || not c.args.waiter.alter)) (waiters_in c.args.entries.now))
counted c = c.put_in-before.ensures.before ∙ ap length (kept_in part_of _ _ c.requires.kept _ _
    c.slot_of-slot.ensures.within (c.args.waiter.r, c.args.waiter.conn) c.slot_of-slot.ensures.slot _
    (counts_on c.args.waiter))

within : (c : goal.After-put_in-before) → c.put_in-before.result ≤ length (waiters_in c.args.entries.now)
within c = omega (
  arith,
  counted c,
  length-filter-le (λ (other : Waiter). is_on c.args.waiter.r other
      && (other.alter || not c.args.waiter.alter)) (waiters_in c.args.entries.now),
)

pub overflow_add-result : goal.overflow_add-result
overflow_add-result c = omega (arith, within c, c.requires.few)

pub returns-clause-kept : goal.returns-clause-kept
returns-clause-kept c = of_seen part_of _ _ (put_table part_of _ _ c.requires.kept _ _ c.slot_of-slot.ensures.within _ _
    c.args.waiter c.slot_of-slot.ensures.slot (ahead_front c.args.waiter) (ahead_stop c.args.waiter)
    (ahead_agree c.args.waiter) (ahead_others c.args.waiter) _ c.put_in-before.ensures.waiters c.requires.none)

pub returns-clause-place : goal.returns-clause-place
returns-clause-place c = ap (λ n. n + 1) (counted c)

pub returns-clause-within : goal.returns-clause-within
returns-clause-within c = omega (arith, within c, c.requires.few)

pub returns-clause-waiters : goal.returns-clause-waiters
returns-clause-waiters c = put_seen part_of _ _ c.requires.kept _ _ c.slot_of-slot.ensures.within _ _
    c.args.waiter c.slot_of-slot.ensures.slot (ahead_front c.args.waiter) (ahead_stop c.args.waiter)
    (ahead_agree c.args.waiter) (ahead_others c.args.waiter) _ c.put_in-before.ensures.waiters
