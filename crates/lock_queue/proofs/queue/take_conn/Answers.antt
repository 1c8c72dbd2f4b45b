use Rattle.lock_queue.proofs.Imports.{List, ◌++◌, ConnId, ◌≡◌, ◌<◌, ◌≤◌, not, cond, length, [], ◌∷◌, refl, arith, filtered_step, pass_begins, pass_goes, pass_fits, pass_ends, Waiter, is_by, waiters_without_conn}
use Rattle.lock_queue.proofs.queue.take_conn.Goals as goal

some_waiter : Waiter
some_waiter = grind arith

abbrev left : ConnId → Waiter → List Waiter
left conn waiter = cond (not (is_by conn waiter)) (waiter ∷ []) []

step : (conn : ConnId) (x : Waiter) (xs : List Waiter)
    → waiters_without_conn conn (x ∷ xs) ≡ left conn x ++ waiters_without_conn conn xs
step conn x xs = filtered_step (λ (waiter : Waiter). not (is_by conn waiter)) x xs

pub sift_one-requires : goal.sift_one-requires
sift_one-requires c = grind arith

pub loop-init : goal.loop-init
loop-init c = (
  omega arith,
  omega arith,
  pass_begins (waiters_without_conn c.args.conn) (left c.args.conn) (step c.args.conn) c.args.waiters.now,
)

pub loop-preserved : goal.loop-preserved
loop-preserved c =
    let conn = c.args.conn in
    let less : c.loop.counter < length c.args.waiters.now = omega (arith, c.len-end.ensures.value, c.loop-test.true) in
    let sifted = c.sift_one.ensures.waiters some_waiter in (
      pass_fits (waiters_without_conn conn) (left conn) (step conn) _ _ _ _ some_waiter less c.loop.invariant.0 sifted,
      omega (arith, c.loop.invariant.1, c.sift_one.ensures.spare),
      pass_goes (waiters_without_conn conn) (left conn) (step conn) _ _ _ _ some_waiter _ less c.loop.invariant.0 sifted
          c.loop.invariant.2,
    )

pub returns-clause-waiters : goal.returns-clause-waiters
returns-clause-waiters c =
    let past : length c.args.waiters.now ≤ c.loop.counter = omega (arith, c.len-end.ensures.value, c.loop-test.false) in
    pass_ends (waiters_without_conn c.args.conn) (left c.args.conn) (step c.args.conn) refl _ _ _ _ past
    c.loop.invariant.2
