use Rattle.lock_queue.proofs.Imports.{rules, tests, nth_from_yields_List, YieldsList-from_filter, YieldsList-from_rest, is_on}
use Rattle.lock_queue.proofs.queue.nth_in.Goals as goal

pub returns : goal.returns
returns c = nth_from_yields_List
    c.nth.result c.nth.new.self c.args.n c.nth.ensures.ran (YieldsList-from_filter _ (is_on c.args.r.now)
    (YieldsList-from_rest c.args.waiters.now cc) c.filter.ensures.closure (λ x b q h. search (rules, tests)))
