use Rattle.lock_interests.proofs.Imports.{rules, tests, ◌==◌, YieldsList-from_first, find_from_yields_List}
use Rattle.lock_interests.proofs.interests.find_by.Goals as goal

pub returns : goal.returns
returns c = find_from_yields_List (λ held. held.conn.0 == c.args.conn.0) c.find.new.self _
    _ c.find.ensures.ran (YieldsList-from_first _ _ _ cc) (λ x b q k. search (rules, tests))
