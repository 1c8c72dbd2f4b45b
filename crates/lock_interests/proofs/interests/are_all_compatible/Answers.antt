use Rattle.lock_interests.proofs.Imports.{rules, tests, YieldsList-from_first, all_from_yields_List, are_compatible}
use Rattle.lock_interests.proofs.interests.are_all_compatible.Goals as goal

pub returns : goal.returns
returns c = all_from_yields_List (are_compatible c.args.held.now) c.all.new.self _ _ c.all.ensures.ran
    (YieldsList-from_first _ _ _ cc) (λ x b q k. search (rules, tests))
