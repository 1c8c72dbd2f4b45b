use Rattle.lock_interests.proofs.Imports.{rules, tests, YieldsList-from_first, find_from_yields_List, owners_left}
use Rattle.lock_interests.proofs.interests.first_active.Goals as goal

pub returns : goal.returns
returns c = find_from_yields_List _ c.find.new.self _ _ c.find.ensures.ran
    (YieldsList-from_first _ _ (owners_left c.args.owners) cc) (λ x b q k. search (rules, tests))
