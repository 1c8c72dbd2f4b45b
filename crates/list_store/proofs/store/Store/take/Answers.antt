use Rattle.list_store.proofs.Imports.{◌∙◌, ap}
use Rattle.list_store.proofs.StoreLaws.{TakenOut, taken_out, shown_apart, shown, shown_without}
use Rattle.list_store.proofs.store.Store.take.Goals as goal

taken : (c : goal.After-take)
    → TakenOut c.self.inside.pool.chains c.self.inside.table.lists c.take.new.self.lists c.take.result
taken c = taken_out c.self.inside.pool.chains c.self.inside.table.lists c.self.invariant.held
    c.args.id.0 c.take.new.self.lists c.take.result c.take.ensures.apart c.take.ensures.«record» c.take.ensures.lists

pub invariant_of-self : goal.invariant_of-self
invariant_of-self c = record { held = (taken c).held; whole = c.self.invariant.whole }

pub returns-clause-chain : goal.returns-clause-chain
returns-clause-chain c = (taken c).chain

pub returns-clause-was : goal.returns-clause-was
returns-clause-was c = rw (← c.self.view_is) (taken c).was

pub returns-clause-none : goal.returns-clause-none
returns-clause-none c = rw (← c.self.view_is) (taken c).none

pub returns-clause-apart : goal.returns-clause-apart
returns-clause-apart c = rw (← c.self.view_is)
    (shown_apart c.self.inside.pool.chains c.self.inside.table.lists c.take.ensures.apart)

pub returns-clause-lists : goal.returns-clause-lists
returns-clause-lists c = rw (← c.self.view_is) (ap (shown c.self.inside.pool.chains) c.take.ensures.lists
    ∙ shown_without c.self.inside.pool.chains c.self.inside.table.lists c.args.id.0)
