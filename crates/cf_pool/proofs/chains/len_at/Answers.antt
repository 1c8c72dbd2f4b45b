use Rattle.cf_pool.proofs.PoolLaws.{at_lens, at_within, at_bytes, at_need}
use Rattle.cf_pool.proofs.chains.len_at.Goals as goal

pub returns-clause-within : goal.returns-clause-within
returns-clause-within c = at_within _ _ _ _ _ c.requires.shared _ c.requires.chain

pub bounds-lens-at : goal.bounds-lens-at
bounds-lens-at c = at_lens _ _ _ _ _ c.requires.shared _ c.requires.chain

pub returns-clause-bytes : goal.returns-clause-bytes
returns-clause-bytes c = at_bytes _ _ _ _ _ c.requires.shared _ c.requires.chain

pub returns-clause-need : goal.returns-clause-need
returns-clause-need c = at_need _ _ _ _ _ c.requires.shared _ c.requires.chain
