use Rattle.cf_pool.proofs.Imports.{subst, sym, ◌∙◌, IsWithin}
use Rattle.cf_pool.proofs.PoolLaws.{at_lens, at_some, at_need, at_within, unlink_last, unlink_shared, unlink_chains}
use Rattle.cf_pool.proofs.chains.unlink.Goals as goal

pub last_of-last-requires-clause-within : goal.last_of-last-requires-clause-within
last_of-last-requires-clause-within c = subst (λ n. IsWithin c.args.next.now n c.args.at)
    (sym c.need_of-need.ensures) (at_within _ _ _ _ _ c.requires.shared _ c.requires.chain)

pub bounds-next-last : goal.bounds-next-last
bounds-next-last c =
    unlink_last _ _ _ _ _ c.requires.shared _ c.requires.chain _ _ c.need_of-need.ensures c.last_of-last.ensures

pub returns-clause-shared : goal.returns-clause-shared
returns-clause-shared c =
    unlink_shared _ _ _ _ _ c.requires.shared _ c.requires.chain _ _ c.need_of-need.ensures c.last_of-last.ensures

pub returns-clause-chains : goal.returns-clause-chains
returns-clause-chains c =
    unlink_chains _ _ _ _ _ c.requires.shared _ c.requires.chain _ _ c.need_of-need.ensures c.last_of-last.ensures

pub bounds-lens-at : goal.bounds-lens-at
bounds-lens-at c = at_lens _ _ _ _ _ c.requires.shared _ c.requires.chain

pub bounds-lens-at-2 : goal.bounds-lens-at-2
bounds-lens-at-2 c = at_lens _ _ _ _ _ c.requires.shared _ c.requires.chain

pub last_of-last-requires-clause-some : goal.last_of-last-requires-clause-some
last_of-last-requires-clause-some c = at_some _ _ _ _ _ c.requires.shared _ c.requires.chain _ c.need_of-need.ensures

pub returns-clause-need : goal.returns-clause-need
returns-clause-need c = c.need_of-need.ensures ∙ at_need _ _ _ _ _ c.requires.shared _ c.requires.chain
