use Rattle.cache_reclaim.proofs.Imports.{ap, ◌∙◌}
use Rattle.cache_reclaim.proofs.SlotLaws.{put_missing}
use Rattle.cache_reclaim.proofs.slots.add.Goals as goal

pub returns-clause-entries : goal.returns-clause-entries
returns-clause-entries c =
    ap (λ k. k.entries) c.in_ok-put.ensures.entries ∙ put_missing _ _ _ _ c.requires.missing c.requires.place
