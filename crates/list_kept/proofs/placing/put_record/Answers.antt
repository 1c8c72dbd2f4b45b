use Rattle.list_kept.proofs.Imports.{ℕ, refl, ap, ◌∙◌, lists_with, record_in, pairwise, may_precede, one-records, placed-with}
use Rattle.list_kept.proofs.placing.put_record.Goals as goal

pub place_of-place-requires-clause-ordered : goal.place_of-place-requires-clause-ordered
place_of-place-requires-clause-ordered c =
    one-records (pairwise may_precede) c.args.store.now.lists c.args.header refl c.requires.ordered

pub returns-clause-lists : goal.returns-clause-lists
returns-clause-lists c =
    let lists = c.args.store.now.lists in
    c.add.ensures.lists ∙ ap (λ (n : ℕ). lists_with c.args.header
    n (record_in c.args.store.now.chains c.args.rec) lists) c.place_of-place.ensures.place
    ∙ placed-with c.args.head c.args.header (record_in c.args.store.now.chains c.args.rec) lists
