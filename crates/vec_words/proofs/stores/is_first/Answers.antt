use Rattle.vec_words.proofs.Imports.{rules}
use Rattle.vec_words.proofs.StoreLaws.{contains_below}
use Rattle.vec_words.proofs.stores.is_first.Goals as goal

pub returns-then-other-place-2-clause-again : goal.returns-then-other-place-2-clause-again
returns-then-other-place-2-clause-again g c is = contains_below (g.C.Changes.places c.args.changes.now)
    c.args.at _ c.place-other.result c.args.place (search rules) c.requires c.place-other.ensures (search rules)
