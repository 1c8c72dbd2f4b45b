use Rattle.struct_cell.proofs.Imports.{arith, List, subst, Place, IsSpared}
use Rattle.struct_cell.proofs.{PlaceLaws.spared-front, SpotLaws.spotted_push}
use Rattle.struct_cell.proofs.place_set.insert_at.Goals as goal

pub returns-clause-spotted : goal.returns-clause-spotted
returns-clause-spotted c = grind (arith, spotted_push)

pub returns-clause-others : goal.returns-clause-others
returns-clause-others c conn word spared = spared-front c.args.places.now.items c.args.place
    conn word (subst (λ (ps : List Place). IsSpared ps conn word) c.push_reserved.ensures.items spared)
