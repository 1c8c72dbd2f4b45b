use Rattle.list_store.proofs.Imports.{arith, sym, ◌∙◌, false≢true, none_placed}
use Rattle.list_store.proofs.VecLaws.{stands_there}
use Rattle.list_store.proofs.orders.place_of.Goals as goal

pub unreachable-requires : goal.unreachable-requires
unreachable-requires c = grind (arith, false≢true, none_placed)

pub returns : goal.returns
returns c = stands_there c.args.keys.now c.args.key c.in-Some.place (sym c.position_of.ensures ∙ c.in-Some.is)
