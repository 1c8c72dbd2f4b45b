use Rattle.plex_board.proofs.Imports.{arith, length-set}
use Rattle.plex_board.proofs.DealLaws.{deal-some, deal-next, deal-desks, deal-unused, few-left}
use Rattle.plex_board.proofs.opening.deal.Goals as goal

pub deal_one-requires-clause-unused : goal.deal_one-requires-clause-unused
deal_one-requires-clause-unused c = grind (arith, deal-unused)

pub deal_one-requires-clause-few : goal.deal_one-requires-clause-few
deal_one-requires-clause-few c = grind (arith, deal-some)

pub loop-pass-preserved : goal.loop-pass-preserved
loop-pass-preserved c = grind (arith, deal-next, deal-desks, deal-unused, length-set, few-left)
