use Rattle.list_store.proofs.Imports.{arith, eqb-true, drop_more, length-map, nil_from_length, list_of, list_of-get_or}
use Rattle.list_store.proofs.VecLaws.{list_of-in}
use Rattle.list_store.proofs.orders.last_header.Goals as goal

pub loop-left-preserved : goal.loop-left-preserved
loop-left-preserved c =
    grind (arith, list_of, list_of-in, nil_from_length, eqb-true, drop_more, length-map, list_of-get_or)
