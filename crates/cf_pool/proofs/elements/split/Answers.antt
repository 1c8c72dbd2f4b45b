use Rattle.cf_pool.proofs.Imports.{◌∙◌, arith, SIZE}
use Rattle.cf_pool.proofs.WalkLaws.{front_all, rest_none}
use Rattle.cf_pool.proofs.elements.split.Goals as goal

pub returns-then-bytes-lt-SIZE-clause-part : goal.returns-then-bytes-lt-SIZE-clause-part
returns-then-bytes-lt-SIZE-clause-part c = c.split_at.ensures.front ∙ front_all SIZE c.args.bytes.now (omega arith)

pub returns-then-bytes-lt-SIZE-clause-later : goal.returns-then-bytes-lt-SIZE-clause-later
returns-then-bytes-lt-SIZE-clause-later c = c.split_at.ensures.back ∙ rest_none SIZE c.args.bytes.now (omega arith)
