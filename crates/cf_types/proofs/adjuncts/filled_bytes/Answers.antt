use Rattle.cf_types.proofs.Imports.{length, ◌++◌, ap, drop-replicate, ADJUNCT_BYTES}
use Rattle.cf_types.proofs.adjuncts.filled_bytes.Goals as goal

pub returns : goal.returns
returns c =
    let zeros = drop-replicate (length c.args.text.now) ADJUNCT_BYTES 0 in
    rw (c.copy_from_slice.ensures.after, c.split_at_mut-front.ensures.back) (ap (λ rest. c.args.text.now ++ rest)
    zeros)
