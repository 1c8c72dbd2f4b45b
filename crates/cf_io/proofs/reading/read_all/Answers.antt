use Rattle.cf_io.proofs.Imports.{arith, ◌≡◌, ◌≤◌, ◌+◌, ◌++◌, ◌∙◌, length, length-take, take, Consumes-trans}
use Rattle.cf_io.proofs.Pieces.{length-more}
use Rattle.cf_io.proofs.reading.read_all.Goals as goal

-- There was no memory for the bytes of the last read, and they are gone too.
pub returns-in_err-extend_from_slice-clause-taken : goal.returns-in_err-extend_from_slice-clause-taken
returns-in_err-extend_from_slice-clause-taken g c =
    let within : c.in_ok-count.count ≤ length c.read.new.into = c.in_ok-count.ensures.within in
    let so_far : c.len-in-loop-piece.result ≡ length c.loop-piece.text.items = c.len-in-loop-piece.ensures
    ∙ c.loop-piece.text.ok.0 in
    let fits : length c.loop-piece.text.items + c.in_ok-count.count ≤ c.args.limit + 1 = omega (
      arith,
      c.read.auto.into,
      length-take c.min-asked.result c.loop-piece.piece,
      c.min-asked.ensures,
      c.saturating_add.ensures,
    ) in (
      c.loop-piece.text.items ++ take c.in_ok-count.count c.read.new.into,
      length-more _ _ _ _ fits,
      Consumes-trans _ _ _ _ _ c.loop-piece.invariant.taken c.in_ok-count.ensures.given,
    )
