use Rattle.plex_load.proofs.Imports.{◌≡◌, ◌+◌}
use Rattle.plex_load.proofs.TermLaws.{body_term}
use Rattle.plex_load.proofs.work.body.Goals as goal

pub data-requires : goal.data-requires
data-requires c =
    let same : c.letter.result ≡ 65 + c.args.caller = cc in
    rw (c.as_slice.ensures.value, c.in_ok-text.ensures, same)
    (body_term c.args.caller c.args.i c.requires c.ranges.i.fits)
