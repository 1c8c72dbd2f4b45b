use Rattle.plex_load.proofs.TermLaws.{page_term}
use Rattle.plex_load.proofs.work.page.Goals as goal

pub name-requires : goal.name-requires
name-requires c = rw (c.as_slice.ensures.value, c.in_ok-text.ensures) (page_term c.args.index c.ranges.index.fits)
