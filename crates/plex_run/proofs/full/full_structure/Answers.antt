use Rattle.plex_run.proofs.Imports.{◌≡◌, ◌∙◌, sym, false, is_full_at}
use Rattle.plex_run.proofs.Found.{find_later}
use Rattle.plex_run.proofs.full.full_structure.Goals as goal

pub loop-place-preserved : goal.loop-place-preserved
loop-place-preserved c =
    let no : is_full_at c.args.transcripts.now c.loop-place.place ≡ false = cc in
    sym (find_later (is_full_at c.args.transcripts.now)
    c.loop-place.place c.args.structures.now c.loop-place-test.true no) ∙ c.loop-place.invariant
