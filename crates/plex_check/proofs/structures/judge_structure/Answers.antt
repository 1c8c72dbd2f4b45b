use Rattle.plex_check.proofs.AskedLaws.{asked_of}
use Rattle.plex_check.proofs.TableLaws.{structure_judged}
use Rattle.plex_check.proofs.structures.judge_structure.Goals as goal

pub judge_asked-requires-clause-askable : goal.judge_asked-requires-clause-askable
judge_asked-requires-clause-askable c = asked_of c.args.script.now c.args.printed.now c.requires.printed
    c.items.result.now c.items-2.result.now c.from-place.result c.args.on.0 c.items.ensures c.items-2.ensures
    c.from-place.ensures c.requires.within c.index-items-place.result c.index-items-place.is
    c.index-items-place-2.result c.index-items-place-2.is

pub returns : goal.returns
returns c = structure_judged c.args.script.now c.args.printed.now (λ found. found.1.items) (λ found. found.0) c.args.on
    c.items.result.now c.items-2.result.now c.from-place.result c.items.ensures c.items-2.ensures c.from-place.ensures
    c.requires.within c.requires.printed.structures c.index-items-place.result c.index-items-place.is
    c.index-items-place-2.result c.index-items-place-2.is c.judge_asked.result c.judge_asked.ensures
