use Rattle.plex_agent.proofs.Imports.{◌≡◌, List, length, map, ◌∙◌, ap, arith, with_items_is, AtWork}
use Rattle.plex_agent.proofs.SeatedLaws.{new_crew, new_desks-are, callers-desks}
use Rattle.plex_agent.proofs.CrewLaws.{crew_is_idle, lines_fit, work_each, worked-callers}
use Rattle.plex_agent.proofs.at_once.work.Goals as goal

pub returns-in-Err-clause-of_board : goal.returns-in-Err-clause-of_board
returns-in-Err-clause-of_board g c = new_desks-are _ _ c.requires.desks _ c.in-Err.ensures.handed_back

pub work_all-requires-clause-workers : goal.work_all-requires-clause-workers
work_all-requires-clause-workers g c κs within = crew_is_idle c.args.board.now _ (c.as_mut_slice.ensures.value
    ∙ new_crew c.args.board.now _ c.requires.desks _ c.in-Ok.ensures.workers) c.requires.few

pub work_all-requires-clause-lines : goal.work_all-requires-clause-lines
work_all-requires-clause-lines g c κs within = lines_fit _ _ _ c.items.ensures c.requires.lines

pub returns-clause-served : goal.returns-clause-served
returns-clause-served g c = grind (arith, work_each, new_crew, with_items_is)

pub returns-clause-of_board : goal.returns-clause-of_board
returns-clause-of_board g c =
    let value = ap (λ (it : List AtWork). length it) c.as_mut_slice.ensures.value in
    let long = c.work_all.ensures.callers in
    let count = c.in-Ok.seated.0.ok.0 in
    let same : length c.work_all.new.workers ≡ c.in-Ok.seated.0.len = omega arith in
    let worked = work_each _ _ _ _ _ c.items.ensures (c.as_mut_slice.ensures.value
    ∙ new_crew c.args.board.now _ c.requires.desks _ c.in-Ok.ensures.workers) c.work_all.ensures in
    callers-desks _ _ (worked-callers _ _ _ worked) _ (c.part-desks.ensures.desks ∙ ap (λ (it : List AtWork). map
    (λ (worker : AtWork). worker.desk) it) (with_items_is c.in-Ok.seated.0 c.work_all.new.workers same))
