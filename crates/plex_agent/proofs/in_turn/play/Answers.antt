use Rattle.plex_agent.proofs.Imports.{length, refl, sym, ◌∙◌, ap, subst, arith, IsTrayOf, AreCallersOf, IsFloorOf}
use Rattle.plex_agent.proofs.SeatedLaws.{new_callers, new_crew, new_desks-are, callers-desks}
use Rattle.plex_agent.proofs.FloorLaws.{new_floor_is, new_floor_fits}
use Rattle.plex_agent.proofs.in_turn.play.Goals as goal

pub returns-in-Err-clause-of_board : goal.returns-in-Err-clause-of_board
returns-in-Err-clause-of_board g c = new_desks-are _ _ c.requires.desks _ refl

pub returns-in-Err-nobody-clause-of_board : goal.returns-in-Err-nobody-clause-of_board
returns-in-Err-nobody-clause-of_board g c = new_desks-are _ _ c.requires.desks _ refl

pub returns-in-Err-seat-clause-of_board : goal.returns-in-Err-seat-clause-of_board
returns-in-Err-seat-clause-of_board g c = new_desks-are _ _ c.requires.desks _ c.in-Err-seat.ensures.handed_back

pub play-played-requires-clause-start : goal.play-played-requires-clause-start
play-played-requires-clause-start g c κs within = grind (arith, new_floor_is, new_crew)

pub play-played-requires-clause-floor : goal.play-played-requires-clause-floor
play-played-requires-clause-floor g c κs within = subst (λ floor. IsFloorOf c.args.board.now floor)
    (sym (play-played-requires-clause-start g c κs within)) (new_floor_fits _ c.requires.few
    (subst (λ tray. IsTrayOf c.args.board.now tray) c.in-Ok.ensures.notes c.in-Ok.ensures.of_board))

pub part-desks-requires : goal.part-desks-requires
part-desks-requires g c =
    let room = c.in-Ok-seat.ensures.room in
    let came = ap (λ it. length it) (new_crew c.args.board.now _ c.requires.desks _ c.in-Ok-seat.ensures.workers)
    ∙ (new_callers c.args.board.now).callers in
    let left = ap (λ floor. length floor.workers) c.floor.view_is ∙ c.play-played.ensures.of_board.workers.callers in
    let count = c.in-Ok-seat.seated.0.ok.0 in
    let count' = c.floor.inside.workers.ok.0 in
    omega arith

pub returns-in-Ok-played-clause-of_board : goal.returns-in-Ok-played-clause-of_board
returns-in-Ok-played-clause-of_board g c = callers-desks _ _ (subst (λ floor. AreCallersOf c.args.board.now
    floor.workers) (sym c.floor.view_is) c.play-played.ensures.of_board.workers) _ c.part-desks.ensures.desks

pub returns-in-Err-played-clause-of_board : goal.returns-in-Err-played-clause-of_board
returns-in-Err-played-clause-of_board g c = callers-desks _ _ (subst (λ floor. AreCallersOf c.args.board.now
    floor.workers) (sym c.floor.view_is) c.play-played.ensures.of_board.workers) _ c.part-desks.ensures.desks
