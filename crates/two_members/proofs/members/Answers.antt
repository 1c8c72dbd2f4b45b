-- The desks of the members, from the start of the board to its end.
use Rattle.std.proofs.Common.{rules, ◌≡◌, length, ◌∙◌, ap, arith}
use Rattle.plex_board.specs.Desks.{DeskShown}
use Rattle.two_members.proofs.MemberLaws.{seats, member, all-of_board, all-owners}
use Rattle.two_members.proofs.OutcomeLaws.{outcome}
use Rattle.two_members.specs.Members.{HasPool}
use Rattle.two_members.proofs.members.Goals as goal

pub work-written-requires-clause-members : goal.work-written-requires-clause-members
work-written-requires-clause-members g c κs within =
    let pool : HasPool c.in-Ok-start.board = search rules in
    let three : length c.in-Ok-start.desks.items ≡ 3 = search rules in
    let seated = seats c.in-Ok-start.board c.in-Ok-start.desks.items c.pop-2.new.self.items c.pop.new.self.items
    c.in-Some-Some.a c.in-Some-Some.b (length c.args.script.now.connectors) c.in-Ok-start.ensures.callers
    c.in-Ok-start.ensures.desks three c.in-Some-Some.ensures.items c.in-Some-Some.ensures'.items in (
      member c.in-Ok-start.board c.in-Some-Some.a 1 pool seated.first (omega arith) (omega arith),
      member c.in-Ok-start.board c.in-Some-Some.b 2 pool seated.second (omega arith) (omega arith),
    )

pub close-histories-requires-clause-desks : goal.close-histories-requires-clause-desks
close-histories-requires-clause-desks g c κs within =
    let three : length c.in-Ok-start.desks.items ≡ 3 = search rules in
    let seated = seats c.in-Ok-start.board c.in-Ok-start.desks.items c.pop-2.new.self.items c.pop.new.self.items
    c.in-Some-Some.a c.in-Some-Some.b (length c.args.script.now.connectors) c.in-Ok-start.ensures.callers
    c.in-Ok-start.ensures.desks three c.in-Some-Some.ensures.items c.in-Some-Some.ensures'.items in
    all-of_board c.in-Ok-start.board c.pop-2.new.self.items c.push_reserved.new.self.items
    c.push_reserved-2.new.self.items c.in-Some-Some.a c.in-Some-Some.b c.work-written.new.a c.work-written.new.b
    seated c.work-written.ensures.stay.0 c.work-written.ensures.stay.1 c.push_reserved.ensures.items
    c.push_reserved-2.ensures.items

pub close-histories-requires-clause-owners : goal.close-histories-requires-clause-owners
close-histories-requires-clause-owners g c κs within =
    let three : length c.in-Ok-start.desks.items ≡ 3 = search rules in
    let seated = seats c.in-Ok-start.board c.in-Ok-start.desks.items c.pop-2.new.self.items c.pop.new.self.items
    c.in-Some-Some.a c.in-Some-Some.b (length c.args.script.now.connectors) c.in-Ok-start.ensures.callers
    c.in-Ok-start.ensures.desks three c.in-Some-Some.ensures.items c.in-Some-Some.ensures'.items in
    all-owners c.in-Ok-start.board c.pop-2.new.self.items c.push_reserved.new.self.items
    c.push_reserved-2.new.self.items c.in-Some-Some.a c.in-Some-Some.b c.work-written.new.a c.work-written.new.b
    seated c.work-written.ensures.stay.0 c.work-written.ensures.stay.1 c.push_reserved.ensures.items
    c.push_reserved-2.ensures.items

pub returns-clause-outcome : goal.returns-clause-outcome
returns-clause-outcome g c =
    let pool : HasPool c.in-Ok-start.board = search rules in
    let three : length c.in-Ok-start.desks.items ≡ 3 = search rules in
    let seated = seats c.in-Ok-start.board c.in-Ok-start.desks.items c.pop-2.new.self.items c.pop.new.self.items
    c.in-Some-Some.a c.in-Some-Some.b (length c.args.script.now.connectors) c.in-Ok-start.ensures.callers
    c.in-Ok-start.ensures.desks three c.in-Some-Some.ensures.items c.in-Some-Some.ensures'.items in
    outcome c.in-Ok-start.board c.args.script.now c.close-histories.result.0.items c.push_reserved.new.self.items
    c.push_reserved-2.new.self.items c.work-written.new.b c.in_ok-last.field-0 pool c.in-Ok-start.ensures.forms
    c.close-histories.ensures.histories c.push_reserved-2.ensures.items c.work-written.ensures.stay.1.of_board
    (c.work-written.ensures.stay.1.owner ∙ ap (λ (d : DeskShown). d.owner) seated.second) (search rules) (search rules)
    (search rules)
