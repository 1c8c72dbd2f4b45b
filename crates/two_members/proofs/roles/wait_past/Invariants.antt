use Rattle.two_members.specs.Members.{IsMember, Stays}
use Rattle.two_members.proofs.roles.wait_past.Given as goal

abbrev pub invariant-loop : goal.invariant-loop
invariant-loop g l = record { member : IsMember l.board l.desk; stays : Stays l.board l.fn.desk l.desk }
