use Rattle.std.proofs.Common.{◌≡◌}
use Rattle.two_members.specs.Members.{IsMember, Stays, replies_at, sure_at}
use Rattle.two_members.proofs.roles.test_copy.Given as goal

abbrev pub invariant-loop : goal.invariant-loop
invariant-loop l = record {
  member : IsMember l.board l.desk;
  stays : Stays l.board l.fn.desk l.desk;
  replies : replies_at l.desk ≡ replies_at l.fn.desk;
  sure : sure_at l.desk ≡ sure_at l.fn.desk;
}
