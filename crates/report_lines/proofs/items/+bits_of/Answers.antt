use Rattle.std.proofs.Common.{◌<◌, arith}
use Rattle.std.proofs.lemmas.Bool.Decides.{nat_tests}
use Rattle.report_lines.proofs.BitLaws.{doubled}
use Rattle.report_lines.proofs.items.+bits_of.Goals as goal

pub returns-in_ok-more-in-len1-up-clause-small : goal.returns-in_ok-more-in-len1-up-clause-small
returns-in_ok-more-in-len1-up-clause-small m c =
    let some : 0 < c.args.count = grind (arith, nat_tests, c.if-count-eq0-2.false) in
    doubled c.args.count c.in_ok-more-in-len1-up.more c.in_ok-digit-in-len1-up.digit some
    c.in_ok-more-in-len1-up.ensures.small c.in_ok-digit-in-len1-up.ensures.small
