use Rattle.plex_run.proofs.Imports.{check_limit}
use Rattle.plex_run.proofs.{UnreadLaws.unread_long, TextLaws.unread_ends, CheckingLaws.whole_too_long, CheckingLaws.longer_than_script}
use Rattle.plex_run.proofs.checking.checked_in.Goals as goal

pub returns-in-Err-clause-ends : goal.returns-in-Err-clause-ends
returns-in-Err-clause-ends g c = unread_ends check_limit (g.S.Source.left c.args.source.now) whole_too_long
    c.say_unread.ensures.statuses (unread_long _ (g.S.Source.left c.args.source.now) _ _ c.in-Err.end
    c.say_unread.result c.in-Err.ensures.cause c.say_unread.ensures.status)
    (rw c.whole_too_long.ensures at c.say_unread.ensures.long) c.say_unread.ensures.no_memory

pub returns-in-Err-clause-too_long : goal.returns-in-Err-clause-too_long
returns-in-Err-clause-too_long g c = λ seven. longer_than_script (g.S.Source.left c.args.source.now)
    (unread_long _ (g.S.Source.left c.args.source.now) _ _ c.in-Err.end c.say_unread.result c.in-Err.ensures.cause
    c.say_unread.ensures.status seven)

pub returns-clause-ends : goal.returns-clause-ends
returns-clause-ends g c =
    (c.in-Ok.text.items, c.in-Ok.ensures.whole, rw c.deref.ensures.value at c.checked_text.ensures.ends)
