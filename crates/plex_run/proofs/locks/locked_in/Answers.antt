use Rattle.plex_run.proofs.Imports.{script_limit, refl}
use Rattle.plex_run.proofs.{UnreadLaws.unread_long, TextLaws.unread_ends}
use Rattle.plex_run.proofs.locks.locked_in.Goals as goal

pub returns-in-Err-clause-ends : goal.returns-in-Err-clause-ends
returns-in-Err-clause-ends g c = unread_ends script_limit (g.S.Source.left c.args.source.now) (λ text long. (refl, long))
    c.say_unread.ensures.statuses (unread_long _ (g.S.Source.left c.args.source.now) _ _ c.in-Err.end
    c.say_unread.result c.in-Err.ensures.cause c.say_unread.ensures.status)
    (rw c.script_too_long.ensures at c.say_unread.ensures.long) c.say_unread.ensures.no_memory

pub returns-clause-ends : goal.returns-clause-ends
returns-clause-ends g c =
    (c.in-Ok.text.items, c.in-Ok.ensures.whole, rw c.deref.ensures.value at c.locked_text.ensures.ends)
