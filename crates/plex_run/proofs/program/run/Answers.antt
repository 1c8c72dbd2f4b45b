use Rattle.plex_run.proofs.Imports.{arith, ◌≡◌, refl, script_limit, Work}
use Rattle.plex_run.proofs.WorkLaws.{nothing_said, not_two, way_found}
use Rattle.plex_run.proofs.{TextLaws.unread_ends, UnreadLaws.unread_long}
use Rattle.plex_run.proofs.program.run.Goals as goal

pub returns-in-Some-Load-clause-load : goal.returns-in-Some-Load-clause-load
returns-in-Some-Load-clause-load g c = λ n loading.
    let same : c.in-Some-Load.n ≡ n =
    cc (c.in-Some-Load.is, c.in-Some-Load.field-0-is, (c.work_of.ensures.load n).1 loading) in
    rw same at c.loaded.ensures.ends

pub returns-in-Some-Load-clause-usage : goal.returns-in-Some-Load-clause-usage
returns-in-Some-Load-clause-usage g c = (
  λ two. absurd (not_two _ c.loaded.ensures.statuses two),
  λ none. absurd (none (
    Work.Load c.in-Some-Load.n,
    (c.work_of.ensures.load c.in-Some-Load.n).0 (cc (c.in-Some-Load.is, c.in-Some-Load.field-0-is)),
  )),
)

pub returns-in-None-clause-load : goal.returns-in-None-clause-load
returns-in-None-clause-load g c = λ n loading. absurd (cc (c.in-None.is, (c.work_of.ensures.load n).1 loading))

pub returns-in-None-clause-usage : goal.returns-in-None-clause-usage
returns-in-None-clause-usage g c = (
  λ two. nothing_said c.args.words.now c.in-None.is (way_found c.args.words.now c.work_of.ensures.in_turn.1
      c.work_of.ensures.on_threads.1) (λ n. (c.work_of.ensures.load n).1) c.work_of.ensures.locks.1
      c.work_of.ensures.check.1,
  λ none. refl,
)

pub returns-in-Err-clause-headline : goal.returns-in-Err-clause-headline
returns-in-Err-clause-headline g c = λ way said. unread_ends script_limit (g.S.Source.left c.args.source.now)
    (λ text long. (refl, long)) c.say_unread.ensures.statuses (unread_long _ (g.S.Source.left c.args.source.now)
    _ _ c.in-Err.end c.say_unread.result c.in-Err.ensures.cause c.say_unread.ensures.status)
    (rw c.script_too_long.ensures at c.say_unread.ensures.long) c.say_unread.ensures.no_memory

pub returns-clause-load : goal.returns-clause-load
returns-clause-load g c = λ n loading.
    absurd (cc (c.in-Some-Script.is, c.in-Some-Script.field-0-is, (c.work_of.ensures.load n).1 loading))

pub returns-clause-headline : goal.returns-clause-headline
returns-clause-headline g c = grind (arith, way_found)

pub returns-in-Some-Load-clause-headline : goal.returns-in-Some-Load-clause-headline
returns-in-Some-Load-clause-headline g c = grind (arith, way_found)

pub returns-in-Some-Locks-clause-headline : goal.returns-in-Some-Locks-clause-headline
returns-in-Some-Locks-clause-headline g c = grind (arith, way_found)

pub returns-in-None-clause-headline : goal.returns-in-None-clause-headline
returns-in-None-clause-headline g c = λ way said. absurd (cc
    (c.in-None.is, way_found c.args.words.now c.work_of.ensures.in_turn.1 c.work_of.ensures.on_threads.1 way said))

pub returns-in-Some-Load-clause-locks : goal.returns-in-Some-Load-clause-locks
returns-in-Some-Load-clause-locks g c =
    λ said. absurd (cc (c.in-Some-Load.is, c.in-Some-Load.field-0-is, c.work_of.ensures.locks.1 said))

pub returns-in-None-clause-locks : goal.returns-in-None-clause-locks
returns-in-None-clause-locks g c = λ said. absurd (cc (c.in-None.is, c.work_of.ensures.locks.1 said))

pub returns-in-Err-clause-locks : goal.returns-in-Err-clause-locks
returns-in-Err-clause-locks g c =
    λ said. absurd (cc (c.in-Some-Script.is, c.in-Some-Script.field-0-is, c.work_of.ensures.locks.1 said))

pub returns-clause-locks : goal.returns-clause-locks
returns-clause-locks g c =
    λ said. absurd (cc (c.in-Some-Script.is, c.in-Some-Script.field-0-is, c.work_of.ensures.locks.1 said))

pub returns-in-Some-Check-clause-headline : goal.returns-in-Some-Check-clause-headline
returns-in-Some-Check-clause-headline g c = grind (arith, way_found)

pub returns-in-Some-Load-clause-check : goal.returns-in-Some-Load-clause-check
returns-in-Some-Load-clause-check g c =
    λ said. absurd (cc (c.in-Some-Load.is, c.in-Some-Load.field-0-is, c.work_of.ensures.check.1 said))

pub returns-in-None-clause-check : goal.returns-in-None-clause-check
returns-in-None-clause-check g c = λ said. absurd (cc (c.in-None.is, c.work_of.ensures.check.1 said))

pub returns-in-Err-clause-check : goal.returns-in-Err-clause-check
returns-in-Err-clause-check g c =
    λ said. absurd (cc (c.in-Some-Script.is, c.in-Some-Script.field-0-is, c.work_of.ensures.check.1 said))

pub returns-clause-check : goal.returns-clause-check
returns-clause-check g c =
    λ said. absurd (cc (c.in-Some-Script.is, c.in-Some-Script.field-0-is, c.work_of.ensures.check.1 said))
