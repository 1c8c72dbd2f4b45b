use Rattle.std.proofs.Common.{refl}
use Rattle.std.proofs.lemmas.Bool.{false≢true}
use Rattle.caller_walk.proofs.WorkLaws.{walk_whole, walk_breaks, walk_left}
use Rattle.caller_walk.proofs.works.walk_from.Goals as goal

pub returns-then-not-do_all : goal.returns-then-not-do_all
returns-then-not-do_all c = walk_breaks c.args.script.now c.args.histories.now c.args.conn c.args.items.now _
    c.requires.begins c.if-not-do_all.ensures.done

pub returns-then-not-are_used : goal.returns-then-not-are_used
returns-then-not-are_used c = walk_left c.args.script.now c.args.histories.now c.args.conn c.args.items.now _ _ _
    c.requires.begins c.if-not-do_all.ensures.done (λ used. false≢true (c.if-not-are_used.ensures.1 used))

pub returns : goal.returns
returns c = walk_whole c.args.script.now c.args.histories.now c.args.conn c.args.items.now _ _ _ c.requires.begins
    c.if-not-do_all.ensures.done (c.if-not-are_used.ensures.0 refl)
