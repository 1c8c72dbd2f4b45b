use Rattle.vec_words.proofs.Imports.{ap, refl, ◌∙◌, View, without_log, learned_of}
use Rattle.vec_words.proofs.Learned.{shown}
use Rattle.vec_words.proofs.vectors.Vectors.learn.Goals as goal

pub returns-clause-tests : goal.returns-clause-tests
returns-clause-tests g c = (shown c.args.self.now.len _ _ c.pass.inside.seat.me.0 c.seat.inside.seat.me.0
    c.hand_log.new.to.me.0 c.load_count-count.result _ _ _ _ c.pass.view_is c.seat.view_is
    c.hand_log.ensures.to.0 c.seat.invariant.begun c.load_count-count.ensures.shown refl).tests

pub returns-clause-before : goal.returns-clause-before
returns-clause-before g c = (shown c.args.self.now.len _ _ c.pass.inside.seat.me.0 c.seat.inside.seat.me.0
    c.hand_log.new.to.me.0 c.load_count-count.result _ _ _ _ c.pass.view_is c.seat.view_is
    c.hand_log.ensures.to.0 c.seat.invariant.begun c.load_count-count.ensures.shown refl).before

pub returns-clause-known : goal.returns-clause-known
returns-clause-known g c =
    let after = c.hand_log-2.ensures.from.0 ∙ ap without_log c.load_count-count.ensures.view.0
    ∙ ap (λ (x : View g.row.D.Denot). without_log (learned_of x c.load_count-count.result)) c.hand_log.ensures.to.0 in
    (shown c.args.self.now.len _ _ c.pass.inside.seat.me.0 c.seat.inside.seat.me.0 c.hand_log.new.to.me.0
    c.load_count-count.result _ _ _ _ c.pass.view_is c.seat.view_is c.hand_log.ensures.to.0
    c.seat.invariant.begun c.load_count-count.ensures.shown (ap (λ (x : View g.row.D.Denot). x.known) after)).known
