use Rattle.vec_words.proofs.Imports.{rules, ◌≡◌, ◌∙◌, ap, get_or, count_of, PassSeen, SeatSeen, learned_pass, IsShown}
use Rattle.vec_words.proofs.{Walked.walked-of, Walked.walked-step, Walked.walked-all, Learned.shown_pass}
use Rattle.vec_words.proofs.vectors.Vectors.learn_all.Goals as goal

pub learn-requires-clause-pass : goal.learn-requires-clause-pass
learn-requires-clause-pass g c = walked-of {A = PassSeen g.row.D.Denot}
    (λ p. p.table ≡ c.args.self.now) (learned_pass (count_of c.args.seat.now.log)) c.loop-at.passes
    c.args.passes.now c.loop-at.at _ (search rules) c.loop-at.invariant.1 c.requires.passes

pub loop-at-preserved : goal.loop-at-preserved
loop-at-preserved g c =
    let f = learned_pass {D = g.row.D.Denot} (count_of c.args.seat.now.log) in
    let seat = c.loop-at.invariant.0 in
    let walked = c.loop-at.invariant.1 in
    let told = c.learn.ensures in
    let table = walked-of {A = PassSeen g.row.D.Denot} (λ p. p.table ≡ c.args.self.now) f c.loop-at.passes
    c.args.passes.now c.loop-at.at c.index-passes-at.result (search rules) walked c.requires.passes in (
      told.seat ∙ seat,
      walked-step {A = PassSeen g.row.D.Denot} f c.loop-at.passes c.args.passes.now c.loop-at.at
          c.index-passes-at.result c.learn.new.pass
          (search rules) (told.pass ∙ ap (λ (s : SeatSeen g.row.D.Denot). learned_pass (count_of s.log)
          (get_or c.loop-at.passes c.loop-at.at c.index-passes-at.result)) seat) walked,
      walked-all {A = PassSeen g.row.D.Denot} (IsShown c.args.seat.now)
          f c.loop-at.passes c.args.passes.now c.loop-at.at c.index-passes-at.result (search rules)
          walked c.loop-at.invariant.2 (shown_pass c.args.self.now c.args.seat.now c.loop-at.seat
          _ seat table told.tests told.mine told.before told.seen told.ordered told.owner),
    )
