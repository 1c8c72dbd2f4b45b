use Rattle.vec_words.proofs.Imports.{◌<◌, [], ◌∷◌, sym, ap, ◌∙◌, subst, arith, View, SeatSeen, IsBegun, committed_of}
use Rattle.vec_words.proofs.Begun.{begun-commit}
use Rattle.vec_words.proofs.vectors.Vectors.commit_of.Goals as goal

pub invariant_of-seat : goal.invariant_of-seat
invariant_of-seat g c =
    let n = c.seat.inside.number in
    let x = c.requires.one.0 in
    let back = c.hand_log-2.ensures.to in
    let some =
    subst (λ k. 0 < k) (sym (ap (λ (s : SeatSeen g.row.D.Denot). s.number) c.seat.view_is)) c.requires.begun in
    let log = ap (λ (v : View g.row.D.Denot). v.log) back.0 ∙ ap (λ (v : View g.row.D.Denot). v.log)
    c.publish.ensures.view.0 ∙ ap (λ a. (committed_of n a c.hand_log.new.to.me.0).log) c.requires.one.1
    ∙ ap (λ (v : View g.row.D.Denot). (committed_of n (x ∷ []) v).log) c.hand_log.ensures.to.0 in
    record {
      keeps = ap (λ (v : View g.row.D.Denot). v.keeps) back.0;
      begun = subst (λ l. IsBegun 0 l) (sym log) (begun-commit
          n c.pass.inside.seat.me.0.owner x c.seat.inside.seat.me.0.log (omega arith) some c.seat.invariant.begun);
      no_slot = back.1 ∙ c.hand_log.ensures.from.1 ∙ c.seat.invariant.no_slot;
    }
