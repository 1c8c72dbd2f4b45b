use Rattle.vec_words.proofs.Imports.{◌<◌, sym, ap, ◌∙◌, subst, arith, View, SeatSeen, IsBegun}
use Rattle.vec_words.proofs.Begun.{begun-store}
use Rattle.vec_words.proofs.vectors.Vectors.store_word.Goals as goal

pub invariant_of-seat : goal.invariant_of-seat
invariant_of-seat g c =
    let view = c.put.ensures.view in
    let some =
    subst (λ n. 0 < n) (sym (ap (λ (s : SeatSeen g.row.D.Denot). s.number) c.seat.view_is)) c.requires.begun in
    record {
      keeps = ap (λ (v : View g.row.D.Denot). v.keeps) view.0 ∙ c.seat.invariant.keeps;
      begun = subst (λ l. IsBegun c.seat.inside.number l) (sym (ap (λ (v : View g.row.D.Denot). v.log) view.0))
          (begun-store c.seat.inside.number c.word_number-at.result c.args.bits c.seat.inside.seat.me.0.log
          (omega arith) some c.seat.invariant.begun);
      no_slot = view.1 ∙ c.seat.invariant.no_slot;
    }
