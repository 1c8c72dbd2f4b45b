use Rattle.vec_words.proofs.Imports.{◌<◌, sym, ap, ◌∙◌, subst, count_of, SeatSeen, IsBegun}
use Rattle.vec_words.proofs.Begun.{begun-begin, fresh}
use Rattle.vec_words.proofs.vectors.Vectors.begin.Goals as goal

pub invariant_of-seat : goal.invariant_of-seat
invariant_of-seat g c =
    let log = c.seat.inside.seat.me.0.log in
    let idle = ap (λ (s : SeatSeen g.row.D.Denot). s.number) c.seat.view_is ∙ c.requires.idle in
    let above = subst (λ l. count_of l < c.args.number)
    (sym (ap (λ (s : SeatSeen g.row.D.Denot). s.log) c.seat.view_is)) c.requires.above in
    record {
      keeps = c.seat.invariant.keeps;
      begun = begun-begin c.args.number log above (subst (λ n. IsBegun n log) idle c.seat.invariant.begun);
      no_slot = c.seat.invariant.no_slot;
    }

pub returns-clause-fresh : goal.returns-clause-fresh
returns-clause-fresh g c word =
    let log = c.seat.inside.seat.me.0.log in
    let idle = ap (λ (s : SeatSeen g.row.D.Denot). s.number) c.seat.view_is ∙ c.requires.idle in
    let above = subst (λ l. count_of l < c.args.number)
    (sym (ap (λ (s : SeatSeen g.row.D.Denot). s.log) c.seat.view_is)) c.requires.above in
    fresh c.args.number word log above (subst (λ n. IsBegun n log) idle c.seat.invariant.begun)

pub returns-clause-log : goal.returns-clause-log
returns-clause-log g c =
    let log = c.seat.inside.seat.me.0.log in
    let idle = ap (λ (s : SeatSeen g.row.D.Denot). s.number) c.seat.view_is ∙ c.requires.idle in
    let above = subst (λ l. count_of l < c.args.number)
    (sym (ap (λ (s : SeatSeen g.row.D.Denot). s.log) c.seat.view_is)) c.requires.above in
    (begun-begin c.args.number log above (subst (λ n. IsBegun n log) idle c.seat.invariant.begun)).orderly
