use Rattle.vec_words.proofs.Imports.{[], ◌∷◌, ◌++◌, map, ap, sym, ◌∙◌, arith, range_with_len, map-range_with_len_more, PassSeen, new_pass}
use Rattle.vec_words.proofs.vectors.Vectors.passes.Goals as goal

pub loop-number-preserved : goal.loop-number-preserved
loop-number-preserved g c =
    let n = c.loop-number.number in
    let t = c.args.self.now in (
      c.next_pass-pass.ensures.seat,
      c.in_ok-push.ensures.items ∙ ap (λ xs. xs ++ c.next_pass-pass.result ∷ []) c.loop-number.invariant.1
          ∙ ap (λ (x : PassSeen g.row.D.Denot). map (new_pass t) (range_with_len 0 n) ++ x ∷ [])
          c.next_pass-pass.ensures.pass ∙ sym (map-range_with_len_more (new_pass t) 0 n n (omega arith)),
    )
