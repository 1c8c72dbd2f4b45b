use Rattle.vec_words.proofs.Imports.{◌≡◌, ◌*◌, ◌/◌, ◌<◌, ◌≤◌, ℕ, suc, ap, sym, ◌∙◌, subst, arith, WordTable, PassSeen, words_of, word_number}
use Rattle.vec_words.proofs.{Steps.looks, Tables.id_of, Tables.words_here}
use Rattle.vec_words.proofs.vectors.Vectors.look.Goals as goal

pub load-found-requires : goal.load-found-requires
load-found-requires g c =
    let v = c.pass.inside.seat.me.0 in
    let id = c.self.inside.table.shared.table_id in
    let shape = c.self.inside.table.shared.key in
    let all : ℕ = shape.conns * words_of shape.len in
    let word = c.place_of-place.result in
    let place = c.args.index / 32 in
    let conns : c.args.self.now.conns ≡ shape.conns =
    sym (c.self.invariant.conns_is ∙ ap (λ (t : WordTable). t.conns) c.self.view_is) in
    let len : c.args.self.now.len ≡ shape.len =
    sym (c.self.invariant.len_is ∙ ap (λ (t : WordTable). t.len) c.self.view_is) in
    let within : word < all =
    subst (λ (x : ℕ × ℕ). word < x.0 * words_of x.1) (λ i. (conns i, len i)) c.place_of-place.ensures.within in
    let words : id.words ≡ suc all = grind (arith, words_here) in (
      id_of _ _ _ (ap (λ (p : PassSeen g.row.D.Denot). p.table) c.pass.view_is ∙ c.requires.table) c.self.view_is,
      omega (arith, words, within),
      looks shape id.slots c.pass.inside.seat.id c.pass.inside.seat.me g.A.Asked.asked _ word
          place (omega arith) within (c.place_of-place.ensures.number ∙ ap (λ (x : ℕ × ℕ). word_number x.0 x.1 place)
          (λ i. (len i, sym (ap (λ (p : PassSeen g.row.D.Denot). p.owner) c.pass.view_is) i)))
          (subst (λ o. 0 < o) (sym (ap (λ (p : PassSeen g.row.D.Denot). p.owner) c.pass.view_is)) c.requires.caller)
          (subst (λ l. place < words_of l) len c.requires.index) (subst (λ (x : ℕ × ℕ). x.0 ≤ x.1)
          (λ i. (c.pass.invariant.sure_is i, c.pass.invariant.known_is i)) c.pass.invariant.ordered) c.requires.asked,
    )
