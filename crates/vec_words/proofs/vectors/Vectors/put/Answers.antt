use Rattle.vec_words.proofs.Imports.{◌≡◌, ◌*◌, ◌^◌, ◌<◌, ℕ, suc, ap, sym, ◌∙◌, subst, arith, word_of, WordTable, words_of}
use Rattle.vec_words.proofs.{Begun.open_begun, Writes.puts, Tables.words_here}
use Rattle.vec_words.proofs.vectors.Vectors.put.Goals as goal

pub store-requires : goal.store-requires
store-requires g c =
    let id = c.self.inside.table.shared.table_id in
    let shape = c.self.inside.table.shared.key in
    let all : ℕ = shape.conns * words_of shape.len in
    let conns : c.args.self.now.conns ≡ shape.conns =
    sym (c.self.invariant.conns_is ∙ ap (λ (t : WordTable). t.conns) c.self.view_is) in
    let len : c.args.self.now.len ≡ shape.len =
    sym (c.self.invariant.len_is ∙ ap (λ (t : WordTable). t.len) c.self.view_is) in
    let within : g.P.Places.word < all =
    subst (λ (x : ℕ × ℕ). g.P.Places.word < x.0 * words_of x.1) (λ i. (conns i, len i)) c.requires.word.0 in
    let words : id.words ≡ suc all = words_here shape.conns shape.len _ _ id.words c.self.invariant.conns_is
    c.self.invariant.len_is c.self.invariant.words_is in
    let is = c.requires.step.0 in (
      c.requires.table ∙ sym (ap (λ (t : WordTable). t.id) c.self.view_is),
      omega (arith, words, within, is),
      puts shape id.slots c.args.seat.now.id c.args.seat.now.me _ _ g.P.Places.word g.P.Places.bits g.P.Places.stamp
          (omega arith) (c.word_of.ensures ∙ λ i. word_of (c.requires.step.1 i) (c.requires.step.2 i))
          c.requires.log within (grind (arith, bits_fit, open_begun)),
    )
  where
    bits_fit : (a b : ℕ) → a ≡ b → a < 2 ^ 32 → b < 2 ^ 32
    bits_fit a b e h = subst (λ n. n < 2 ^ 32) e h
