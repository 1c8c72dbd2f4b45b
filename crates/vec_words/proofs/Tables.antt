-- A token of this table has the table's number and form.
use Rattle.vec_words.proofs.Imports.{◌≡◌, ◌*◌, ℕ, suc, sym, ap, ◌∙◌, words_of, WordTable}

pub id_of : (x y z : WordTable) → x ≡ y → z ≡ y → x.id ≡ z.id
id_of x y z p q = ap (λ (t : WordTable). t.id) p ∙ sym (ap (λ (t : WordTable). t.id) q)

-- how many words the table has, by its own form
pub words_here : (conns len conns' len' words : ℕ) → conns ≡ conns'
    → len ≡ len' → words ≡ suc (conns' * words_of len') → words ≡ suc (conns * words_of len)
words_here conns len conns' len' words p q e = e ∙ λ i. suc (sym p i * words_of (sym q i))
