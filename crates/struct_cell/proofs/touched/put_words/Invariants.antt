use Rattle.struct_cell.proofs.Imports.{◌<◌, ℕ, All, IsWithin, IsSpared, AreDistinct, ComeBefore}
use Rattle.struct_cell.proofs.touched.put_words.Given as goal

abbrev pub invariant-loop-word : goal.invariant-loop-word
invariant-loop-word l = record {
  within : All (IsWithin l.fn.conns l.fn.len) l.places.items;
  distinct : AreDistinct l.places.items;
  ordered : ComeBefore l.places.items l.fn.conn.0 l.word;
  others : (other word : ℕ) → IsSpared l.places.items other word → IsSpared l.fn.places.items other word;
  here : (word : ℕ) → word < l.word → IsSpared l.places.items l.fn.conn.0 word → ⊥;
}
