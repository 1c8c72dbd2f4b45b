use Rattle.struct_cell.proofs.Imports.{◌+◌, ◌<◌, ◌≤◌, ℕ, All, words_of, IsWithin, IsSpared, AreDistinct, ComeBefore}
use Rattle.struct_cell.proofs.touched.every_word.Given as goal

abbrev pub invariant-loop-before : goal.invariant-loop-before
invariant-loop-before l = record {
  within : All (IsWithin l.fn.conns l.fn.len) l.places.items;
  distinct : AreDistinct l.places.items;
  ordered : ComeBefore l.places.items (l.before + 1) 0;
  every : (conn word : ℕ) → 0 < conn → conn ≤ l.before → word < words_of l.fn.len → IsSpared l.places.items conn word
      → ⊥;
}
