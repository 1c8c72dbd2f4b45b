use Rattle.list_kept.proofs.Imports.{◌≡◌, length, front, AreUsed}
use Rattle.list_kept.proofs.copies.copy_records.Given as goal

abbrev pub invariant-loop-header : goal.invariant-loop-header
invariant-loop-header l =
    (l.copy.lists ≡ front l.header 0 l.store.lists) × AreUsed l.copy.loose × (length l.copy.chains ≡ l.elements)
