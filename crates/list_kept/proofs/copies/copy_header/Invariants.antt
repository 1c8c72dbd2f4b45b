use Rattle.list_kept.proofs.Imports.{◌≡◌, length, front}
use Rattle.list_kept.proofs.copies.copy_header.Given as goal

abbrev pub invariant-loop-place : goal.invariant-loop-place
invariant-loop-place l = (l.copy.lists ≡ front l.header l.place l.store.lists)
    × (l.copy.loose ≡ l.initial.copy.loose) × (length l.copy.chains ≡ length l.initial.copy.chains)
