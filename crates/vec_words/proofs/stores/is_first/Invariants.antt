use Rattle.vec_words.proofs.Imports.{◌≡◌, ◌<◌, ◌≤◌, ℕ, Some, slice_get, Place, IsAt}
use Rattle.vec_words.proofs.stores.is_first.Given as goal

-- no place from here up to this one is the same word
abbrev pub invariant-loop-before : goal.invariant-loop-before
invariant-loop-before g l = (l.before ≤ l.at) × ((k : ℕ) (p : Place) → l.before ≤ k → k < l.at
    → slice_get (g.C.Changes.places l.changes) k ≡ Some p → ¬ IsAt l.place.conn.0 l.place.word p)

abbrev pub decreases-loop-before : goal.decreases-loop-before
decreases-loop-before g l = l.before
