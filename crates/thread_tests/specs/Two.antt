-- Two hands of two lock words.
use Rattle.std.specs.Prelude.{◌≡◌, ℕ}
use Rattle.lock_words.specs.Hands.{LocksSeen, HandSeen}

-- the hand with this number of two words
pub record IsHandOf (locks : LocksSeen) (number : ℕ) (hand : HandSeen) : Type 0 where
  pub two : locks.words ≡ 2
  pub table : hand.table ≡ locks.table
  pub words : hand.words ≡ locks.words
  pub same : hand.number ≡ number

-- the two hands of the locks
pub record AreTwo (locks : LocksSeen) (first second : HandSeen) : Type 0 where
  pub hands : locks.hands ≡ 2
  pub one : IsHandOf locks 1 first
  pub other : IsHandOf locks 2 second
