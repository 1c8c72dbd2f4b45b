-- Hands that hold nothing.
use Rattle.std.specs.Prelude.{◌≡◌, []}
use Rattle.lock_words.specs.Hands.{LocksSeen, HandSeen}

pub record IsFree (locks : LocksSeen) (hand : HandSeen) : Type 0 where
  pub table : hand.table ≡ locks.table
  pub held : hand.held ≡ []
