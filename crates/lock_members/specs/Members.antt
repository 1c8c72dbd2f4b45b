-- The members' hands.
use Rattle.std.specs.Prelude.{◌≡◌}
use Rattle.lock_words.specs.Hands.{LocksSeen, HandSeen}
use Rattle.lock_members.specs.declared.crew.Crew.{Crew}

-- the hand is of these locks
pub record IsHandOf (locks : LocksSeen) (hand : HandSeen) : Type 0 where
  pub table : hand.table ≡ locks.table
  pub words : hand.words ≡ locks.words

-- it is still the same hand
abbrev pub Stays : HandSeen → HandSeen → Type 0
Stays before after = after.number ≡ before.number

-- the four hands of the locks, in the order of their numbers
pub record IsCrewOf (locks : LocksSeen) (crew : Crew) : Type 0 where
  pub four : locks.hands ≡ 4
  pub a : IsHandOf locks crew.a × (crew.a.number ≡ 1)
  pub b : IsHandOf locks crew.b × (crew.b.number ≡ 2)
  pub c : IsHandOf locks crew.c × (crew.c.number ≡ 3)
  pub d : IsHandOf locks crew.d × (crew.d.number ≡ 4)
