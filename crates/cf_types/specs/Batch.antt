-- Items in their order, with room taken for more.
use Rattle.std.specs.Prelude.{ℕ, List, min}
use Rattle.cf_types.specs.declared.events.Letter.{Letter}

pub record BatchView (T : Type 0) : Type 0 where
  pub items : List T
  pub room : ℕ

-- for how many letters there is room, as a number of 32 bits
abbrev pub letter_room : BatchView Letter → ℕ
letter_room mail = min mail.room 4294967295
