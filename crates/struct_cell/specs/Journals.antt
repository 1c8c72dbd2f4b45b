-- The replies that a journal has for a caller.
use Rattle.std.specs.Prelude.{ℕ, ◌-◌, ◌==◌, List, Option, None, Some, option_and_then, slice_get, if◌then◌else◌}
use Rattle.cf_types.specs.declared.numbers.ConnId.{ConnId}
use Rattle.engine_api.specs.declared.asks.Reply.{Reply}
use Rattle.engine_api.specs.declared.asks.What.{What}
use Rattle.engine_api.specs.declared.asks.What.TheVariants as what
use Rattle.engine_api.specs.declared.histories.Entry.{Entry}

module _ {C R : Type 0} where
  -- the reply that an entry has for a caller: where it tells a call, the caller's own
  abbrev pub reply_told : ConnId → ConnId → Reply R → What C → Option (Reply R)
  reply_told owner by reply (what.Call ask) = if by.0 == owner.0 then Some reply else None
  reply_told owner by reply (what.Lost cf) = None

  abbrev pub reply_for : ConnId → Entry C R → Option (Reply R)
  reply_for owner entry = reply_told owner entry.by entry.reply entry.what

  -- the reply that the entry of this number has for a caller, where entry k of a journal, from 1, has the number k
  abbrev pub reply_at : List (Entry C R) → ConnId → ℕ → Option (Reply R)
  reply_at journal owner number =
      if number == 0 then None else option_and_then (reply_for owner) (slice_get journal (number - 1))
