-- The numbers that a caller's items show, each held against those before it.
use Rattle.std.specs.Prelude.{◌≡◌, ℕ, ◌+◌, ◌<◌, ◌≤◌, ◌==◌, nat_le, max, ◌&&◌, Bool, true, false, if◌then◌else◌, List, [], length, take, slice_get, slice_set, slice_index_or, Option, None, Some}
use Rattle.caller_slots.specs.RunShown.CfTypes.declared.numbers.StrNo.{StrNo}
use Rattle.caller_slots.specs.RunShown.PlexScript.declared.asks.AnyHistory.{AnyHistory}
use Rattle.caller_slots.specs.RunShown.PlexScript.declared.transcripts.Shown.{Shown}
use Rattle.caller_slots.specs.RunShown.PlexScript.declared.transcripts.Shown.TheVariants as shown
use Rattle.caller_slots.specs.RunShown.PlexScript.Follows.{IsNote, surest_on}
use Rattle.caller_slots.specs.RunShown.PlexScript.Heard.{length_on}
use Rattle.caller_slots.specs.RunShown.Headline.{place_of}
use Rattle.caller_slots.specs.RunShown.Numbers.{seen_on}
use Rattle.caller_items.specs.declared.orders.Seen.{Seen}

-- a test shows no number that is before one seen
abbrev pub IsSeen : List Shown → Shown → Type 0
IsSeen before (shown.Test on index bit at) = seen_on on before ≤ at
IsSeen before (shown.Word on word bits at) = seen_on on before ≤ at
IsSeen before (shown.Call on number) = Unit {0}
IsSeen before (shown.BadIndex on index word len) = Unit {0}
IsSeen before (shown.Posted on sure) = Unit {0}
IsSeen before (shown.Took on sure) = Unit {0}

pub record IsInOrder (histories : List AnyHistory) (before : List Shown) (item : Shown) : Type 0 where
  pub note : IsNote histories before item
  pub seen : IsSeen before item

-- the first items, so many, are in order, and the next one isn't
pub record AreInOrder (histories : List AnyHistory) (items : List Shown) (many : ℕ) : Type 0 where
  pub within : many ≤ length items
  pub each : (k : ℕ) (item : Shown) → k < many → slice_get items k ≡ Some item
      → IsInOrder histories (take k items) item
  pub next : (item : Shown) → slice_get items many ≡ Some item → IsInOrder histories (take many items) item → ⊥

-- ---- as it is computed

abbrev pub no_numbers : Seen
no_numbers = record { seen = 0; sure = 0 }

abbrev pub seen_at : List Seen → StrNo → Seen
seen_at table on = slice_index_or table on.0 no_numbers

-- the item is in order, behind what was seen of its structure, whose history has so many entries
abbrev pub is_in_order : ℕ → Seen → Shown → Bool
is_in_order entries before (shown.Call on number) = true
is_in_order entries before (shown.Test on index bit at) = nat_le before.seen at
is_in_order entries before (shown.Word on word bits at) = nat_le before.seen at
is_in_order entries before (shown.BadIndex on index word len) = true
is_in_order entries before (shown.Posted on sure) = nat_le before.sure sure && nat_le sure entries
is_in_order entries before (shown.Took on sure) = nat_le before.sure sure && nat_le sure entries

-- what is seen behind it
abbrev pub seen_after : Seen → Shown → Seen
seen_after before (shown.Call on number) =
    record { seen = max before.seen number; sure = max before.sure number }
seen_after before (shown.Test on index bit at) = record { seen = max before.seen at; sure = before.sure }
seen_after before (shown.Word on word bits at) = record { seen = max before.seen at; sure = before.sure }
seen_after before (shown.BadIndex on index word len) = before
seen_after before (shown.Posted on sure) = record { seen = max before.seen sure; sure = max before.sure sure }
seen_after before (shown.Took on sure) = record { seen = max before.seen sure; sure = max before.sure sure }

-- the table tells what these items show of each structure
pub record Tells (table : List Seen) (items : List Shown) : Type 0 where
  pub seen : (on : StrNo) → on.0 < length table → (seen_at table on).seen ≡ seen_on on items
  pub sure : (on : StrNo) → on.0 < length table → (seen_at table on).sure ≡ surest_on on items
