-- How many items of a transcript fit the places that a caller's calls give them.
use Rattle.std.specs.Prelude.{ℕ, ◌+◌, ◌==◌, ◌&&◌, not, Bool, true, false, if◌then◌else◌, List, [], ◌∷◌, fold, slice_get, Option, None, Some}
use Rattle.caller_slots.specs.RunShown.CfTypes.declared.numbers.StrNo.{StrNo}
use Rattle.caller_slots.specs.RunShown.PlexScript.declared.transcripts.Shown.{Shown}
use Rattle.caller_slots.specs.RunShown.PlexScript.declared.transcripts.Shown.TheVariants as shown
use Rattle.caller_slots.specs.Slots.{Slot, Calls, Tests, Words, Outside, Posts, Takes}
use Rattle.caller_walk.specs.declared.counts.Count.{Count}
use Rattle.caller_walk.specs.declared.counts.Due.{Due}
use Rattle.caller_walk.specs.declared.counts.Due.TheVariants as due

-- an item shows this call; a test of this bit, or of this word, whatever it answers; that these aren't in the vector; a
-- POST; a TAKE
abbrev pub is_call : StrNo → ℕ → Shown → Bool
is_call on number (shown.Call place other) = (on.0 == place.0) && (number == other)
is_call on number _ = false

abbrev pub is_test : StrNo → ℕ → Shown → Bool
is_test on index (shown.Test place at bit number) = (on.0 == place.0) && (index == at)
is_test on index _ = false

abbrev pub is_word : StrNo → ℕ → Shown → Bool
is_word on word (shown.Word place at bits number) = (on.0 == place.0) && (word == at)
is_word on word _ = false

abbrev pub is_alike : Bool → Bool → Bool
is_alike true other = other
is_alike false other = not other

abbrev pub is_outside : StrNo → ℕ → Bool → ℕ → Shown → Bool
is_outside on index word len (shown.BadIndex place at other many) =
    ((on.0 == place.0) && (index == at)) && ((is_alike word other) && (len == many))
is_outside on index word len _ = false

abbrev pub is_post : StrNo → Shown → Bool
is_post on (shown.Posted place sure) = on.0 == place.0
is_post on _ = false

abbrev pub is_take : StrNo → Shown → Bool
is_take on (shown.Took place sure) = on.0 == place.0
is_take on _ = false

-- an item is one that is due
abbrev pub is_due : Due → Shown → Bool
is_due (due.Call on number) item = is_call on number item
is_due (due.Test on index) item = is_test on index item
is_due (due.Word on word) item = is_word on word item
is_due (due.Outside on index word len) item = is_outside on index word len item
is_due (due.Posted on) item = is_post on item
is_due (due.Took on) item = is_take on item

abbrev pub is_there : Due → Option Shown → Bool
is_there wanted None = false
is_there wanted (Some item) = is_due wanted item

-- one more is due
abbrev pub count_one : List Shown → Count → Due → Count
count_one items count wanted =
    if count.differs then count
    else (if is_there wanted (slice_get items count.fitting)
    then record { fitting = count.fitting + 1; differs = false }
    else record { fitting = count.fitting; differs = true })

-- what is due at a slot
abbrev pub due_at : Slot → Due
due_at (Calls on asked call) = due.Call on call.no
due_at (Tests on index) = due.Test on index
due_at (Words on word) = due.Word on word
due_at (Outside on index word len) = due.Outside on index word len
due_at (Posts on) = due.Posted on
due_at (Takes on) = due.Took on

abbrev pub count_slot : List Shown → Count → Slot → Count
count_slot items count slot = count_one items count (due_at slot)

-- all slots are due, one after another
abbrev pub counted : List Shown → Count → List Slot → Count
counted items count slots = fold (count_slot items) count slots

abbrev pub no_count : Count
no_count = record { fitting = 0; differs = false }
