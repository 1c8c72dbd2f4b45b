-- Slots whose calls are what their steps ask, so that some transcript fills them.
use Rattle.std.specs.Prelude.{◌≡◌, List, [], ◌∷◌, Some}
use Rattle.caller_slots.specs.Slots.{Slot, Calls, Tests, Words, Outside, Posts, Takes}

abbrev pub IsAskedIn : Slot → Type 0
IsAskedIn (Calls on asked call) = asked ≡ Some call.ask
IsAskedIn (Tests on index) = Unit {0}
IsAskedIn (Words on word) = Unit {0}
IsAskedIn (Outside on index word len) = Unit {0}
IsAskedIn (Posts on) = Unit {0}
IsAskedIn (Takes on) = Unit {0}

abbrev pub AreAsked : List Slot → Type 0
AreAsked [] = Unit {0}
AreAsked (slot ∷ slots) = IsAskedIn slot × AreAsked slots
