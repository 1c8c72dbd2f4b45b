-- Engines that are ready with some effects, and with others that have more room.
use Rattle.engine_api.proofs.Imports.{ℕ, ◌≤◌, arith, Effects, ConnId, Wish, ForCmd, ForLeave, ForForget}

pub le-trans : {a b c : ℕ} → a ≤ b → b ≤ c → a ≤ c
le-trans one two = omega (arith, one, two)

-- what holds with some effects holds with others that have as much room
abbrev pub IsRoomLaw : (Effects → Type 0) → Type 0
IsRoomLaw Holds =
    (out other : Effects) → Holds out → out.bits.room ≤ other.bits.room → out.mail.room ≤ other.mail.room → Holds other

-- it does for each wish where it does for commands, departures and the end of registrations
pub room-cases : {C : Type 0} (Holds : Wish C → Effects → Type 0) → ((by : ConnId) (cmd : C)
    → IsRoomLaw (Holds (ForCmd by cmd))) → ((conn : ConnId) → IsRoomLaw (Holds (ForLeave conn)))
    → IsRoomLaw (Holds ForForget) → (wish : Wish C) → IsRoomLaw (Holds wish)
room-cases Holds commands departures end (ForCmd by cmd) = commands by cmd
room-cases x0 commands departures end wish = grind arith
