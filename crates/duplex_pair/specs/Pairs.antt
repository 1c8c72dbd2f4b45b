-- One or two instances of a structure with the same content, and the links to the facilities.
use Rattle.std.specs.Prelude.{◌≡◌, ◌≢◌, Bool, false, ◌||◌, if◌then◌else◌, List, [], Option, None, Some, option_map, IfSome}
use Rattle.cf_types.specs.declared.effects.Effects.{Effects}
use Rattle.cf_types.specs.declared.events.Letter.{Letter}
use Rattle.cf_types.specs.declared.numbers.CfId.{CfId}
use Rattle.cf_types.specs.declared.numbers.ConnId.{ConnId}
use Rattle.cf_types.specs.Forms.{IsFacility}
use Rattle.cf_types.specs.Gains.{Bits}
use Rattle.cf_link.specs.declared.links.Links.{Links}
use Rattle.engine_api.specs.Instances.{Instances, is_at}
use Rattle.engine_api.specs.Meaning.{Meaning, Held, Wish, letters_of, departure, stands_in}
use Rattle.duplex_pair.specs.declared.lost.Lost.{Lost}
use Rattle.duplex_pair.specs.declared.placed.Placed.{Placed}

-- the instances where they stand, what the secondary brings for nobody to see, and the links
pub record PairView (E L : Type 0) : Type 0 where
  pub primary : Option (Placed E)
  pub secondary : Option (Placed E)
  pub spare : Effects
  pub links : Links L

-- ---- where instances stand

abbrev pub facility_of : {E : Type 0} → Option (Placed E) → Option CfId
facility_of placed = option_map (λ p. p.at) placed

abbrev pub instances_of : {E L : Type 0} → PairView E L → Instances
instances_of pair = record { primary = facility_of pair.primary; secondary = facility_of pair.secondary }

-- an instance stands in the facility
abbrev pub stands_at : {E L : Type 0} → CfId → PairView E L → Bool
stands_at cf pair = is_at cf (facility_of pair.primary) || is_at cf (facility_of pair.secondary)

abbrev pub is_lost_at : CfId → Lost → Bool
is_lost_at cf lost = is_at cf lost.first || is_at cf lost.second

-- ---- instances that end

-- an instance, unless it stands in the facility that is named
abbrev pub elsewhere : {E : Type 0} → Option CfId → Option (Placed E) → Option (Placed E)
elsewhere None placed = placed
elsewhere (Some cf) placed = if is_at cf (facility_of placed) then None else placed

-- of these two the first that is there is the primary, and the other one the secondary
abbrev pub first_left : {E : Type 0} → (one other : Option (Placed E)) → Option (Placed E)
first_left None other = other
first_left (Some p) other = Some p

abbrev pub second_left : {E : Type 0} → (one other : Option (Placed E)) → Option (Placed E)
second_left None other = None
second_left (Some p) other = other

abbrev pub with_left : {E L : Type 0} → (one other : Option (Placed E)) → PairView E L → PairView E L
with_left one other pair = record pair { primary = first_left one other; secondary = second_left one other }

-- without those that are lost
abbrev pub without_lost : {E L : Type 0} → Lost → PairView E L → PairView E L
without_lost lost pair = with_left (elsewhere lost.first pair.primary) (elsewhere lost.second pair.secondary) pair

-- without the one in a facility, which is this one
abbrev pub without_at : {E L : Type 0} → CfId → PairView E L → PairView E L
without_at cf pair = with_left (elsewhere (Some cf) pair.primary) (elsewhere (Some cf) pair.secondary) pair

abbrev pub engine_at : {E L : Type 0} → CfId → PairView E L → Option E
engine_at cf pair =
    option_map (λ p. p.engine) (if is_at cf (facility_of pair.primary) then pair.primary else pair.secondary)

-- ---- the content

module _ {E S : Type 0} (held : E → Held S) where
  -- what an instance holds, where one stands; and what the pair holds, which is what its primary does
  abbrev pub held_in : Option (Placed E) → Option (Held S)
  held_in placed = option_map (λ p. held p.engine) placed

  abbrev pub content_of : {L : Type 0} → PairView E L → Option (Held S)
  content_of pair = held_in pair.primary

  -- a secondary stands beside a primary, in another facility, and holds the same
  abbrev pub ArePaired : Option (Placed E) → Option (Placed E) → Type 0
  ArePaired None None = Unit {0}
  ArePaired None (Some other) = ⊥
  ArePaired (Some p) None = IsFacility p.at
  ArePaired (Some p) (Some other) =
      IsFacility p.at × IsFacility other.at × (other.at.0 ≢ p.at.0) × (held other.engine ≡ held p.engine)

module _ {C R I S : Type 0} (meaning : Meaning C R I S) where
  -- the bits that stand; none where nothing is held
  abbrev pub bits_of : Option (Held S) → Bits
  bits_of None conn index = false
  bits_of (Some held) conn index = stands_in meaning held conn index

  -- the letters that a command sends, and those that a departure does
  abbrev pub letters_by : ConnId → C → Option (Held S) → List Letter
  letters_by by cmd None = []
  letters_by by cmd (Some held) = letters_of meaning held by cmd

  abbrev pub letters_on_leave : ConnId → Bool → Option (Held S) → List Letter
  letters_on_leave conn keep None = []
  letters_on_leave conn keep (Some held) = (departure meaning held conn keep).letters

-- ---- effects

-- neither a bit nor a letter is told
pub record AreNone (effects : Effects) : Type 0 where
  pub bits : effects.bits.items ≡ []
  pub mail : effects.mail.items ≡ []

-- ---- readiness

-- The primary is ready with these effects. So is the secondary, which may have to take the primary's place, and with
-- the spare ones too, for what it does beside a primary.
pub record AreReady {C E L : Type 0} (is_ready : E → Wish C → Effects → Type 0) (pair : PairView E L) (wish : Wish C)
    (out : Effects) : Type 0 where
  pub primary : IfSome pair.primary (λ p. is_ready p.engine wish out)
  pub successor : IfSome pair.secondary (λ p. is_ready p.engine wish out)
  pub secondary : IfSome pair.secondary (λ p. is_ready p.engine wish pair.spare)
