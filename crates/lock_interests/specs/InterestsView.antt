-- Interests with their record data, from the list of owners and the list of record data.
use Rattle.std.specs.Prelude.{ℕ, Bool, true, false, IsTrue, not, ◌&&◌, ◌==◌, if◌then◌else◌, List, [], ◌∷◌, Option, Some, None, option_map, filter, find, map}
use Rattle.std.specs.List.{filter_map, list_all}
use Rattle.cf_types.specs.declared.events.Event.TheVariants as events
use Rattle.cf_types.specs.declared.events.Letter.{Letter}
use Rattle.cf_types.specs.declared.numbers.ConnId.{ConnId}
use Rattle.cf_types.specs.declared.resources.Resource.{Resource}
use Rattle.cf_types.specs.Resources.{Part}
use Rattle.lock_table.specs.declared.holdings.Held.{Held}
use Rattle.lock_table.specs.Holdings.{is_on, has_interest, owners_retained}
use Rattle.lock_record.specs.declared.recorded.Record.{Record}
use Rattle.lock_record.specs.Recorded.{is_of, record_of, records_with, records_without}
use Rattle.lock_model.specs.Interests.{Interest}
use Rattle.lock_interests.specs.declared.interests.Interests.TheInside.{Inside}

-- the interests; for how many more interests and record data there is room; and how many record
-- data there may be
pub record InterestsView : Type 0 where
  pub interests : List Interest
  pub owner_room : ℕ
  pub record_room : ℕ
  pub limit : ℕ

abbrev pub with_record : List Record → Held → Interest
with_record records held = record { held = held; rec = record_of held.r held.conn records }

abbrev pub interests_of : List Held → List Record → List Interest
interests_of owners records = map (with_record records) owners

-- each record datum is of an owner
abbrev pub AreOwned : List Held → List Record → Type 0
AreOwned owners records =
    IsTrue (list_all (λ recorded. has_interest recorded.r recorded.conn owners) records)

abbrev pub interests_view : Inside → InterestsView
interests_view i =
    record {
      interests = interests_of i.owners.owners i.records.records;
      owner_room = i.owners.room;
      record_room = i.records.room;
      limit = i.records.limit;
    }

-- record data of a part are put where they are given, and go where they aren't; or stay where they
-- aren't
abbrev pub records_put : Resource → ConnId → Option (List ℕ) → List Record → List Record
records_put r conn None records = records_without r conn records
records_put r conn (Some rec) records =
    records_with (record { r = r; conn = conn; rec = rec }) records

abbrev pub records_given : Resource → ConnId → Option (List ℕ) → List Record → List Record
records_given r conn None records = records
records_given r conn (Some rec) records =
    records_with (record { r = r; conn = conn; rec = rec }) records

-- ---- what is read of owners and their record data

-- the letters to the owners that aren't retained, of a waiter, but not to itself
abbrev pub letters_told : Resource → ConnId → List Held → List Letter
letters_told r conn owners =
    map (λ held. record { to = held.conn; event = events.Notify r conn })
    (filter (λ held. (is_on r held && not held.retained) && not (held.conn.0 == conn.0)) owners)

abbrev pub record_read : Held → Option (List ℕ) → Option (Resource × Bool × List ℕ)
record_read held rec = option_map (λ bytes. (held.r, held.excl, bytes)) rec

-- a connector's record data, with the resource and the state
abbrev pub records_read : ConnId → List Record → List Held → List (Resource × Bool × List ℕ)
records_read conn records owners =
    filter_map (λ held. record_read held (record_of held.r held.conn records))
    (filter (λ held. held.conn.0 == conn.0) owners)

-- an interest, if there is one, is retained; what is read of it
abbrev pub is_held_retained : Option Held → Bool
is_held_retained None = false
is_held_retained (Some held) = held.retained

abbrev pub held_read : List Record → Option Held → Option (Resource × Bool × List ℕ)
held_read records None = None
held_read records (Some held) = record_read held (record_of held.r held.conn records)

abbrev pub read_in : ConnId → List Record → List Held → Resource
    → Option (Resource × Bool × List ℕ)
read_in conn records owners r =
    held_read records (find (λ held. held.conn.0 == conn.0) (filter (is_on r) owners))

-- ---- a connector's interests are retained for which there are record data, one after another

abbrev pub retained_one : ConnId → Record → List Held → List Held
retained_one conn recorded owners =
    if is_of conn recorded then owners_retained recorded.r conn true owners else owners

-- a part, if there is one
abbrev pub retained_at : ConnId → Option Part → List Held → List Held
retained_at conn None owners = owners
retained_at conn (Some p) owners =
    if p.1.0 == conn.0 then owners_retained p.0 conn true owners else owners

abbrev pub retained_all : ConnId → List Record → List Held → List Held
retained_all conn [] owners = owners
retained_all conn (recorded ∷ records) owners =
    retained_all conn records (retained_one conn recorded owners)
