-- Changed WRITEs that aren't cast out: the data, adjunct and class that each name's row must have after a run.
use Rattle.std.specs.Prelude.{ℕ, Bool, IsTrue, true, false, ◌||◌, ◌≡◌, if◌then◌else◌, List, [], ◌∷◌, Option, None, Some}
use Rattle.cf_types.specs.declared.names.Name16.{Name16}
use Rattle.cf_types.specs.declared.refusals.Refusal.{Refusal}
use Rattle.cf_types.specs.declared.cache_commands.CacheCmd.{CacheCmd}
use Rattle.cf_types.specs.declared.cache_commands.CacheCmd.TheVariants.{Read, Write, CrossInval, RegList, Castout, Unlock, CoClass, CoStats, DirInfo, Delete, StgStats}
use Rattle.cf_types.specs.Name.{same_name}
use Rattle.cache_model.specs.declared.items.CacheItem.{CacheItem}
use Rattle.cache_dir.specs.declared.row.Holder.{Holder}
use Rattle.cache_model.specs.Contents.{Content}
use Rattle.cache_model.specs.Step.{cause}
use Rattle.cache_model.specs.Runs.{Deed, after_deed}
use Rattle.cache_model.specs.Runs.Deed.{Calls, Leaves, Forgets}

-- what the last accepted changed WRITE of a name wrote, and whether a CASTOUT of it was accepted since
pub record Uncast : Type 0 where
  pub body : List ℕ
  pub adj : Option (List ℕ)
  pub class : ℕ
  pub cast : Bool

abbrev pub Uncasts : Type 0
Uncasts = Name16 → Option Uncast

abbrev pub uncast_with : Name16 → Option Uncast → Uncasts → Uncasts
uncast_with name new uncast = λ n. if same_name name n then new else uncast n

abbrev pub uncast_written : List ℕ → Option ℕ → Option (List ℕ) → Option Uncast → Option Uncast
uncast_written body None adj old = old
uncast_written body (Some class) adj old = Some (record { body = body; adj = adj; class = class; cast = false })

abbrev pub uncast_cast : Option Uncast → Option Uncast
uncast_cast None = None
uncast_cast (Some old) = Some (record old { cast = true })

-- an UNLOCK ends it where the last CASTOUT before it stands after the WRITE
abbrev pub uncast_unlocked : Option Uncast → Option Uncast
uncast_unlocked None = None
uncast_unlocked (Some old) = if old.cast then None else Some old

abbrev pub uncast_done : CacheCmd → Uncasts → Uncasts
uncast_done (Read name index old stg) uncast = uncast
uncast_done (Write name index body class adj old stg when_reg) uncast = uncast_with name
    (uncast_written body class adj (uncast name)) uncast
uncast_done (CrossInval name) uncast = uncast
uncast_done RegList uncast = uncast
uncast_done (Castout name) uncast = uncast_with name (uncast_cast (uncast name)) uncast
uncast_done (Unlock name) uncast = uncast_with name (uncast_unlocked (uncast name)) uncast
uncast_done (CoClass class) uncast = uncast
uncast_done CoStats uncast = uncast
uncast_done (DirInfo name) uncast = uncast
uncast_done (Delete name) uncast = uncast_with name None uncast
uncast_done (StgStats stg) uncast = uncast

abbrev pub uncast_unless : Option Refusal → CacheCmd → Uncasts → Uncasts
uncast_unless None cmd uncast = uncast_done cmd uncast
uncast_unless (Some refusal) cmd uncast = uncast

abbrev pub uncast_after : ℕ → Content → Uncasts → Deed → Uncasts
uncast_after vector content uncast (Calls caps by cmd) = uncast_unless (cause vector caps content by cmd) cmd uncast
uncast_after vector content uncast (Leaves conn) = uncast
uncast_after vector content uncast Forgets = uncast

abbrev pub uncast_run : ℕ → Content → Uncasts → List Deed → Uncasts
uncast_run vector content uncast [] = uncast
uncast_run vector content uncast (deed ∷ deeds) =
    uncast_run vector (after_deed vector content deed) (uncast_after vector content uncast deed) deeds

-- nobody holds the row, or it was written since it was cast out
abbrev pub is_settled : Option Holder → Bool
is_settled None = true
is_settled (Some holder) = holder.rewritten

-- the row is changed, with the data, adjunct and class of that WRITE; where no CASTOUT came since, a CASTOUT before
-- it doesn't count
pub record HasWritten (row : CacheItem) (uncast : Uncast) : Type 0 where
  pub body : row.body ≡ Some uncast.body
  pub adj : row.adj ≡ uncast.adj
  pub class : row.class ≡ Some uncast.class
  pub settled : IsTrue (uncast.cast || is_settled row.holder)

-- where a WRITE of the name isn't cast out, the name has a row, which is so
abbrev pub Kept : Option CacheItem → Option Uncast → Type 0
Kept row None = Unit {0}
Kept None (Some uncast) = ⊥
Kept (Some row) (Some uncast) = HasWritten row uncast
