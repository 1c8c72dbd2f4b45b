-- Causes of refusals that commands share. Each is none where it doesn't hold.
use Rattle.std.specs.Prelude.{ℕ, Bool, false, not, ◌&&◌, ◌||◌, nat_le, if◌then◌else◌, List, Option, Some, None, is_none}
use Rattle.std.specs.List.{list_any}
use Rattle.cf_types.specs.declared.limits.TheConstants.{CASTOUT_CLASSES, STORAGE_CLASSES}
use Rattle.cf_types.specs.declared.names.Name16.{Name16}
use Rattle.cf_types.specs.declared.numbers.ConnId.{ConnId}
use Rattle.cf_types.specs.declared.refusals.Refusal.{Refusal}
use Rattle.cf_types.specs.declared.refusals.Refusal.TheVariants.{NotRegistered, IndexInUse, BadIndex, IsChanged, NotChanged, CastoutHeld, NotHeld, NoEntry, BadClass}
use Rattle.cf_types.specs.Name.{same_name}
use Rattle.cache_regs.specs.declared.registrations.Registration.{Registration}
use Rattle.cache_regs.specs.Registrations.{is_for, registered_at}
use Rattle.cache_model.specs.declared.items.CacheItem.{CacheItem}
use Rattle.cache_dir.specs.declared.row.Holder.{Holder}
use Rattle.cache_model.specs.Rows.{is_changed, is_held_by, row_of}

-- the caller gives up this name
abbrev pub gives_up : Option Name16 → Name16 → Bool
gives_up None other = false
gives_up (Some old) other = same_name old other

-- the index is in use for another name than the one asked and the one given up
abbrev pub use_refusal : Option Name16 → Name16 → Option Name16 → Option Refusal
use_refusal None name old = None
use_refusal (Some other) name old =
    if same_name other name || gives_up old other then None else Some (IndexInUse other)

-- the index rule
abbrev pub index_refusal : ℕ → List Registration → ConnId → Name16 → ℕ → Option Name16 → Option Refusal
index_refusal vector regs conn name index old =
    if nat_le vector index then Some (BadIndex index vector) else use_refusal (registered_at regs conn index) name old

-- storage classes are 1 to 8, castout classes 1 to 16
abbrev pub storage_refusal : ℕ → Option Refusal
storage_refusal stg = if nat_le 1 stg && nat_le stg STORAGE_CLASSES then None else Some (BadClass stg)

abbrev pub class_refusal : ℕ → Option Refusal
class_refusal class = if nat_le 1 class && nat_le class CASTOUT_CLASSES then None else Some (BadClass class)

abbrev pub castout_refusal : Option ℕ → Option Refusal
castout_refusal None = None
castout_refusal (Some class) = class_refusal class

-- where it is asked for, only a caller that is registered for the name may write
abbrev pub registration_refusal : List Registration → ConnId → Name16 → Bool → Option Refusal
registration_refusal regs conn name when_reg =
    if when_reg && not (list_any (is_for conn name) regs) then Some NotRegistered else None

-- a changed row isn't written as unchanged
abbrev pub is_changed_row : Option CacheItem → Bool
is_changed_row None = false
is_changed_row (Some row) = is_changed row

abbrev pub change_refusal : List CacheItem → Name16 → Option ℕ → Option Refusal
change_refusal rows name class = if is_none class && is_changed_row (row_of name rows) then Some IsChanged else None

-- the name has no row
abbrev pub entry_refusal : Option CacheItem → Option Refusal
entry_refusal None = Some NoEntry
entry_refusal (Some row) = None

-- the row is held by anyone; by another than the caller; not by the caller
abbrev pub holder_refusal : Option Holder → Option Refusal
holder_refusal None = None
holder_refusal (Some holder) = Some (CastoutHeld holder.conn)

abbrev pub held_refusal : Option CacheItem → Option Refusal
held_refusal None = None
held_refusal (Some row) = holder_refusal row.holder

abbrev pub held_by_other_refusal : ConnId → Option CacheItem → Option Refusal
held_by_other_refusal conn None = None
held_by_other_refusal conn (Some row) = if is_held_by conn row.holder then None else holder_refusal row.holder

abbrev pub not_held_refusal : ConnId → Option CacheItem → Option Refusal
not_held_refusal conn None = None
not_held_refusal conn (Some row) = if is_held_by conn row.holder then None else Some NotHeld

-- the row is unchanged
abbrev pub unchanged_refusal : Option CacheItem → Option Refusal
unchanged_refusal None = None
unchanged_refusal (Some row) = if is_changed row then None else Some NotChanged
