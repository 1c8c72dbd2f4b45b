-- Causes of refusals that commands share. Each is none where it doesn't hold.
use Rattle.std.specs.Prelude.{ℕ, ◌-◌, Bool, true, false, ◌||◌, ◌==◌, nat_le, if◌then◌else◌, List, [], ◌∷◌, length, Option, Some, None, is_none, find, get_or}
use Rattle.cf_types.specs.declared.forms.Caps.{Caps}
use Rattle.cf_types.specs.declared.forms.Refs.{Refs}
use Rattle.cf_types.specs.declared.forms.Refs.TheVariants as refs
use Rattle.cf_types.specs.declared.list_commands.At.{At}
use Rattle.cf_types.specs.declared.list_commands.At.TheVariants as ref
use Rattle.cf_types.specs.declared.list_commands.Cond.{Cond}
use Rattle.cf_types.specs.declared.list_commands.Cond.TheVariants as cond
use Rattle.cf_types.specs.declared.names.Key16.{Key16}
use Rattle.cf_types.specs.declared.names.Name16.{Name16}
use Rattle.cf_types.specs.declared.numbers.ConnId.{ConnId}
use Rattle.cf_types.specs.declared.refusals.Refusal.{Refusal}
use Rattle.cf_types.specs.declared.refusals.Refusal.TheVariants.{BadIndex, NoRecordThere, NameTaken, BadHeader, ListFull, EntriesFull, NoListElements, LockHeld, LockNotHeldBy, WrongReference, HeaderInUse, BadLock, VersionDiffers}
use Rattle.engine_api.specs.declared.shapes.Shape.{Shape}
use Rattle.engine_api.specs.Meaning.{first_refusal}
use Rattle.list_store.specs.Record.{Record}
use Rattle.list_store.specs.Lists.{records_of}
use Rattle.list_watch.specs.declared.monitors.Monitor.{Monitor}
use Rattle.list_watch.specs.Monitors.{monitored_at}
use Rattle.list_model.specs.Records.{has_name, elements_in, is_reference}
use Rattle.list_model.specs.Contents.{Content, headers_of, refs_of, holder_of, is_held_by}

-- ---- list locks, and conditions on them

-- 30: the lock isn't below the number of list locks
abbrev pub lock_refusal : ℕ → ℕ → Option Refusal
lock_refusal locks lock = if nat_le locks lock then Some (BadLock lock locks) else None

-- 26: the lock is held by anyone
abbrev pub held_refusal : Option ConnId → Option Refusal
held_refusal None = None
held_refusal (Some holder) = Some (LockHeld holder)

-- 27: the lock isn't held by the caller
abbrev pub not_held_refusal : ConnId → Option ConnId → Option Refusal
not_held_refusal by holder = if is_held_by by holder then None else Some (LockNotHeldBy holder)

-- the condition's lock, and then the condition
abbrev pub cond_lock_refusal : ℕ → Option Cond → Option Refusal
cond_lock_refusal locks None = None
cond_lock_refusal locks (Some (cond.NotHeld lock)) = lock_refusal locks lock
cond_lock_refusal locks (Some (cond.HeldBy lock)) = lock_refusal locks lock

abbrev pub cond_refusal : List (Option ConnId) → ConnId → Option Cond → Option Refusal
cond_refusal locks by None = None
cond_refusal locks by (Some (cond.NotHeld lock)) = held_refusal (holder_of lock locks)
cond_refusal locks by (Some (cond.HeldBy lock)) = not_held_refusal by (holder_of lock locks)

-- ---- headers and references

-- 22: the header isn't below the number of headers
abbrev pub header_refusal : ℕ → ℕ → Option Refusal
header_refusal headers header =
    if nat_le headers header then Some (BadHeader header headers) else None

-- 28: records aren't known in that way
abbrev pub reference_refusal : Refs → Option Name16 → Option Key16 → Option Refusal
reference_refusal refs name key =
    if is_reference refs name key then None else Some (WrongReference refs)

abbrev pub has_names : Refs → Bool
has_names refs.Names = true
has_names refs.Keys = false
has_names refs.Nothing = false

abbrev pub has_keys : Refs → Bool
has_keys refs.Names = false
has_keys refs.Keys = true
has_keys refs.Nothing = false

abbrev pub new_key_refusal : Refs → Option Key16 → Option Refusal
new_key_refusal refs key = if is_none key || has_keys refs then None else Some (WrongReference refs)

-- the refusals of a reference: its header, its form, and 20 where no record is there
abbrev pub ref_header_refusal : ℕ → At → Option Refusal
ref_header_refusal headers (ref.Id id) = None
ref_header_refusal headers (ref.Name name) = None
ref_header_refusal headers (ref.Head header) = header_refusal headers header
ref_header_refusal headers (ref.Tail header) = header_refusal headers header
ref_header_refusal headers (ref.Key header key) = header_refusal headers header

abbrev pub ref_form_refusal : Refs → At → Option Refusal
ref_form_refusal refs (ref.Id id) = None
ref_form_refusal refs (ref.Name name) = if has_names refs then None else Some (WrongReference refs)
ref_form_refusal refs (ref.Head header) = None
ref_form_refusal refs (ref.Tail header) = None
ref_form_refusal refs (ref.Key header key) =
    if has_keys refs then None else Some (WrongReference refs)

-- the refusals of a sublist: its header, and 28 where records have no keys
abbrev pub sublist_refusal : Shape → ℕ → Key16 → Option Refusal
sublist_refusal shape header key =
    first_refusal (ref_header_refusal (headers_of shape.kind) (ref.Key header key)
    ∷ ref_form_refusal (refs_of shape.kind) (ref.Key header key) ∷ [])

abbrev pub record_refusal : Option Record → Option Refusal
record_refusal None = Some NoRecordThere
record_refusal (Some rec) = None

-- 31: the record has another version than the one given
abbrev pub version_refusal : Option ℕ → ℕ → Option Refusal
version_refusal None found = None
version_refusal (Some version) found =
    if version == found then None else Some (VersionDiffers found)

-- ---- names and room

-- 21: a record has the name
abbrev pub taken_refusal : Option Record → Option Refusal
taken_refusal None = None
taken_refusal (Some rec) = Some (NameTaken rec.id)

abbrev pub name_refusal : List Record → Option Name16 → Option Refusal
name_refusal recs None = None
name_refusal recs (Some name) = taken_refusal (find (has_name name) recs)

-- 23: the header has as many records as its limit, or more
abbrev pub full_refusal : Content → ℕ → Option Refusal
full_refusal content header =
    let limit = get_or content.limits header 0 in
    if nat_le limit (length (records_of content.lists header)) then Some (ListFull limit) else None

-- 24: the structure has as many records as entries
abbrev pub entries_refusal : Caps → List Record → Option Refusal
entries_refusal caps recs =
    if nat_le caps.entries (length recs) then Some (EntriesFull caps.entries) else None

-- 25: the data need more elements than these records leave free
abbrev pub elements_refusal : Caps → ℕ → List Record → Option Refusal
elements_refusal caps need recs =
    let free = caps.elements - elements_in recs in
    if nat_le need free then None else Some (NoListElements need free)

-- ---- monitors

-- 3: the index isn't below the length of the vector
abbrev pub index_refusal : ℕ → ℕ → Option Refusal
index_refusal vector index = if nat_le vector index then Some (BadIndex index vector) else None

-- 29: the index monitors another header
abbrev pub other_refusal : Option ℕ → ℕ → Option Refusal
other_refusal None header = None
other_refusal (Some other) header = if other == header then None else Some (HeaderInUse other)

abbrev pub in_use_refusal : List Monitor → ConnId → ℕ → ℕ → Option Refusal
in_use_refusal monitors by index header = other_refusal (monitored_at monitors by index) header
