-- Replies of cache, list and lock structures, and of what stands around them: how each is taken apart, and what is
-- made of a row.
use Rattle.std.specs.Prelude.{ℕ, Bool, List, [], ◌∷◌, Option, None, Some, codes}
use Rattle.cf_types.specs.declared.limits.TheConstants.{ADJUNCT_BYTES, BODY_BYTES}
use Rattle.cf_types.specs.declared.names.Name16.{Name16}
use Rattle.cf_types.specs.declared.names.Key16.{Key16}
use Rattle.cf_types.specs.declared.numbers.ConnId.{ConnId}
use Rattle.cf_types.specs.declared.numbers.EntryId.{EntryId}
use Rattle.cf_types.specs.declared.resources.Resource.{Resource}
use Rattle.cf_types.specs.declared.forms.Caps.{Caps}
use Rattle.cf_types.specs.declared.alter_commands.AlterReply.{AlterReply}
use Rattle.cf_types.specs.declared.alter_commands.AlterReply.TheVariants as alter
use Rattle.cf_types.specs.declared.cache_commands.CacheReply.{CacheReply}
use Rattle.cf_types.specs.declared.cache_commands.CacheReply.TheVariants as cache
use Rattle.cf_types.specs.declared.list_commands.ListReply.{ListReply}
use Rattle.cf_types.specs.declared.list_commands.ListReply.TheVariants as list
use Rattle.cf_types.specs.declared.list_commands.QueueReply.{QueueReply}
use Rattle.cf_types.specs.declared.list_commands.QueueReply.TheVariants as queue
use Rattle.cf_types.specs.declared.lock_commands.LockReply.{LockReply}
use Rattle.cf_types.specs.declared.lock_commands.LockReply.TheVariants as lock
use Rattle.line_rows.specs.Rows.{Single, Row, done, led, and_then, optional, counted, form, first_of}
use Rattle.line_rows.specs.Singles.{text, a_name, a_key, joined, as_one}
use Rattle.reply_rows.specs.declared.sides.Side.{Side}
use Rattle.reply_rows.specs.declared.sides.Side.TheVariants.{Content, Around}
use Rattle.reply_rows.specs.Answers.{Answers, alone}
use Rattle.reply_rows.specs.Parts.{small, an_id, a_resource, a_state, a_change, a_progress, a_holder, plain, with_one, with_two}

-- ---- locks

abbrev pub a_held : Single (Resource × Bool × List ℕ)
a_held = as_one (λ (h : Resource × Bool × List ℕ). (h.0, (h.1, h.2)))
    (λ (p : Resource × (Bool × List ℕ)). (let h : Resource × Bool × List ℕ = (p.0, p.1.0, p.1.1) in h))
    (joined 58 a_resource (joined 58 a_state (text ADJUNCT_BYTES)))

abbrev pub records_row : Row (List (Resource × Bool × List ℕ))
records_row = led (codes "RECORDS") (counted a_held)

abbrev pub lock_words : LockReply → List (List ℕ)
lock_words lock.Granted = (plain (codes "GRANTED")).words tt
lock_words (lock.Pending place) = (with_one (codes "PENDING") small).words (place, tt)
lock_words lock.Ok = (plain (codes "OK")).words tt
lock_words (lock.Records records) = records_row.words records

abbrev pub lock_forms : List (List (List ℕ) → Option LockReply)
lock_forms =
    form (plain (codes "GRANTED")) (λ v. lock.Granted)
    ∷ form (with_one (codes "PENDING") small) (λ v. lock.Pending v.0)
    ∷ form (plain (codes "OK")) (λ v. lock.Ok)
    ∷ form records_row (λ v. lock.Records v)
    ∷ []

abbrev pub lock_row : Row LockReply
lock_row = record { words = lock_words; values = first_of lock_forms }

abbrev pub lock_answers : List Name16 → Answers LockReply
lock_answers connectors = alone lock_row

-- ---- caches

abbrev pub an_index : Single (ℕ × Name16)
an_index = joined 58 small a_name

abbrev pub a_count : Single (ℕ × ℕ)
a_count = joined 58 small small

abbrev pub data_behind : Row (Option (List ℕ) × (Bool × Unit {0}))
data_behind = optional (codes "ADJ") (text ADJUNCT_BYTES) (and_then a_change done)

abbrev pub data_row : Row (List ℕ × (Option (List ℕ) × (Bool × Unit {0})))
data_row = led (codes "DATA") (and_then (text BODY_BYTES) data_behind)

abbrev pub cast_behind : Row (Option (List ℕ) × Unit {0})
cast_behind = optional (codes "ADJ") (text ADJUNCT_BYTES) done

abbrev pub cast_row : Row (List ℕ × (Option (List ℕ) × Unit {0}))
cast_row = led (codes "DATA") (and_then (text BODY_BYTES) cast_behind)

-- behind the castout class
abbrev pub dir_end : List Name16 → Row (ℕ × (Option ConnId × (ℕ × Unit {0})))
dir_end connectors =
    led (codes "STG") (and_then small (led (codes "LOCK") (and_then (a_holder connectors)
    (led (codes "REGS") (and_then small done)))))

abbrev pub dir_changed : List Name16 → Row (ℕ × (ℕ × (Option ConnId × (ℕ × Unit {0}))))
dir_changed connectors = led (codes "DIR") (led (codes "CHANGED") (and_then small (dir_end connectors)))

abbrev pub dir_unchanged : List Name16 → Row (ℕ × (Option ConnId × (ℕ × Unit {0})))
dir_unchanged connectors = led (codes "DIR") (led (codes "UNCHANGED") (led (codes "NONE") (dir_end connectors)))

abbrev pub cache_words : List Name16 → CacheReply → List (List ℕ)
cache_words connectors (cache.Data body adj changed) = data_row.words (body, (adj, (changed, tt)))
cache_words connectors cache.NoData = (plain (codes "NODATA")).words tt
cache_words connectors cache.Ok = (plain (codes "OK")).words tt
cache_words connectors (cache.OkCount n) = (with_one (codes "OK") small).words (n, tt)
cache_words connectors (cache.Regs regs) = (led (codes "REGS") (counted an_index)).words regs
cache_words connectors (cache.CastData body adj) = cast_row.words (body, (adj, tt))
cache_words connectors (cache.Unlocked changed) = (with_one (codes "OK") a_change).words (changed, tt)
cache_words connectors (cache.Names names) = (led (codes "NAMES") (counted a_name)).words names
cache_words connectors (cache.Stats counts) = (led (codes "STATS") (counted a_count)).words counts
cache_words connectors (cache.Dir (Some class) stg holder regs) =
    (dir_changed connectors).words (class, (stg, (holder, (regs, tt))))
cache_words connectors (cache.Dir None stg holder regs) =
    (dir_unchanged connectors).words (stg, (holder, (regs, tt)))
cache_words connectors (cache.Stg rows changed) = (with_two (codes "STG") small small).words (rows, (changed, tt))

abbrev pub cache_forms : List Name16 → List (List (List ℕ) → Option CacheReply)
cache_forms connectors =
    form data_row (λ v. cache.Data v.0 v.1.0 v.1.1.0)
    ∷ form (plain (codes "NODATA")) (λ v. cache.NoData)
    ∷ form (plain (codes "OK")) (λ v. cache.Ok)
    ∷ form (with_one (codes "OK") small) (λ v. cache.OkCount v.0)
    ∷ form (led (codes "REGS") (counted an_index)) (λ v. cache.Regs v)
    ∷ form cast_row (λ v. cache.CastData v.0 v.1.0)
    ∷ form (with_one (codes "OK") a_change) (λ v. cache.Unlocked v.0)
    ∷ form (led (codes "NAMES") (counted a_name)) (λ v. cache.Names v)
    ∷ form (led (codes "STATS") (counted a_count)) (λ v. cache.Stats v)
    ∷ form (dir_changed connectors) (λ v. cache.Dir (Some v.0) v.1.0 v.1.1.0 v.1.1.1.0)
    ∷ form (dir_unchanged connectors) (λ v. cache.Dir None v.0 v.1.0 v.1.1.0)
    ∷ form (with_two (codes "STG") small small) (λ v. cache.Stg v.0 v.1.0)
    ∷ []

abbrev pub cache_row : List Name16 → Row CacheReply
cache_row connectors = record { words = cache_words connectors; values = first_of (cache_forms connectors) }

-- ---- caches, and their capacity

abbrev pub altered_row : Row (ℕ × (ℕ × (Bool × Unit {0})))
altered_row = led (codes "ALTERED") (and_then small (and_then small (and_then a_progress done)))

abbrev pub altered : ℕ × (ℕ × (Bool × Unit {0})) → AlterReply CacheReply
altered v = (let caps : Caps = record { entries = v.0; elements = v.1.0 } in alter.Altered caps v.1.1.0)

abbrev pub alter_words : List Name16 → AlterReply CacheReply → List (List ℕ)
alter_words connectors (alter.Inner answer) = (cache_row connectors).words answer
alter_words connectors alter.Ok = (plain (codes "OK")).words tt
alter_words connectors (alter.Altered caps reached) = altered_row.words (caps.entries, (caps.elements, (reached, tt)))

abbrev pub alter_forms : List (List (List ℕ) → Option (AlterReply CacheReply))
alter_forms = form (plain (codes "OK")) (λ v. alter.Ok) ∷ form altered_row altered ∷ []

abbrev pub alter_side : AlterReply CacheReply → Side
alter_side (alter.Inner answer) = Content
alter_side alter.Ok = Around
alter_side (alter.Altered caps reached) = Around

abbrev pub alter_answers : List Name16 → Answers (AlterReply CacheReply)
alter_answers connectors = record {
  words = alter_words connectors;
  content = form (cache_row connectors) (λ v. alter.Inner v);
  around = first_of alter_forms;
  side = alter_side;
}

-- ---- lists

abbrev pub content_end : Row (Option (List ℕ) × (Option (List ℕ) × Unit {0}))
content_end = optional (codes "DATA") (text BODY_BYTES) cast_behind

abbrev pub key_end : Row (Option Key16 × (Option (List ℕ) × (Option (List ℕ) × Unit {0})))
key_end = optional (codes "KEY") a_key content_end

abbrev pub entry_end : Row (Option Name16 × (Option Key16 × (Option (List ℕ) × (Option (List ℕ) × Unit {0}))))
entry_end = optional (codes "NAME") a_name key_end

abbrev pub entry_row : Row (EntryId × (ℕ × (ℕ × (Option Name16 × (Option Key16 × (Option (List ℕ)
    × (Option (List ℕ) × Unit {0})))))))
entry_row = led (codes "ENTRY") (and_then an_id (and_then small (led (codes "VERSION") (and_then small entry_end))))

abbrev pub list_words : List Name16 → ListReply → List (List ℕ)
list_words connectors (list.Id id) = (with_one (codes "ID") an_id).words (id, tt)
list_words connectors (list.Entry id header version name key body adj) =
    entry_row.words (id, (header, (version, (name, (key, (body, (adj, tt)))))))
list_words connectors list.Ok = (plain (codes "OK")).words tt
list_words connectors (list.Ids ids) = (led (codes "IDS") (counted an_id)).words ids
list_words connectors (list.Holder holder) = (with_one (codes "HOLDER") (a_holder connectors)).words (holder, tt)
list_words connectors (list.Controls count limit) = (with_two (codes "CONTROLS") small small).words (count, (limit, tt))
list_words connectors list.Empty = (plain (codes "EMPTY")).words tt
list_words connectors list.NotEmpty = (plain (codes "NOTEMPTY")).words tt
list_words connectors (list.OkCount n) = (with_one (codes "OK") small).words (n, tt)

abbrev pub list_forms : List Name16 → List (List (List ℕ) → Option ListReply)
list_forms connectors =
    form (with_one (codes "ID") an_id) (λ v. list.Id v.0)
    ∷ form entry_row (λ v. list.Entry v.0 v.1.0 v.1.1.0 v.1.1.1.0 v.1.1.1.1.0 v.1.1.1.1.1.0 v.1.1.1.1.1.1.0)
    ∷ form (plain (codes "OK")) (λ v. list.Ok)
    ∷ form (led (codes "IDS") (counted an_id)) (λ v. list.Ids v)
    ∷ form (with_one (codes "HOLDER") (a_holder connectors)) (λ v. list.Holder v.0)
    ∷ form (with_two (codes "CONTROLS") small small) (λ v. list.Controls v.0 v.1.0)
    ∷ form (plain (codes "EMPTY")) (λ v. list.Empty)
    ∷ form (plain (codes "NOTEMPTY")) (λ v. list.NotEmpty)
    ∷ form (with_one (codes "OK") small) (λ v. list.OkCount v.0)
    ∷ []

abbrev pub list_row : List Name16 → Row ListReply
list_row connectors = record { words = list_words connectors; values = first_of (list_forms connectors) }

-- ---- lists, and event queues

abbrev pub queue_words : List Name16 → QueueReply → List (List ℕ)
queue_words connectors (queue.List answer) = (list_row connectors).words answer
queue_words connectors queue.Empty = (plain (codes "EMPTY")).words tt
queue_words connectors queue.NotEmpty = (plain (codes "NOTEMPTY")).words tt
queue_words connectors (queue.Ok n) = (with_one (codes "OK") small).words (n, tt)
queue_words connectors (queue.Sublist header key) = (with_two (codes "SUBLIST") small a_key).words (header, (key, tt))

abbrev pub queue_forms : List (List (List ℕ) → Option QueueReply)
queue_forms =
    form (plain (codes "EMPTY")) (λ v. queue.Empty)
    ∷ form (plain (codes "NOTEMPTY")) (λ v. queue.NotEmpty)
    ∷ form (with_one (codes "OK") small) (λ v. queue.Ok v.0)
    ∷ form (with_two (codes "SUBLIST") small a_key) (λ v. queue.Sublist v.0 v.1.0)
    ∷ []

abbrev pub queue_side : QueueReply → Side
queue_side (queue.List answer) = Content
queue_side queue.Empty = Around
queue_side queue.NotEmpty = Around
queue_side (queue.Ok n) = Around
queue_side (queue.Sublist header key) = Around

abbrev pub queue_answers : List Name16 → Answers QueueReply
queue_answers connectors = record {
  words = queue_words connectors;
  content = form (list_row connectors) (λ v. queue.List v);
  around = first_of queue_forms;
  side = queue_side;
}
