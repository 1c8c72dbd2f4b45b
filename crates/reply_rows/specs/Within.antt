-- Values that a reply may have: numbers of their type, texts in their form, connectors of the script, facilities CF1
-- to CF4.
use Rattle.std.specs.Prelude.{ℕ, ◌≤◌, Bool, List, length, None, Some}
use Rattle.cf_types.specs.declared.limits.TheConstants.{ADJUNCT_BYTES, BODY_BYTES}
use Rattle.cf_types.specs.declared.names.Name16.{Name16}
use Rattle.cf_types.specs.declared.numbers.EntryId.{EntryId}
use Rattle.cf_types.specs.declared.resources.Resource.{Resource}
use Rattle.cf_types.specs.declared.events.Event.{Event}
use Rattle.cf_types.specs.declared.events.Event.TheVariants as event
use Rattle.cf_types.specs.declared.shell_commands.ShellReply.{ShellReply}
use Rattle.cf_types.specs.declared.shell_commands.ShellReply.TheVariants as shell
use Rattle.cf_types.specs.declared.alter_commands.AlterReply.{AlterReply}
use Rattle.cf_types.specs.declared.alter_commands.AlterReply.TheVariants as alter
use Rattle.cf_types.specs.declared.cache_commands.CacheReply.{CacheReply}
use Rattle.cf_types.specs.declared.cache_commands.CacheReply.TheVariants as cache
use Rattle.cf_types.specs.declared.list_commands.ListReply.{ListReply}
use Rattle.cf_types.specs.declared.list_commands.ListReply.TheVariants as list
use Rattle.cf_types.specs.declared.list_commands.QueueReply.{QueueReply}
use Rattle.cf_types.specs.declared.list_commands.QueueReply.TheVariants as queue
use Rattle.cf_types.specs.declared.lock_commands.LockReply.{LockReply}
use Rattle.cf_types.specs.declared.lock_commands.LockReply.TheVariants as lock
use Rattle.cf_types.specs.Term.{IsTerm, IsPadded}
use Rattle.cf_types.specs.Forms.{IsFacility}
use Rattle.plex_plain.specs.Ranges.{IsOneOf}
use Rattle.line_rows.specs.Rows.{Both, IfGiven, AreCounted}
use Rattle.line_rows.specs.Singles.{IsAName, IsAKey}

abbrev pub IsSmall : ℕ → Type 0
IsSmall n = n ≤ 4294967295

abbrev pub IsAnId : EntryId → Type 0
IsAnId id = id.0 ≤ 18446744073709551615

abbrev pub IsAResource : Resource → Type 0
IsAResource r = IsPadded r.name.0 × (r.hash ≤ 4294967295)

abbrev pub IsAny : Bool → Type 0
IsAny b = Unit {0}

abbrev pub IsHeld : Resource × Bool × List ℕ → Type 0
IsHeld h = IsAResource h.0 × (Unit {0} × IsTerm ADJUNCT_BYTES h.2)

abbrev pub IsLockReply : LockReply → Type 0
IsLockReply lock.Granted = Unit {0}
IsLockReply (lock.Pending place) = IsSmall place × Unit {0}
IsLockReply lock.Ok = Unit {0}
IsLockReply (lock.Records records) = AreCounted IsHeld records

abbrev pub IsCacheReply : List Name16 → CacheReply → Type 0
IsCacheReply connectors (cache.Data body adj changed) =
    IsTerm BODY_BYTES body × (IfGiven (IsTerm ADJUNCT_BYTES) adj × (Unit {0} × Unit {0}))
IsCacheReply connectors cache.NoData = Unit {0}
IsCacheReply connectors cache.Ok = Unit {0}
IsCacheReply connectors (cache.OkCount n) = IsSmall n × Unit {0}
IsCacheReply connectors (cache.Regs regs) = AreCounted (Both IsSmall IsAName) regs
IsCacheReply connectors (cache.CastData body adj) =
    IsTerm BODY_BYTES body × (IfGiven (IsTerm ADJUNCT_BYTES) adj × Unit {0})
IsCacheReply connectors (cache.Unlocked changed) = Unit {0} × Unit {0}
IsCacheReply connectors (cache.Names names) = AreCounted IsAName names
IsCacheReply connectors (cache.Stats counts) = AreCounted (Both IsSmall IsSmall) counts
IsCacheReply connectors (cache.Dir (Some class) stg holder regs) =
    IsSmall class × (IsSmall stg × (IfGiven (IsOneOf (length connectors)) holder × (IsSmall regs × Unit {0})))
IsCacheReply connectors (cache.Dir None stg holder regs) =
    IsSmall stg × (IfGiven (IsOneOf (length connectors)) holder × (IsSmall regs × Unit {0}))
IsCacheReply connectors (cache.Stg rows changed) = IsSmall rows × (IsSmall changed × Unit {0})

abbrev pub IsAlterReply : List Name16 → AlterReply CacheReply → Type 0
IsAlterReply connectors (alter.Inner answer) = IsCacheReply connectors answer
IsAlterReply connectors alter.Ok = Unit {0}
IsAlterReply connectors (alter.Altered caps done) =
    IsSmall caps.entries × (IsSmall caps.elements × (Unit {0} × Unit {0}))

abbrev pub IsListReply : List Name16 → ListReply → Type 0
IsListReply connectors (list.Id id) = IsAnId id × Unit {0}
IsListReply connectors (list.Entry id header version name key body adj) =
    IsAnId id × (IsSmall header × (IsSmall version × (IfGiven IsAName name × (IfGiven IsAKey key
    × (IfGiven (IsTerm BODY_BYTES) body × (IfGiven (IsTerm ADJUNCT_BYTES) adj × Unit {0}))))))
IsListReply connectors list.Ok = Unit {0}
IsListReply connectors (list.Ids ids) = AreCounted IsAnId ids
IsListReply connectors (list.Holder holder) = IfGiven (IsOneOf (length connectors)) holder × Unit {0}
IsListReply connectors (list.Controls count limit) = IsSmall count × (IsSmall limit × Unit {0})
IsListReply connectors list.Empty = Unit {0}
IsListReply connectors list.NotEmpty = Unit {0}
IsListReply connectors (list.OkCount n) = IsSmall n × Unit {0}

abbrev pub IsQueueReply : List Name16 → QueueReply → Type 0
IsQueueReply connectors (queue.List answer) = IsListReply connectors answer
IsQueueReply connectors queue.Empty = Unit {0}
IsQueueReply connectors queue.NotEmpty = Unit {0}
IsQueueReply connectors (queue.Ok n) = IsSmall n × Unit {0}
IsQueueReply connectors (queue.Sublist header key) = IsSmall header × (IsAKey key × Unit {0})

abbrev pub IsEvent : List Name16 → Event → Type 0
IsEvent connectors (event.NewConn conn) = IsOneOf (length connectors) conn × Unit {0}
IsEvent connectors (event.DiscFail conn) = IsOneOf (length connectors) conn × Unit {0}
IsEvent connectors (event.Quiesce number) = IsSmall number × Unit {0}
IsEvent connectors (event.RebuildConnect number) = IsSmall number × Unit {0}
IsEvent connectors (event.ConnectsDone number) = IsSmall number × Unit {0}
IsEvent connectors (event.Cleanup number) = IsSmall number × Unit {0}
IsEvent connectors (event.Complete number) = IsSmall number × Unit {0}
IsEvent connectors (event.Stop number) = IsSmall number × Unit {0}
IsEvent connectors (event.StopDone number) = IsSmall number × Unit {0}
IsEvent connectors (event.LostConn cf) = IsFacility cf × Unit {0}
IsEvent connectors event.StrFail = Unit {0}
IsEvent connectors (event.Contention r conn) = IsAResource r × (IsOneOf (length connectors) conn × Unit {0})
IsEvent connectors (event.Notify r conn) = IsAResource r × (IsOneOf (length connectors) conn × Unit {0})
IsEvent connectors (event.Granted r excl) = IsAResource r × (Unit {0} × Unit {0})
IsEvent connectors (event.Denied r) = IsAResource r × Unit {0}

abbrev pub IsShellReply : List Name16 → ShellReply → Type 0
IsShellReply connectors shell.Ok = Unit {0}
IsShellReply connectors (shell.OkNew cf) = IsFacility cf × Unit {0}
IsShellReply connectors (shell.Reconnected cf) = IsFacility cf × Unit {0}
IsShellReply connectors (shell.Event e) = IsEvent connectors e
IsShellReply connectors (shell.Responded e) = IsEvent connectors e
IsShellReply connectors (shell.OkNumber number) = IsSmall number × Unit {0}
IsShellReply connectors (shell.OkAt cf) = IsFacility cf × Unit {0}
IsShellReply connectors (shell.Copied moved left) = IsSmall moved × (IsSmall left × Unit {0})
IsShellReply connectors shell.OkNone = Unit {0}
IsShellReply connectors (shell.Simplex cf) = IsFacility cf × Unit {0}
IsShellReply connectors (shell.Stopped number) = IsSmall number × Unit {0}
IsShellReply connectors shell.FailedNow = Unit {0}
