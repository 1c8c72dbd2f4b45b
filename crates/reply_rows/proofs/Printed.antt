-- The rows print what the report prints.
use Rattle.std.proofs.Common.{◌≡◌, ◌++◌, ℕ, Bool, true, false, List, [], ◌∷◌, Option, length, map, codes, Some, None, refl, sym, ap, ◌∙◌, append_assoc}
use Rattle.std.specs.Fmt.{decimal}
use Rattle.cf_types.specs.declared.names.Name16.{Name16}
use Rattle.cf_types.specs.declared.names.Key16.{Key16}
use Rattle.cf_types.specs.declared.resources.Resource.{Resource}
use Rattle.cf_types.specs.declared.events.Event.{Event}
use Rattle.cf_types.specs.declared.events.Event.TheVariants as event
use Rattle.cf_types.specs.declared.shell_commands.ShellReply.{ShellReply}
use Rattle.cf_types.specs.declared.shell_commands.ShellReply.TheVariants as shell
use Rattle.cf_types.specs.declared.alter_commands.AlterReply.{AlterReply}
use Rattle.cf_types.specs.declared.alter_commands.AlterReply.TheVariants as alter
use Rattle.cf_types.specs.declared.cache_commands.CacheReply.{CacheReply}
use Rattle.cf_types.specs.declared.cache_commands.CacheReply.TheVariants as cache
use Rattle.cf_types.specs.declared.list_commands.ListReply.{ListReply}
use Rattle.cf_types.specs.declared.list_commands.ListReply.TheVariants as list
use Rattle.cf_types.specs.declared.list_commands.QueueReply.{QueueReply}
use Rattle.cf_types.specs.declared.list_commands.QueueReply.TheVariants as queue
use Rattle.cf_types.specs.declared.lock_commands.LockReply.{LockReply}
use Rattle.cf_types.specs.declared.lock_commands.LockReply.TheVariants as lock
use Rattle.plex_script.specs.declared.scripts.Script.{Script}
use Rattle.plex_report.specs.Lines as lines
use Rattle.plex_report.specs.ReplyWords as report
use Rattle.plex_report.specs.RefusalWords as refusals
use Rattle.cf_types.specs.declared.refusals.Refusal.{Refusal}
use Rattle.cf_types.specs.declared.refusals.Refusal.TheVariants.{NotRegistered, IndexInUse, BadIndex, IsChanged, NotChanged, CastoutHeld, NotHeld, NoEntry, DirectoryFull, NoElements, BadClass, BeyondUnits, NoAlter, NoRecordThere, NameTaken, BadHeader, ListFull, EntriesFull, NoListElements, LockHeld, LockNotHeldBy, WrongReference, HeaderInUse, BadLock, VersionDiffers, NoQueued, AlreadyInterested, NotInterested, RecordsFull, NotManager, NoWaiter, NoRecord, StillPending, NotConnected, NameActive, TooManyConns, NotFailed, HasConnections, NoSpace, NothingOwed, RebuildInProgress, NoRebuild, WrongStage, ItemsLeft, TooSmall, Quiesced, LostConn, LostFacility, StructureFailed, NoFacility, AlreadyDuplexed, NoEvent, NotAllocated}
use Rattle.reply_rows.specs.Refusals.{refusal_row}
use Rattle.reply_rows.specs.Parts.{a_resource}
use Rattle.reply_rows.specs.Contents.{a_held, cache_words, alter_words, list_words, queue_words, lock_words}
use Rattle.reply_rows.specs.Shells.{event_words, shell_words}

map-same : {X Y : Type 0} (f g : X → Y) → ((x : X) → f x ≡ g x) → (xs : List X) → map f xs ≡ map g xs
map-same f g same [] = refl
map-same f g same (x ∷ xs) = let first = same x in let rest = map-same f g same xs in cc

regroup : (r s rec : List ℕ)
    → (((r ++ codes ":") ++ s) ++ codes ":") ++ rec ≡ (r ++ codes ":") ++ ((s ++ codes ":") ++ rec)
regroup r s rec = ap (λ (t : List ℕ). t ++ rec) (append_assoc (r ++ codes ":") s (codes ":"))
    ∙ append_assoc (r ++ codes ":") (s ++ codes ":") rec

held-same : (h : Resource × Bool × List ℕ) → a_held.word h ≡ report.held_word h
held-same (r, true, rec) = sym (regroup (a_resource.word r) (codes "EXCL") rec)
held-same (r, false, rec) = sym (regroup (a_resource.word r) (codes "SHR") rec)

pub lock-same : (script : Script) (r : LockReply) → lock_words r ≡ report.lock_reply_words script r
lock-same script lock.Granted = refl
lock-same script (lock.Pending place) = refl
lock-same script lock.Ok = refl
lock-same script (lock.Records records) = ap (λ (ws : List (List ℕ)). codes "RECORDS" ∷ decimal (length records) ∷ ws)
    (map-same a_held.word report.held_word held-same records)

pub cache-same : (script : Script) (r : CacheReply)
    → cache_words script.connectors r ≡ report.cache_reply_words script r
cache-same script (cache.Data body (Some adj) true) = refl
cache-same script (cache.Data body (Some adj) false) = refl
cache-same script (cache.Data body None true) = refl
cache-same script (cache.Data body None false) = refl
cache-same script cache.NoData = refl
cache-same script cache.Ok = refl
cache-same script (cache.OkCount n) = refl
cache-same script (cache.Regs regs) = refl
cache-same script (cache.CastData body (Some adj)) = refl
cache-same script (cache.CastData body None) = refl
cache-same script (cache.Unlocked true) = refl
cache-same script (cache.Unlocked false) = refl
cache-same script (cache.Names names) = refl
cache-same script (cache.Stats counts) = refl
cache-same script (cache.Dir (Some class) stg (Some holder) regs) = refl
cache-same script (cache.Dir (Some class) stg None regs) = refl
cache-same script (cache.Dir None stg (Some holder) regs) = refl
cache-same script (cache.Dir None stg None regs) = refl
cache-same script (cache.Stg rows changed) = refl

pub alter-same : (script : Script) (r : AlterReply CacheReply)
    → alter_words script.connectors r ≡ report.alter_reply_words script r
alter-same script (alter.Inner answer) = cache-same script answer
alter-same script alter.Ok = refl
alter-same script (alter.Altered caps true) = refl
alter-same script (alter.Altered caps false) = refl

pub list-same : (script : Script) (r : ListReply) → list_words script.connectors r ≡ report.list_reply_words script r
list-same script (list.Id id) = refl
list-same script (list.Entry id header version name key body adj) = entry_same name key body adj
  where
    entry_same : (name : Option Name16) (key : Option Key16) (body adj : Option (List ℕ))
        → list_words script.connectors (list.Entry id header version name key body adj) ≡ report.list_reply_words
        script (list.Entry id header version name key body adj)
    entry_same None None None None = refl
    entry_same None None None (Some a) = refl
    entry_same None None (Some b) None = refl
    entry_same None None (Some b) (Some a) = refl
    entry_same None (Some k) None None = refl
    entry_same None (Some k) None (Some a) = refl
    entry_same None (Some k) (Some b) None = refl
    entry_same None (Some k) (Some b) (Some a) = refl
    entry_same (Some n) None None None = refl
    entry_same (Some n) None None (Some a) = refl
    entry_same (Some n) None (Some b) None = refl
    entry_same (Some n) None (Some b) (Some a) = refl
    entry_same (Some n) (Some k) None None = refl
    entry_same (Some n) (Some k) None (Some a) = refl
    entry_same (Some n) (Some k) (Some b) None = refl
    entry_same (Some n) (Some k) (Some b) (Some a) = refl
list-same script list.Ok = refl
list-same script (list.Ids ids) = refl
list-same script (list.Holder None) = refl
list-same script (list.Holder (Some conn)) = refl
list-same script (list.Controls count limit) = refl
list-same script list.Empty = refl
list-same script list.NotEmpty = refl
list-same script (list.OkCount n) = refl

pub queue-same : (script : Script) (r : QueueReply)
    → queue_words script.connectors r ≡ report.queue_reply_words script r
queue-same script (queue.List answer) = list-same script answer
queue-same script queue.Empty = refl
queue-same script queue.NotEmpty = refl
queue-same script (queue.Ok n) = refl
queue-same script (queue.Sublist header key) = refl

pub event-same : (script : Script) (e : Event) → event_words script.connectors e ≡ report.event_words script e
event-same script (event.NewConn conn) = refl
event-same script (event.DiscFail conn) = refl
event-same script (event.Quiesce number) = refl
event-same script (event.RebuildConnect number) = refl
event-same script (event.ConnectsDone number) = refl
event-same script (event.Cleanup number) = refl
event-same script (event.Complete number) = refl
event-same script (event.Stop number) = refl
event-same script (event.StopDone number) = refl
event-same script (event.LostConn cf) = refl
event-same script event.StrFail = refl
event-same script (event.Contention r conn) = refl
event-same script (event.Notify r conn) = refl
event-same script (event.Granted r true) = refl
event-same script (event.Granted r false) = refl
event-same script (event.Denied r) = refl

pub shell-same : (script : Script) (vary : Bool) (r : ShellReply)
    → shell_words script.connectors vary r ≡ lines.ok_words vary r ++ report.shell_reply_words script r
shell-same script true shell.Ok = refl
shell-same script false shell.Ok = refl
shell-same script true (shell.OkNew cf) = refl
shell-same script false (shell.OkNew cf) = refl
shell-same script true (shell.Reconnected cf) = refl
shell-same script false (shell.Reconnected cf) = refl
shell-same script true (shell.Event e) = ap (λ (ws : List (List ℕ)). codes "EVENT" ∷ ws) (event-same script e)
shell-same script false (shell.Event e) = ap (λ (ws : List (List ℕ)). codes "EVENT" ∷ ws) (event-same script e)
shell-same script true (shell.Responded e) = ap (λ (ws : List (List ℕ)). codes "RESPONDED" ∷ ws) (event-same script e)
shell-same script false (shell.Responded e) = ap (λ (ws : List (List ℕ)). codes "RESPONDED" ∷ ws) (event-same script e)
shell-same script true (shell.OkNumber number) = refl
shell-same script false (shell.OkNumber number) = refl
shell-same script true (shell.OkAt cf) = refl
shell-same script false (shell.OkAt cf) = refl
shell-same script true (shell.Copied moved left) = refl
shell-same script false (shell.Copied moved left) = refl
shell-same script true shell.OkNone = refl
shell-same script false shell.OkNone = refl
shell-same script true (shell.Simplex cf) = refl
shell-same script false (shell.Simplex cf) = refl
shell-same script true (shell.Stopped number) = refl
shell-same script false (shell.Stopped number) = refl
shell-same script true shell.FailedNow = refl
shell-same script false shell.FailedNow = refl

pub refusal-same : (script : Script) (r : Refusal)
    → (refusal_row script.connectors).words r ≡ refusals.refusal_words script r
refusal-same script NotRegistered = refl
refusal-same script (IndexInUse name) = refl
refusal-same script (BadIndex index len) = refl
refusal-same script IsChanged = refl
refusal-same script NotChanged = refl
refusal-same script (CastoutHeld by) = refl
refusal-same script NotHeld = refl
refusal-same script NoEntry = refl
refusal-same script (DirectoryFull entries) = refl
refusal-same script (NoElements need free) = refl
refusal-same script (BadClass class) = refl
refusal-same script (BeyondUnits asked units) = refl
refusal-same script NoAlter = refl
refusal-same script NoRecordThere = refl
refusal-same script (NameTaken id) = refl
refusal-same script (BadHeader header headers) = refl
refusal-same script (ListFull limit) = refl
refusal-same script (EntriesFull entries) = refl
refusal-same script (NoListElements need free) = refl
refusal-same script (LockHeld by) = refl
refusal-same script (LockNotHeldBy None) = refl
refusal-same script (LockNotHeldBy (Some conn)) = refl
refusal-same script (WrongReference refs) = refl
refusal-same script (HeaderInUse header) = refl
refusal-same script (BadLock lock locks) = refl
refusal-same script (VersionDiffers found) = refl
refusal-same script NoQueued = refl
refusal-same script (AlreadyInterested true) = refl
refusal-same script (AlreadyInterested false) = refl
refusal-same script NotInterested = refl
refusal-same script (RecordsFull limit) = refl
refusal-same script (NotManager None) = refl
refusal-same script (NotManager (Some conn)) = refl
refusal-same script NoWaiter = refl
refusal-same script NoRecord = refl
refusal-same script StillPending = refl
refusal-same script NotConnected = refl
refusal-same script (NameActive state) = refl
refusal-same script (TooManyConns limit) = refl
refusal-same script (NotFailed state) = refl
refusal-same script (HasConnections n) = refl
refusal-same script (NoSpace asked free) = refl
refusal-same script NothingOwed = refl
refusal-same script (RebuildInProgress number) = refl
refusal-same script NoRebuild = refl
refusal-same script (WrongStage stage) = refl
refusal-same script (ItemsLeft left) = refl
refusal-same script (TooSmall need have) = refl
refusal-same script (Quiesced number) = refl
refusal-same script (LostConn cf) = refl
refusal-same script (LostFacility cf) = refl
refusal-same script StructureFailed = refl
refusal-same script NoFacility = refl
refusal-same script AlreadyDuplexed = refl
refusal-same script NoEvent = refl
refusal-same script NotAllocated = refl
