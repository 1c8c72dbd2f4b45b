-- The words of events and replies.
use Rattle.std.specs.Prelude.{ℕ, Bool, true, false, List, [], ◌∷◌, ◌++◌, length, map, Option, None, Some, codes}
use Rattle.std.specs.Fmt.{decimal}
use Rattle.plex_script.specs.CfTypes.declared.names.Name16.{Name16}
use Rattle.plex_script.specs.CfTypes.declared.resources.Resource.{Resource}
use Rattle.plex_script.specs.CfTypes.declared.events.Event.{Event}
use Rattle.plex_script.specs.CfTypes.declared.events.Event.TheVariants as event
use Rattle.plex_script.specs.CfTypes.declared.shell_commands.ShellReply.{ShellReply}
use Rattle.plex_script.specs.CfTypes.declared.shell_commands.ShellReply.TheVariants as shell
use Rattle.plex_script.specs.CfTypes.declared.alter_commands.AlterReply.{AlterReply}
use Rattle.plex_script.specs.CfTypes.declared.alter_commands.AlterReply.TheVariants as alter
use Rattle.plex_script.specs.CfTypes.declared.cache_commands.CacheReply.{CacheReply}
use Rattle.plex_script.specs.CfTypes.declared.cache_commands.CacheReply.TheVariants as cache
use Rattle.plex_script.specs.CfTypes.declared.list_commands.ListReply.{ListReply}
use Rattle.plex_script.specs.CfTypes.declared.list_commands.ListReply.TheVariants as list
use Rattle.plex_script.specs.CfTypes.declared.list_commands.QueueReply.{QueueReply}
use Rattle.plex_script.specs.CfTypes.declared.list_commands.QueueReply.TheVariants as queue
use Rattle.plex_script.specs.CfTypes.declared.lock_commands.LockReply.{LockReply}
use Rattle.plex_script.specs.CfTypes.declared.lock_commands.LockReply.TheVariants as lock
use Rattle.plex_script.specs.PlexSpell.Tokens.{name_word}
use Rattle.plex_script.specs.declared.scripts.Script.{Script}
use Rattle.plex_script.specs.PlexPlain.Naming.{facility_word, record_word, resource_word}
use Rattle.plex_script.specs.PlexPlain.PlainWords.{told_words, text_words, name_words, key_words, state_word}
use Rattle.plex_report.specs.Naming.{caller_word}
use Rattle.plex_report.specs.RefusalWords.{holder_word}

-- ---- events, and replies to common commands

abbrev pub event_words : Script → Event → List (List ℕ)
event_words script (event.NewConn conn) = codes "NEWCONN" ∷ caller_word script conn ∷ []
event_words script (event.DiscFail conn) = codes "DISCFAIL" ∷ caller_word script conn ∷ []
event_words script (event.Quiesce number) = codes "QUIESCE" ∷ decimal number ∷ []
event_words script (event.RebuildConnect number) = codes "REBUILDCONNECT" ∷ decimal number ∷ []
event_words script (event.ConnectsDone number) = codes "CONNECTSDONE" ∷ decimal number ∷ []
event_words script (event.Cleanup number) = codes "CLEANUP" ∷ decimal number ∷ []
event_words script (event.Complete number) = codes "COMPLETE" ∷ decimal number ∷ []
event_words script (event.Stop number) = codes "STOP" ∷ decimal number ∷ []
event_words script (event.StopDone number) = codes "STOPDONE" ∷ decimal number ∷ []
event_words script (event.LostConn cf) = codes "LOSTCONN" ∷ facility_word cf ∷ []
event_words script event.StrFail = codes "STRFAIL" ∷ []
event_words script (event.Contention r conn) = codes "CONTENTION" ∷ resource_word r ∷ caller_word script conn ∷ []
event_words script (event.Notify r conn) = codes "NOTIFY" ∷ resource_word r ∷ caller_word script conn ∷ []
event_words script (event.Granted r excl) = codes "GRANTED" ∷ resource_word r ∷ state_word excl ∷ []
event_words script (event.Denied r) = codes "DENIED" ∷ resource_word r ∷ []

abbrev pub shell_reply_words : Script → ShellReply → List (List ℕ)
shell_reply_words script shell.Ok = codes "OK" ∷ []
shell_reply_words script (shell.OkNew cf) = codes "OK" ∷ codes "NEW" ∷ facility_word cf ∷ []
shell_reply_words script (shell.Reconnected cf) = codes "OK" ∷ codes "RECONNECTED" ∷ facility_word cf ∷ []
shell_reply_words script (shell.Event event) = codes "EVENT" ∷ event_words script event
shell_reply_words script (shell.Responded event) = codes "RESPONDED" ∷ event_words script event
shell_reply_words script (shell.OkNumber number) = codes "OK" ∷ decimal number ∷ []
shell_reply_words script (shell.OkAt cf) = codes "OK" ∷ facility_word cf ∷ []
shell_reply_words script (shell.Copied moved left) = codes "COPIED" ∷ decimal moved ∷ decimal left ∷ []
shell_reply_words script shell.OkNone = codes "OK" ∷ codes "NONE" ∷ []
shell_reply_words script (shell.Simplex cf) = codes "SIMPLEX" ∷ facility_word cf ∷ []
shell_reply_words script (shell.Stopped number) = codes "STOPPED" ∷ decimal number ∷ []
shell_reply_words script shell.FailedNow = codes "FAILED" ∷ []

-- ---- parts of replies

abbrev pub adjunct_words : Option (List ℕ) → List (List ℕ)
adjunct_words adj = told_words (codes "ADJ") text_words adj

abbrev pub changed_word : Bool → List ℕ
changed_word true = codes "CHANGED"
changed_word false = codes "UNCHANGED"

-- items of a reply, behind their number
abbrev pub counted_words : {X : Type 0} → List ℕ → (X → List ℕ) → List X → List (List ℕ)
counted_words word value xs = word ∷ decimal (length xs) ∷ map value xs

-- ---- replies of a cache structure

abbrev pub index_word : ℕ × Name16 → List ℕ
index_word pair = decimal pair.0 ++ codes ":" ++ name_word pair.1

abbrev pub count_word : ℕ × ℕ → List ℕ
count_word pair = decimal pair.0 ++ codes ":" ++ decimal pair.1

abbrev pub class_words : Option ℕ → List (List ℕ)
class_words None = codes "UNCHANGED" ∷ codes "NONE" ∷ []
class_words (Some class) = codes "CHANGED" ∷ decimal class ∷ []

abbrev pub cache_reply_words : Script → CacheReply → List (List ℕ)
cache_reply_words script (cache.Data body adj changed) =
    codes "DATA" ∷ body ∷ adjunct_words adj ++ changed_word changed ∷ []
cache_reply_words script cache.NoData = codes "NODATA" ∷ []
cache_reply_words script cache.Ok = codes "OK" ∷ []
cache_reply_words script (cache.OkCount n) = codes "OK" ∷ decimal n ∷ []
cache_reply_words script (cache.Regs regs) = counted_words (codes "REGS") index_word regs
cache_reply_words script (cache.CastData body adj) = codes "DATA" ∷ body ∷ adjunct_words adj
cache_reply_words script (cache.Unlocked changed) = codes "OK" ∷ changed_word changed ∷ []
cache_reply_words script (cache.Names names) = counted_words (codes "NAMES") name_word names
cache_reply_words script (cache.Stats counts) = counted_words (codes "STATS") count_word counts
cache_reply_words script (cache.Dir class stg holder regs) =
    codes "DIR" ∷ class_words class
    ++ codes "STG" ∷ decimal stg ∷ codes "LOCK" ∷ holder_word script holder ∷ codes "REGS" ∷ decimal regs ∷ []
cache_reply_words script (cache.Stg rows changed) = codes "STG" ∷ decimal rows ∷ decimal changed ∷ []

-- whether a capacity that is altered has reached its target
abbrev pub done_word : Bool → List ℕ
done_word true = codes "DONE"
done_word false = codes "MORE"

-- of the cache, or of an alteration of its capacity
abbrev pub alter_reply_words : Script → AlterReply CacheReply → List (List ℕ)
alter_reply_words script (alter.Inner answer) = cache_reply_words script answer
alter_reply_words script alter.Ok = codes "OK" ∷ []
alter_reply_words script (alter.Altered caps done) =
    codes "ALTERED" ∷ decimal caps.entries ∷ decimal caps.elements ∷ done_word done ∷ []

-- ---- replies of a list structure

abbrev pub list_reply_words : Script → ListReply → List (List ℕ)
list_reply_words script (list.Id id) = codes "ID" ∷ record_word id ∷ []
list_reply_words script (list.Entry id header version name key body adj) =
    codes "ENTRY" ∷ record_word id ∷ decimal header ∷ codes "VERSION" ∷ decimal version
    ∷ told_words (codes "NAME") name_words name ++ told_words (codes "KEY") key_words key
    ++ told_words (codes "DATA") text_words body ++ adjunct_words adj
list_reply_words script list.Ok = codes "OK" ∷ []
list_reply_words script (list.Ids ids) = counted_words (codes "IDS") record_word ids
list_reply_words script (list.Holder holder) = codes "HOLDER" ∷ holder_word script holder ∷ []
list_reply_words script (list.Controls count limit) = codes "CONTROLS" ∷ decimal count ∷ decimal limit ∷ []
list_reply_words script list.Empty = codes "EMPTY" ∷ []
list_reply_words script list.NotEmpty = codes "NOTEMPTY" ∷ []
list_reply_words script (list.OkCount n) = codes "OK" ∷ decimal n ∷ []

-- of the lists, or of event queues
abbrev pub queue_reply_words : Script → QueueReply → List (List ℕ)
queue_reply_words script (queue.List answer) = list_reply_words script answer
queue_reply_words script queue.Empty = codes "EMPTY" ∷ []
queue_reply_words script queue.NotEmpty = codes "NOTEMPTY" ∷ []
queue_reply_words script (queue.Ok n) = codes "OK" ∷ decimal n ∷ []
queue_reply_words script (queue.Sublist header key) = codes "SUBLIST" ∷ decimal header ∷ key_words key

-- ---- replies of a lock structure

abbrev pub held_word : Resource × Bool × List ℕ → List ℕ
held_word held = resource_word held.0 ++ codes ":" ++ state_word held.1 ++ codes ":" ++ held.2

abbrev pub lock_reply_words : Script → LockReply → List (List ℕ)
lock_reply_words script lock.Granted = codes "GRANTED" ∷ []
lock_reply_words script (lock.Pending place) = codes "PENDING" ∷ decimal place ∷ []
lock_reply_words script lock.Ok = codes "OK" ∷ []
lock_reply_words script (lock.Records records) = counted_words (codes "RECORDS") held_word records
