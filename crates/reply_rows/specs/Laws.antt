-- What is proved of the rows.
use Rattle.std.specs.Prelude.{◌≡◌, ◌++◌, Bool, List}
use Rattle.cf_types.specs.declared.names.Name16.{Name16}
use Rattle.cf_types.specs.declared.refusals.Refusal.{Refusal}
use Rattle.cf_types.specs.declared.shell_commands.ShellReply.{ShellReply}
use Rattle.cf_types.specs.declared.alter_commands.AlterReply.{AlterReply}
use Rattle.cf_types.specs.declared.cache_commands.CacheReply.{CacheReply}
use Rattle.cf_types.specs.declared.list_commands.ListReply.{ListReply}
use Rattle.cf_types.specs.declared.list_commands.QueueReply.{QueueReply}
use Rattle.cf_types.specs.declared.lock_commands.LockReply.{LockReply}
use Rattle.plex_plain.specs.Ranges.{AreNames}
use Rattle.plex_script.specs.declared.scripts.Script.{Script}
use Rattle.plex_report.specs.Lines as lines
use Rattle.plex_report.specs.ReplyWords as report
use Rattle.plex_report.specs.RefusalWords as refusals
use Rattle.line_rows.specs.Rows.{first_of}
use Rattle.reply_rows.specs.declared.sides.Side.{Side}
use Rattle.reply_rows.specs.Contents.{cache_row, list_row, lock_row, alter_words, alter_forms, alter_answers, queue_words, queue_forms, queue_answers, lock_answers}
use Rattle.reply_rows.specs.Shells.{shell_row}
use Rattle.reply_rows.specs.Refusals.{refusal_row}
use Rattle.reply_rows.specs.Within.{IsCacheReply, IsAlterReply, IsListReply, IsQueueReply, IsLockReply}
use Rattle.reply_rows.specs.Replies.{IsRead, alike_alter, alike_queue, alike_lock, outer_cache, outer_list, inner_alter, inner_queue}

abbrev pub AreReadBack : Type 0
AreReadBack =
    (connectors : List Name16) (vary : Bool) (side : Side) → AreNames connectors
    → IsRead connectors (alter_answers connectors) (IsAlterReply connectors) vary side
    × IsRead connectors (queue_answers connectors) (IsQueueReply connectors) vary side
    × IsRead connectors (lock_answers connectors) IsLockReply vary side

-- what is read of a reply's words on the sides that aren't its own
abbrev pub PrintAlike : Type 0
PrintAlike =
    (connectors : List Name16) (vary : Bool)
    → ((r : AlterReply CacheReply) → IsAlterReply connectors r
    → ((shell_row connectors vary).values (alter_words connectors r) ≡ alike_alter r)
    × (AreNames connectors → (cache_row connectors).values (alter_words connectors r) ≡ inner_alter r))
    × ((r : CacheReply) → IsCacheReply connectors r
    → first_of alter_forms ((cache_row connectors).words r) ≡ outer_cache r)
    × ((r : QueueReply) → IsQueueReply connectors r
    → ((shell_row connectors vary).values (queue_words connectors r) ≡ alike_queue r)
    × (AreNames connectors → (list_row connectors).values (queue_words connectors r) ≡ inner_queue r))
    × ((r : ListReply) → IsListReply connectors r
    → first_of queue_forms ((list_row connectors).words r) ≡ outer_list r)
    × ((r : LockReply) → (shell_row connectors vary).values (lock_row.words r) ≡ alike_lock r)

abbrev pub PrintReports : Type 0
PrintReports =
    (script : Script) (vary : Bool)
    → ((r : AlterReply CacheReply) → alter_words script.connectors r ≡ report.alter_reply_words script r)
    × ((r : QueueReply) → queue_words script.connectors r ≡ report.queue_reply_words script r)
    × ((r : LockReply) → lock_row.words r ≡ report.lock_reply_words script r)
    × ((r : ShellReply) → (shell_row script.connectors vary).words r
    ≡ lines.ok_words vary r ++ report.shell_reply_words script r)
    × ((r : Refusal) → (refusal_row script.connectors).words r ≡ refusals.refusal_words script r)
