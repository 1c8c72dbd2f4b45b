-- Which replies a command's row names.
use Rattle.cf_types.specs.declared.alter_commands.AlterCmd.{AlterCmd}
use Rattle.cf_types.specs.declared.alter_commands.AlterCmd.TheVariants as alter
use Rattle.cf_types.specs.declared.cache_commands.CacheCmd.{CacheCmd}
use Rattle.cf_types.specs.declared.list_commands.QueueCmd.{QueueCmd}
use Rattle.cf_types.specs.declared.list_commands.QueueCmd.TheVariants as queue
use Rattle.engine_api.specs.declared.asks.Ask.TheVariants as ask
use Rattle.plex_script.specs.declared.scripts.AnyAsk.{AnyAsk}
use Rattle.plex_script.specs.declared.scripts.AnyAsk.TheVariants as any
use Rattle.reply_rows.specs.declared.sides.Side.{Side}
use Rattle.reply_rows.specs.declared.sides.Side.TheVariants.{Common, Content, Around}

-- the cache's own commands, and those that alter its capacity
abbrev pub cache_side : AlterCmd CacheCmd → Side
cache_side (alter.Inner cmd) = Content
cache_side (alter.Start caps) = Around
cache_side (alter.Step n) = Around
cache_side alter.Stop = Around

-- commands on records, and those on event queues
abbrev pub list_side : QueueCmd → Side
list_side (queue.List cmd) = Content
list_side (queue.MonSub header key) = Around
list_side (queue.UnmonSub header key) = Around
list_side queue.Deq = Around

abbrev pub asked_side : AnyAsk → Side
asked_side (any.Cache (ask.Shell cmd)) = Common
asked_side (any.Cache (ask.Content cmd)) = cache_side cmd
asked_side (any.List (ask.Shell cmd)) = Common
asked_side (any.List (ask.Content cmd)) = list_side cmd
asked_side (any.Lock (ask.Shell cmd)) = Common
asked_side (any.Lock (ask.Content cmd)) = Content
