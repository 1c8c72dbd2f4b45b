-- What the structures of each kind mean: caches whose capacity is altered while they are in use, and lists of records
-- with event queues for sublists (`queued_lists`).
use Rattle.alter_model.specs.declared.contents.AlterContent.{AlterContent}
use Rattle.alter_model.specs.Meaning.{alter_meaning}
use Rattle.cache_model.specs.Contents.{Content}
use Rattle.cache_model.specs.declared.items.CacheItem.{CacheItem}
use Rattle.cache_model.specs.Meaning.{cache_meaning}
use Rattle.plex_script.specs.CfTypes.declared.alter_commands.AlterCmd.{AlterCmd}
use Rattle.plex_script.specs.CfTypes.declared.alter_commands.AlterReply.{AlterReply}
use Rattle.plex_script.specs.CfTypes.declared.cache_commands.CacheCmd.{CacheCmd}
use Rattle.plex_script.specs.CfTypes.declared.cache_commands.CacheReply.{CacheReply}
use Rattle.plex_script.specs.EngineApi.Meaning.{Meaning}

abbrev pub altered_caches : Meaning (AlterCmd CacheCmd) (AlterReply CacheReply) CacheItem (AlterContent Content)
altered_caches = alter_meaning cache_meaning
