-- The commands of a cache structure: the first refusal that holds, and what a command does where none holds.
use Rattle.std.specs.Prelude.{ℕ, List, [], Option}
use Rattle.cf_types.specs.declared.forms.Caps.{Caps}
use Rattle.cf_types.specs.declared.names.Name16.{Name16}
use Rattle.cf_types.specs.declared.numbers.ConnId.{ConnId}
use Rattle.cf_types.specs.declared.refusals.Refusal.{Refusal}
use Rattle.cf_types.specs.declared.cache_commands.CacheCmd.{CacheCmd}
use Rattle.cf_types.specs.declared.cache_commands.CacheCmd.TheVariants.{Read, Write, CrossInval, RegList, Castout, Unlock, CoClass, CoStats, DirInfo, Delete, StgStats}
use Rattle.cf_types.specs.declared.cache_commands.CacheReply.{CacheReply}
use Rattle.cf_types.specs.declared.cache_commands.CacheReply.TheVariants as replies
use Rattle.engine_api.specs.Meaning.{Outcome, first_refusal}
use Rattle.cache_model.specs.declared.items.CacheItem.{CacheItem}
use Rattle.cache_model.specs.Contents.{Content}
use Rattle.cache_model.specs.Room as room
use Rattle.cache_model.specs.Commands.Read as read
use Rattle.cache_model.specs.Commands.Write as write
use Rattle.cache_model.specs.Commands.CrossInval as cross_inval
use Rattle.cache_model.specs.Commands.RegList as reg_list
use Rattle.cache_model.specs.Commands.Castout as castout
use Rattle.cache_model.specs.Commands.Unlock as unlock
use Rattle.cache_model.specs.Commands.CoClass as co_class
use Rattle.cache_model.specs.Commands.CoStats as co_stats
use Rattle.cache_model.specs.Commands.DirInfo as dir_info
use Rattle.cache_model.specs.Commands.Delete as delete
use Rattle.cache_model.specs.Commands.StgStats as stg_stats

-- the refusals that are tried, in their order
abbrev pub causes : ℕ → Caps → Content → ConnId → CacheCmd → List (Option Refusal)
causes vector caps content by (Read name index old stg) = read.causes vector caps content by name index old stg
causes vector caps content by (Write name index body class adj old stg when_reg) =
    write.causes vector caps content by name index body class old stg when_reg
causes vector caps content by (CrossInval name) = cross_inval.causes content.rows name
causes vector caps content by RegList = []
causes vector caps content by (Castout name) = castout.causes content.rows name
causes vector caps content by (Unlock name) = unlock.causes content.rows by name
causes vector caps content by (CoClass class) = co_class.causes class
causes vector caps content by CoStats = []
causes vector caps content by (DirInfo name) = dir_info.causes content.rows name
causes vector caps content by (Delete name) = delete.causes content.rows by name
causes vector caps content by (StgStats stg) = stg_stats.causes stg

-- the first that holds
abbrev pub cause : ℕ → Caps → Content → ConnId → CacheCmd → Option Refusal
cause vector caps content by cmd = first_refusal (causes vector caps content by cmd)

abbrev pub reply : Content → ConnId → CacheCmd → CacheReply
reply content by (Read name index old stg) = read.reply content.rows name stg
reply content by (Write name index body class adj old stg when_reg) = replies.Ok
reply content by (CrossInval name) = cross_inval.reply content.regs by name
reply content by RegList = reg_list.reply content.regs by
reply content by (Castout name) = castout.reply content.rows name
reply content by (Unlock name) = unlock.reply content.rows name
reply content by (CoClass class) = co_class.reply content.rows class
reply content by CoStats = co_stats.reply content.rows
reply content by (DirInfo name) = dir_info.reply content.rows content.regs name
reply content by (Delete name) = replies.Ok
reply content by (StgStats stg) = stg_stats.reply content.rows stg

-- the names of the rows that are reclaimed for a command
abbrev pub victims : Caps → List CacheItem → CacheCmd → List Name16
victims caps rows (Read name index old stg) = room.victims caps (read.request name stg) rows
victims caps rows (Write name index body class adj old stg when_reg) = room.victims caps (write.request name body stg)
    rows
victims caps rows (CrossInval name) = []
victims caps rows RegList = []
victims caps rows (Castout name) = []
victims caps rows (Unlock name) = []
victims caps rows (CoClass class) = []
victims caps rows CoStats = []
victims caps rows (DirInfo name) = []
victims caps rows (Delete name) = []
victims caps rows (StgStats stg) = []

-- the content that a command leaves, where the rows of these names are reclaimed
abbrev pub after : List Name16 → Content → ConnId → CacheCmd → Content
after gone content by (Read name index old stg) = read.after gone content by name index stg
after gone content by (Write name index body class adj old stg when_reg) = write.after gone content by name index body
    class adj stg
after gone content by (CrossInval name) = cross_inval.after content by name
after gone content by RegList = content
after gone content by (Castout name) = castout.after content by name
after gone content by (Unlock name) = unlock.after content name
after gone content by (CoClass class) = content
after gone content by CoStats = content
after gone content by (DirInfo name) = content
after gone content by (Delete name) = delete.after content name
after gone content by (StgStats stg) = content

-- what a command does where no refusal holds
abbrev pub done : Caps → Content → ConnId → CacheCmd → Outcome CacheReply Content
done caps content by cmd =
    record {
      reply = reply content by cmd;
      state = after (victims caps content.rows cmd) content by cmd;
      letters = [];
    }
