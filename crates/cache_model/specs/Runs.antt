-- Runs of commands, departures and ends of registrations, and what a connector has a copy of after them.
use Rattle.std.specs.Prelude.{ℕ, ◌&&◌, ◌==◌, if◌then◌else◌, List, [], ◌∷◌, Option, None, Some, option_map, option_and_then}
use Rattle.cf_types.specs.declared.forms.Caps.{Caps}
use Rattle.cf_types.specs.declared.names.Name16.{Name16}
use Rattle.cf_types.specs.declared.numbers.ConnId.{ConnId}
use Rattle.cf_types.specs.declared.refusals.Refusal.{Refusal}
use Rattle.cf_types.specs.declared.cache_commands.CacheCmd.{CacheCmd}
use Rattle.cf_types.specs.declared.cache_commands.CacheCmd.TheVariants.{Read, Write, CrossInval, RegList, Castout, Unlock, CoClass, CoStats, DirInfo, Delete, StgStats}
use Rattle.cf_types.specs.declared.cache_commands.CacheReply.{CacheReply}
use Rattle.cf_types.specs.declared.cache_commands.CacheReply.TheVariants as replies
use Rattle.engine_api.specs.Meaning.{unless_refused}
use Rattle.cache_model.specs.declared.items.CacheItem.{CacheItem}
use Rattle.cache_model.specs.Rows.{row_of}
use Rattle.cache_model.specs.Contents.{Content, content_without, content_forgotten}
use Rattle.cache_model.specs.Step.{cause, done, reply}

-- what may happen to a content: a command at a capacity, a departure, the end of all registrations
pub data Deed : Type 0 where
  Calls : Caps → ConnId → CacheCmd → Deed
  Leaves : ConnId → Deed
  Forgets : Deed

abbrev pub after_deed : ℕ → Content → Deed → Content
after_deed vector content (Calls caps by cmd) =
    (unless_refused (cause vector caps content by cmd) content (done caps content by cmd)).state
after_deed vector content (Leaves conn) = content_without conn content
after_deed vector content Forgets = content_forgotten content

abbrev pub after_run : ℕ → Content → List Deed → Content
after_run vector content [] = content
after_run vector content (deed ∷ deeds) = after_run vector (after_deed vector content deed) deeds

-- data with their adjunct, or no data
abbrev pub Copy : Type 0
Copy = Option (List ℕ × Option (List ℕ))

abbrev pub row_copy : CacheItem → Copy
row_copy row = option_map (λ body. (body, row.adj)) row.body

-- the data of a name's row
abbrev pub copy_in : List CacheItem → Name16 → Copy
copy_in rows name = option_and_then row_copy (row_of name rows)

-- the copy that a reply brings
abbrev pub reply_copy : CacheReply → Copy
reply_copy (replies.Data body adj changed) = Some (body, adj)
reply_copy replies.NoData = None
reply_copy replies.Ok = None
reply_copy (replies.OkCount n) = None
reply_copy (replies.Regs regs) = None
reply_copy (replies.CastData body adj) = None
reply_copy (replies.Unlocked changed) = None
reply_copy (replies.Names names) = None
reply_copy (replies.Stats stats) = None
reply_copy (replies.Dir class stg holder regs) = None
reply_copy (replies.Stg rows changed) = None

-- what each connector has a copy of at each index: what the last READ there that wasn't refused answered, or WRITE
-- wrote
abbrev pub Copies : Type 0
Copies = ConnId → ℕ → Copy

abbrev pub copies_with : ConnId → ℕ → Copy → Copies → Copies
copies_with by index copy copies = λ conn i. if (by.0 == conn.0) && (index == i) then copy else copies conn i

abbrev pub copies_done : Content → ConnId → CacheCmd → Copies → Copies
copies_done content by (Read name index old stg) copies =
    copies_with by index (reply_copy (reply content by (Read name index old stg))) copies
copies_done content by (Write name index body class adj old stg when_reg) copies = copies_with by index
    (Some (body, adj)) copies
copies_done content by (CrossInval name) copies = copies
copies_done content by RegList copies = copies
copies_done content by (Castout name) copies = copies
copies_done content by (Unlock name) copies = copies
copies_done content by (CoClass class) copies = copies
copies_done content by CoStats copies = copies
copies_done content by (DirInfo name) copies = copies
copies_done content by (Delete name) copies = copies
copies_done content by (StgStats stg) copies = copies

abbrev pub copies_unless : Option Refusal → Content → ConnId → CacheCmd → Copies → Copies
copies_unless None content by cmd copies = copies_done content by cmd copies
copies_unless (Some refusal) content by cmd copies = copies

abbrev pub copies_after : ℕ → Content → Copies → Deed → Copies
copies_after vector content copies (Calls caps by cmd) = copies_unless (cause vector caps content by cmd) content by
    cmd copies
copies_after vector content copies (Leaves conn) = copies
copies_after vector content copies Forgets = copies

abbrev pub copies_run : ℕ → Content → Copies → List Deed → Copies
copies_run vector content copies [] = copies
copies_run vector content copies (deed ∷ deeds) =
    copies_run vector (after_deed vector content deed) (copies_after vector content copies deed) deeds
