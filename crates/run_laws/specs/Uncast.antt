-- Pages that were written as changed and aren't cast out yet: the permanent store doesn't have them, so the structure
-- has to keep them.
use Rattle.std.specs.Prelude.{◌≡◌, ℕ, Bool, true, false, ◌&&◌, ◌||◌, if◌then◌else◌, List, [], ◌∷◌, ◌++◌, Option, None, Some, is_some, option_and_then}
use Rattle.std.specs.List.{list_any}
use Rattle.cf_types.specs.declared.alter_commands.AlterCmd.TheVariants as alter
use Rattle.cf_types.specs.declared.alter_commands.AlterReply.{AlterReply}
use Rattle.cf_types.specs.declared.alter_commands.AlterReply.TheVariants as answers
use Rattle.cf_types.specs.declared.cache_commands.CacheCmd.{CacheCmd}
use Rattle.cf_types.specs.declared.cache_commands.CacheCmd.TheVariants.{Read, Write, Castout, Unlock, Delete}
use Rattle.cf_types.specs.declared.cache_commands.CacheReply.{CacheReply}
use Rattle.cf_types.specs.declared.cache_commands.CacheReply.TheVariants as replies
use Rattle.cf_types.specs.declared.forms.StrForm.{StrForm}
use Rattle.cf_types.specs.declared.names.Name16.{Name16}
use Rattle.cf_types.specs.declared.numbers.ConnId.{ConnId}
use Rattle.cf_types.specs.declared.shell_commands.ShellReply.TheVariants as answer
use Rattle.cf_types.specs.Name.{same_name}
use Rattle.engine_api.specs.declared.asks.Ask.TheVariants as ask
use Rattle.engine_api.specs.declared.asks.Reply.{Reply}
use Rattle.engine_api.specs.declared.asks.Reply.TheVariants as reply
use Rattle.cache_model.specs.declared.items.CacheItem.{CacheItem}
use Rattle.engine_api.specs.History.{next_reply}
use Rattle.cache_model.specs.Rows.{row_of}
use Rattle.run_shown.specs.Meanings.{altered_caches}
use Rattle.run_laws.specs.CacheHistories.{CacheEntry, CacheHistory, acceptance_of, is_accepted, content_after, StaysAllocated}

-- what a changed WRITE wrote: the data, the adjunct, and the castout class
pub record Page : Type 0 where
  pub body : List ℕ
  pub adj : Option (List ℕ)
  pub class : ℕ

-- ---- entries on a name

-- what a command writes, where it is a changed WRITE of the name
abbrev pub page_in : Name16 → CacheCmd → Option Page
page_in name (Write other index body (Some class) adj old stg when_reg) =
    if same_name other name then Some (record { body = body; adj = adj; class = class }) else None
page_in name _ = None

-- what an accepted changed WRITE of the name wrote
abbrev pub page_written : Name16 → CacheEntry → Option Page
page_written name entry = option_and_then (λ told. page_in name told.command) (acceptance_of entry)

abbrev pub is_changed_write : Name16 → CacheEntry → Bool
is_changed_write name entry = is_some (page_written name entry)

abbrev pub deletes : Name16 → CacheCmd → Bool
deletes name (Delete other) = same_name other name
deletes name _ = false

abbrev pub casts_out : Name16 → CacheCmd → Bool
casts_out name (Castout other) = same_name other name
casts_out name _ = false

abbrev pub unlocks : Name16 → CacheCmd → Bool
unlocks name (Unlock other) = same_name other name
unlocks name _ = false

-- the structure's only instance is lost
abbrev pub is_failure_reply : Reply (AlterReply CacheReply) → Bool
is_failure_reply (reply.Shell answer.FailedNow) = true
is_failure_reply _ = false

abbrev pub is_failure : CacheEntry → Bool
is_failure entry = is_failure_reply entry.reply

-- ---- castouts

abbrev pub HasNone : (CacheEntry → Bool) → CacheHistory → Type 0
HasNone is entries = list_any is entries ≡ false

-- a castout of the name begins and ends among these entries: a CASTOUT is accepted, and after it an UNLOCK
abbrev pub is_cast_out : Name16 → CacheHistory → Bool
is_cast_out name [] = false
is_cast_out name (entry ∷ entries) =
    (is_accepted (casts_out name) entry && list_any (is_accepted (unlocks name)) entries) || is_cast_out name entries

-- the last accepted changed WRITE of the name wrote this page. Since then the name wasn't deleted, the structure
-- neither failed nor was deallocated, and no castout of the name began and ended
pub record IsUncast (form : StrForm) (history : CacheHistory) (name : Name16) (page : Page) : Type 0 where
  pub before : CacheHistory
  pub write : CacheEntry
  pub since : CacheHistory
  pub split : history ≡ before ++ write ∷ since
  pub wrote : page_written name write ≡ Some page
  pub last : HasNone (is_changed_write name) since
  pub not_deleted : HasNone (is_accepted (deletes name)) since
  pub not_failed : HasNone is_failure since
  pub allocated : StaysAllocated form (before ++ write ∷ []) since
  pub not_cast_out : is_cast_out name since ≡ false

-- ---- what is kept

-- the name has a row with the page's data, adjunct and class; having a class, it is a changed one
pub record HasPage (form : StrForm) (history : CacheHistory) (name : Name16) (page : Page) : Type 0 where
  pub row : CacheItem
  pub there : row_of name (content_after form history).rows ≡ Some row
  pub body : row.body ≡ Some page.body
  pub adj : row.adj ≡ page.adj
  pub class : row.class ≡ Some page.class

-- accepted READs and CASTOUTs of the name, asked next by anyone, are answered with the page
pub record IsAnswered (form : StrForm) (history : CacheHistory) (name : Name16) (page : Page) : Type 0 where
  pub read : (by : ConnId) (index : ℕ) (old : Option Name16) (stg : ℕ) (answer : CacheReply)
      → next_reply altered_caches form history by (ask.Content (alter.Inner (Read name index old stg)))
      ≡ reply.Content (answers.Inner answer)
      → answer ≡ replies.Data page.body page.adj true
  pub castout : (by : ConnId) (answer : CacheReply)
      → next_reply altered_caches form history by (ask.Content (alter.Inner (Castout name)))
      ≡ reply.Content (answers.Inner answer)
      → answer ≡ replies.CastData page.body page.adj
