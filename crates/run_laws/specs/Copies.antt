-- Which data a connector holds at an index of its vector, and when they are fresh.
use Rattle.std.specs.Prelude.{◌≡◌, ℕ, ◌<◌, ◌≤◌, ◌⊎◌, ◌==◌, IsTrue, if◌then◌else◌, take, fold, Option, None, Some, option_and_then, unwrap_or}
use Rattle.cf_types.specs.declared.alter_commands.AlterCmd.TheVariants as alter
use Rattle.cf_types.specs.declared.alter_commands.AlterReply.TheVariants as answers
use Rattle.cf_types.specs.declared.cache_commands.CacheCmd.{CacheCmd}
use Rattle.cf_types.specs.declared.cache_commands.CacheCmd.TheVariants.{Read, Write}
use Rattle.cf_types.specs.declared.cache_commands.CacheReply.{CacheReply}
use Rattle.cf_types.specs.declared.forms.StrForm.{StrForm}
use Rattle.cf_types.specs.declared.names.Name16.{Name16}
use Rattle.cf_types.specs.declared.numbers.ConnId.{ConnId}
use Rattle.engine_api.specs.declared.asks.Ask.TheVariants as ask
use Rattle.engine_api.specs.declared.asks.Reply.TheVariants as reply
use Rattle.engine_api.specs.History.{IsPoint, last_call_below, next_reply, stands_after}
use Rattle.cache_model.specs.CacheRegs.Registrations.{registered_at}
use Rattle.cache_model.specs.declared.items.CacheItem.{CacheItem}
use Rattle.cache_model.specs.Rows.{row_of}
use Rattle.cache_model.specs.Runs.{Copy, row_copy, reply_copy}
use Rattle.run_shown.specs.Meanings.{altered_caches}
use Rattle.run_laws.specs.CacheHistories.{CacheEntry, CacheHistory, Accepted, acceptance_of, content_after}

-- what a READ at the index answered, or a WRITE there wrote: data with their adjunct, or no data
abbrev pub copy_at : ℕ → CacheCmd → CacheReply → Option Copy
copy_at at (Read name index old stg) answer = if index == at then Some (reply_copy answer) else None
copy_at at (Write name index body class adj old stg when_reg) answer =
    if index == at then Some (Some (body, adj)) else None
copy_at at _ answer = None

-- the copy that an accepted command brings to an index
abbrev pub copy_of : ℕ → Option Accepted → Option Copy
copy_of at told = option_and_then (λ told. copy_at at told.command told.answer) told

-- the copy that an entry brings to a connector's index, if it brings one
abbrev pub copy_brought : ConnId → ℕ → CacheEntry → Option Copy
copy_brought conn index entry = if entry.by.0 == conn.0 then copy_of index (acceptance_of entry) else None

-- what a connector holds at an index: the copy that its last accepted READ or WRITE there brought; without one, no
-- data
abbrev pub copy_held : CacheHistory → ConnId → ℕ → Copy
copy_held history conn index = fold (λ copy entry. unwrap_or (copy_brought conn index entry) copy) None history

-- the connector's bit at the index stands, and what it holds there is what the row of the registered name has
pub record IsFresh (form : StrForm) (history : CacheHistory) (conn : ConnId) (index : ℕ) : Type 0 where
  pub name : Name16
  pub row : CacheItem
  pub stands : IsTrue (stands_after altered_caches form history conn index)
  pub registered : registered_at (content_after form history).regs conn index ≡ Some name
  pub there : row_of name (content_after form history).rows ≡ Some row
  pub same : copy_held history conn index ≡ row_copy row

-- an accepted READ of the registered name, asked next by anyone, is answered with what the connector holds
pub record IsAsRead (form : StrForm) (history : CacheHistory) (conn : ConnId) (index : ℕ) : Type 0 where
  pub name : Name16
  pub registered : registered_at (content_after form history).regs conn index ≡ Some name
  pub same : (by : ConnId) (at : ℕ) (old : Option Name16) (stg : ℕ) (answer : CacheReply)
      → next_reply altered_caches form history by (ask.Content (alter.Inner (Read name at old stg)))
      ≡ reply.Content (answers.Inner answer)
      → reply_copy answer ≡ copy_held history conn index

-- a test that tells with the number n, to a connector that has seen the calls up to q complete, that its copy is
-- fresh:
-- it was at the call n; or, where n is a call that it hasn't seen complete, it was before that call
pub record TellsFresh (form : StrForm) (history : CacheHistory) (n q : ℕ) (conn : ConnId) (index : ℕ) : Type 0 where
  pub point : IsPoint history n
  pub seen : q ≤ n
  pub fresh : IsFresh form (take n history) conn index
      ⊎ ((q < n) × IsFresh form (take (last_call_below history n) history) conn index)
