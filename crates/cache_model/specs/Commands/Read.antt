-- READ: registers the caller for the name, and answers the data of its row, which is made where there is none.
use Rattle.std.specs.Prelude.{ℕ, List, [], ◌∷◌, Option, Some, None}
use Rattle.cf_types.specs.declared.forms.Caps.{Caps}
use Rattle.cf_types.specs.declared.names.Name16.{Name16}
use Rattle.cf_types.specs.declared.numbers.ConnId.{ConnId}
use Rattle.cf_types.specs.declared.refusals.Refusal.{Refusal}
use Rattle.cf_types.specs.declared.cache_commands.CacheReply.{CacheReply}
use Rattle.cf_types.specs.declared.cache_commands.CacheReply.TheVariants as replies
use Rattle.cache_model.specs.Contents.{Content}
use Rattle.cache_regs.specs.Registrations.{regs_with}
use Rattle.cache_model.specs.declared.items.CacheItem.{CacheItem}
use Rattle.cache_model.specs.declared.requests.Request.{Request}
use Rattle.cache_model.specs.Rows.{is_changed, row_or_new, rows_replaced}
use Rattle.cache_model.specs.Contents.{rows_spared, regs_spared}
use Rattle.cache_model.specs.Room.{room_refusal}
use Rattle.cache_model.specs.Refusals.{index_refusal, storage_refusal}

-- it asks for a row
abbrev pub request : Name16 → ℕ → Request
request name stg = record { name = name; elements = 0; stg = stg }

abbrev pub causes : ℕ → Caps → Content → ConnId → Name16 → ℕ → Option Name16 → ℕ → List (Option Refusal)
causes vector caps content by name index old stg =
    index_refusal vector content.regs by name index old ∷ storage_refusal stg
    ∷ room_refusal caps (request name stg) content.rows ∷ []

abbrev pub data_reply : CacheItem → Option (List ℕ) → CacheReply
data_reply row None = replies.NoData
data_reply row (Some body) = replies.Data body row.adj (is_changed row)

abbrev pub reply : List CacheItem → Name16 → ℕ → CacheReply
reply rows name stg = let row = row_or_new name stg rows in data_reply row row.body

-- where the rows of these names are reclaimed
abbrev pub after : List Name16 → Content → ConnId → Name16 → ℕ → ℕ → Content
after gone content by name index stg =
    record {
      rows = rows_replaced (row_or_new name stg content.rows) (rows_spared gone content.rows);
      regs = regs_spared gone (regs_with by index name content.regs);
    }
