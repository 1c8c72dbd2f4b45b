-- CASTOUT: the caller holds the changed row, and gets its data.
use Rattle.std.specs.Prelude.{ℕ, false, List, [], ◌∷◌, Option, Some, None}
use Rattle.cf_types.specs.declared.names.Name16.{Name16}
use Rattle.cf_types.specs.declared.numbers.ConnId.{ConnId}
use Rattle.cf_types.specs.declared.refusals.Refusal.{Refusal}
use Rattle.cf_types.specs.declared.cache_commands.CacheReply.{CacheReply}
use Rattle.cf_types.specs.declared.cache_commands.CacheReply.TheVariants as replies
use Rattle.cache_model.specs.Contents.{Content}
use Rattle.cache_model.specs.declared.items.CacheItem.{CacheItem}
use Rattle.cache_model.specs.Rows.{row_of, row_or_new, rows_replaced}
use Rattle.cache_model.specs.Refusals.{entry_refusal, held_refusal, unchanged_refusal}

abbrev pub causes : List CacheItem → Name16 → List (Option Refusal)
causes rows name =
    let row = row_of name rows in entry_refusal row ∷ held_refusal row ∷ unchanged_refusal row ∷ []

-- a changed row has data
abbrev pub data_reply : CacheItem → Option (List ℕ) → CacheReply
data_reply row None = replies.NoData
data_reply row (Some body) = replies.CastData body row.adj

abbrev pub reply : List CacheItem → Name16 → CacheReply
reply rows name = let row = row_or_new name 1 rows in data_reply row row.body

abbrev pub row_with_hold : ConnId → CacheItem → CacheItem
row_with_hold by row = record row { holder = Some (record { conn = by; rewritten = false }) }

abbrev pub after : Content → ConnId → Name16 → Content
after content by name =
    record content { rows = rows_replaced (row_with_hold by (row_or_new name 1 content.rows)) content.rows }
