-- UNLOCK: the caller holds the row no more; it is unchanged unless it was written meanwhile.
use Rattle.std.specs.Prelude.{Bool, false, if◌then◌else◌, List, [], ◌∷◌, Option, Some, None}
use Rattle.cf_types.specs.declared.names.Name16.{Name16}
use Rattle.cf_types.specs.declared.numbers.ConnId.{ConnId}
use Rattle.cf_types.specs.declared.refusals.Refusal.{Refusal}
use Rattle.cf_types.specs.declared.cache_commands.CacheReply.{CacheReply}
use Rattle.cf_types.specs.declared.cache_commands.CacheReply.TheVariants as replies
use Rattle.cache_model.specs.Contents.{Content}
use Rattle.cache_model.specs.declared.items.CacheItem.{CacheItem}
use Rattle.cache_dir.specs.declared.row.Holder.{Holder}
use Rattle.cache_model.specs.Rows.{row_of, row_or_new, rows_replaced}
use Rattle.cache_model.specs.Refusals.{entry_refusal, not_held_refusal}

abbrev pub causes : List CacheItem → ConnId → Name16 → List (Option Refusal)
causes rows by name = let row = row_of name rows in entry_refusal row ∷ not_held_refusal by row ∷ []

abbrev pub is_rewritten : Option Holder → Bool
is_rewritten None = false
is_rewritten (Some holder) = holder.rewritten

abbrev pub reply : List CacheItem → Name16 → CacheReply
reply rows name = replies.Unlocked (is_rewritten (row_or_new name 1 rows).holder)

abbrev pub row_without_hold : CacheItem → CacheItem
row_without_hold row =
    record row { class = if is_rewritten row.holder then row.class else None; holder = None }

abbrev pub after : Content → Name16 → Content
after content name =
    record content { rows = rows_replaced (row_without_hold (row_or_new name 1 content.rows)) content.rows }
