-- STGSTATS: how many rows a storage class has, and how many of them are changed.
use Rattle.std.specs.Prelude.{ℕ, ◌&&◌, List, [], ◌∷◌, length, filter, Option}
use Rattle.cf_types.specs.declared.refusals.Refusal.{Refusal}
use Rattle.cf_types.specs.declared.cache_commands.CacheReply.{CacheReply}
use Rattle.cf_types.specs.declared.cache_commands.CacheReply.TheVariants as replies
use Rattle.cache_model.specs.declared.items.CacheItem.{CacheItem}
use Rattle.cache_model.specs.Rows.{has_storage, is_changed}
use Rattle.cache_model.specs.Refusals.{storage_refusal}

abbrev pub causes : ℕ → List (Option Refusal)
causes stg = storage_refusal stg ∷ []

abbrev pub reply : List CacheItem → ℕ → CacheReply
reply rows stg =
    replies.Stg (length (filter (has_storage stg) rows))
    (length (filter (λ row. has_storage stg row && is_changed row) rows))
