-- COSTATS: how many rows each castout class has, of those that have any.
use Rattle.std.specs.Prelude.{ℕ, Bool, not, ◌==◌, List, map, filter, length}
use Rattle.std.specs.List.{range_with_len}
use Rattle.cf_types.specs.declared.limits.TheConstants.{CASTOUT_CLASSES}
use Rattle.cf_types.specs.declared.cache_commands.CacheReply.{CacheReply}
use Rattle.cf_types.specs.declared.cache_commands.CacheReply.TheVariants as replies
use Rattle.cache_model.specs.declared.items.CacheItem.{CacheItem}
use Rattle.cache_model.specs.Rows.{has_class}

abbrev pub rows_of_class : List CacheItem → ℕ → ℕ
rows_of_class rows class = length (filter (has_class class) rows)

abbrev pub has_rows : List CacheItem → ℕ → Bool
has_rows rows class = not (rows_of_class rows class == 0)

-- each class that has rows, with their number
abbrev pub class_counts : List CacheItem → List ℕ → List (ℕ × ℕ)
class_counts rows classes = map (λ class. (class, rows_of_class rows class)) (filter (has_rows rows) classes)

abbrev pub reply : List CacheItem → CacheReply
reply rows = replies.Stats (class_counts rows (range_with_len 1 CASTOUT_CLASSES))
