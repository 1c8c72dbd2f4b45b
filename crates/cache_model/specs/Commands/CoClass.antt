-- COCLASS: the names of a castout class, by name.
use Rattle.std.specs.Prelude.{ℕ, List, [], ◌∷◌, map, filter, Option}
use Rattle.cf_types.specs.declared.refusals.Refusal.{Refusal}
use Rattle.cf_types.specs.declared.cache_commands.CacheReply.{CacheReply}
use Rattle.cf_types.specs.declared.cache_commands.CacheReply.TheVariants as replies
use Rattle.cache_model.specs.declared.items.CacheItem.{CacheItem}
use Rattle.cache_model.specs.Rows.{has_class}
use Rattle.cache_model.specs.Refusals.{class_refusal}

abbrev pub causes : ℕ → List (Option Refusal)
causes class = class_refusal class ∷ []

-- changed rows stand by name
abbrev pub reply : List CacheItem → ℕ → CacheReply
reply rows class = replies.Names (map (λ row. row.name) (filter (has_class class) rows))
