-- DIRINFO: what the directory says of a name.
use Rattle.std.specs.Prelude.{List, [], ◌∷◌, length, Option, option_map}
use Rattle.cf_types.specs.declared.names.Name16.{Name16}
use Rattle.cf_types.specs.declared.refusals.Refusal.{Refusal}
use Rattle.cf_types.specs.declared.cache_commands.CacheReply.{CacheReply}
use Rattle.cf_types.specs.declared.cache_commands.CacheReply.TheVariants as replies
use Rattle.cache_regs.specs.declared.registrations.Registration.{Registration}
use Rattle.cache_regs.specs.Registrations.{regs_for}
use Rattle.cache_model.specs.declared.items.CacheItem.{CacheItem}
use Rattle.cache_model.specs.Rows.{row_of, row_or_new}
use Rattle.cache_model.specs.Refusals.{entry_refusal}

abbrev pub causes : List CacheItem → Name16 → List (Option Refusal)
causes rows name = entry_refusal (row_of name rows) ∷ []

abbrev pub reply : List CacheItem → List Registration → Name16 → CacheReply
reply rows regs name =
    let row = row_or_new name 1 rows in
    replies.Dir row.class row.stg (option_map (λ holder. holder.conn) row.holder) (length (regs_for name regs))
