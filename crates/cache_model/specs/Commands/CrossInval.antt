-- CROSSINVAL: the registrations of all others for the name end.
use Rattle.std.specs.Prelude.{List, [], ◌∷◌, length, filter, Option, Some}
use Rattle.cf_types.specs.declared.names.Name16.{Name16}
use Rattle.cf_types.specs.declared.numbers.ConnId.{ConnId}
use Rattle.cf_types.specs.declared.refusals.Refusal.{Refusal}
use Rattle.cf_types.specs.declared.cache_commands.CacheReply.{CacheReply}
use Rattle.cf_types.specs.declared.cache_commands.CacheReply.TheVariants as replies
use Rattle.cache_model.specs.Contents.{Content}
use Rattle.cache_regs.specs.declared.registrations.Registration.{Registration}
use Rattle.cache_regs.specs.Registrations.{ends_with_name, regs_without_name}
use Rattle.cache_model.specs.declared.items.CacheItem.{CacheItem}
use Rattle.cache_model.specs.Rows.{row_of}
use Rattle.cache_model.specs.Refusals.{entry_refusal}

abbrev pub causes : List CacheItem → Name16 → List (Option Refusal)
causes rows name = entry_refusal (row_of name rows) ∷ []

abbrev pub reply : List Registration → ConnId → Name16 → CacheReply
reply regs by name = replies.OkCount (length (filter (ends_with_name name (Some by)) regs))

abbrev pub after : Content → ConnId → Name16 → Content
after content by name = record content { regs = regs_without_name name (Some by) content.regs }
