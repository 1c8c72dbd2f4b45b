-- DELETE: the row and the registrations for it go.
use Rattle.std.specs.Prelude.{List, [], ◌∷◌, Option, None}
use Rattle.cf_types.specs.declared.names.Name16.{Name16}
use Rattle.cf_types.specs.declared.numbers.ConnId.{ConnId}
use Rattle.cf_types.specs.declared.refusals.Refusal.{Refusal}
use Rattle.cache_model.specs.Contents.{Content}
use Rattle.cache_regs.specs.Registrations.{regs_without_name}
use Rattle.cache_model.specs.declared.items.CacheItem.{CacheItem}
use Rattle.cache_model.specs.Rows.{row_of, rows_without}
use Rattle.cache_model.specs.Refusals.{entry_refusal, held_by_other_refusal}

abbrev pub causes : List CacheItem → ConnId → Name16 → List (Option Refusal)
causes rows by name = let row = row_of name rows in entry_refusal row ∷ held_by_other_refusal by row ∷ []

abbrev pub after : Content → Name16 → Content
after content name =
    record { rows = rows_without name content.rows; regs = regs_without_name name None content.regs }
