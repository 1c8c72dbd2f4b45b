-- WRITE: replaces data, adjunct and class, registers the caller, and ends the registrations of all others for the
-- name.
use Rattle.std.specs.Prelude.{ℕ, Bool, true, List, [], ◌∷◌, Option, Some, option_map}
use Rattle.cf_types.specs.declared.forms.Caps.{Caps}
use Rattle.cf_types.specs.declared.names.Name16.{Name16}
use Rattle.cf_types.specs.declared.numbers.ConnId.{ConnId}
use Rattle.cf_types.specs.declared.refusals.Refusal.{Refusal}
use Rattle.cache_model.specs.Contents.{Content}
use Rattle.cache_regs.specs.Registrations.{regs_with, regs_without_name}
use Rattle.cache_model.specs.declared.items.CacheItem.{CacheItem}
use Rattle.cache_dir.specs.declared.row.Holder.{Holder}
use Rattle.cache_model.specs.declared.requests.Request.{Request}
use Rattle.cache_model.specs.Rows.{elements_of, row_or_new, rows_replaced}
use Rattle.cache_model.specs.Contents.{rows_spared, regs_spared}
use Rattle.cache_model.specs.Room.{room_refusal}
use Rattle.cache_model.specs.Refusals.{index_refusal, storage_refusal, castout_refusal, registration_refusal, change_refusal}

-- it asks for a row, and for elements for the data
abbrev pub request : Name16 → List ℕ → ℕ → Request
request name body stg = record { name = name; elements = elements_of (Some body); stg = stg }

abbrev pub causes : ℕ → Caps → Content → ConnId → Name16 → ℕ → List ℕ → Option ℕ → Option Name16 → ℕ → Bool
    → List (Option Refusal)
causes vector caps content by name index body class old stg when_reg =
    index_refusal vector content.regs by name index old ∷ castout_refusal class ∷ storage_refusal stg
    ∷ registration_refusal content.regs by name when_reg ∷ change_refusal content.rows name class
    ∷ room_refusal caps (request name body stg) content.rows ∷ []

-- a row that is held is rewritten
abbrev pub rewrite : Holder → Holder
rewrite holder = record holder { rewritten = true }

abbrev pub row_with : List ℕ → Option ℕ → Option (List ℕ) → CacheItem → CacheItem
row_with body class adj row =
    record row { body = Some body; adj = adj; class = class; holder = option_map rewrite row.holder }

-- where the rows of these names are reclaimed
abbrev pub after : List Name16 → Content → ConnId → Name16 → ℕ → List ℕ → Option ℕ → Option (List ℕ) → ℕ → Content
after gone content by name index body class adj stg =
    record {
      rows = rows_replaced (row_with body class adj (row_or_new name stg content.rows))
          (rows_spared gone content.rows);
      regs = regs_spared gone (regs_without_name name (Some by) (regs_with by index name content.regs));
    }
