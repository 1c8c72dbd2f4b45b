-- The words for what lines name.
use Rattle.std.specs.Prelude.{ℕ, ◌-◌, ◌==◌, if◌then◌else◌, List, ◌++◌, codes, slice_get}
use Rattle.std.specs.Option.{option_map_or}
use Rattle.std.specs.Fmt.{decimal}
use Rattle.cf_types.specs.declared.names.Name16.{Name16}
use Rattle.cf_types.specs.declared.numbers.CfId.{CfId}
use Rattle.cf_types.specs.declared.numbers.EntryId.{EntryId}
use Rattle.cf_types.specs.declared.forms.StrForm.{StrForm}
use Rattle.cf_types.specs.declared.resources.Resource.{Resource}
use Rattle.plex_spell.specs.Tokens.{name_word}

abbrev pub facility_word : CfId → List ℕ
facility_word cf = codes "CF" ++ decimal cf.0

abbrev pub record_word : EntryId → List ℕ
record_word id = codes "#" ++ decimal id.0

abbrev pub resource_word : Resource → List ℕ
resource_word r = name_word r.name ++ codes "@" ++ decimal r.hash

-- the caller with this number by its name: the operator is OP; a number that no connector has stands for itself
abbrev pub caller_name : List Name16 → ℕ → List ℕ
caller_name connectors n =
    if n == 0 then codes "OP" else option_map_or name_word (slice_get connectors (n - 1)) (decimal n)

-- the structure with this number by its name; a number that no structure has stands for itself
abbrev pub structure_name : List StrForm → ℕ → List ℕ
structure_name structures n =
    option_map_or (λ (form : StrForm). name_word form.name) (slice_get structures n) (decimal n)
