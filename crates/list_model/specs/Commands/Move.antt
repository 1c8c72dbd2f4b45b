-- MOVE: a record is taken out and comes to its place in a header, with a new key if one is given and
-- with the version that it has.
use Rattle.std.specs.Prelude.{ℕ, ◌==◌, Bool, if◌then◌else◌, List, [], ◌∷◌, Option, None}
use Rattle.std.specs.Option.{option_or}
use Rattle.cf_types.specs.declared.list_commands.At.{At}
use Rattle.cf_types.specs.declared.list_commands.Cond.{Cond}
use Rattle.cf_types.specs.declared.names.Key16.{Key16}
use Rattle.cf_types.specs.declared.numbers.ConnId.{ConnId}
use Rattle.cf_types.specs.declared.refusals.Refusal.{Refusal}
use Rattle.engine_api.specs.declared.shapes.Shape.{Shape}
use Rattle.list_store.specs.Record.{Record}
use Rattle.list_store.specs.Lists.{lists_without}
use Rattle.list_model.specs.Lists.{header_of, record_at, the_record, with_record}
use Rattle.list_model.specs.Contents.{Content, headers_of, locks_of, refs_of}
use Rattle.list_model.specs.Refusals.{cond_lock_refusal, cond_refusal, ref_header_refusal, ref_form_refusal, record_refusal, version_refusal, header_refusal, new_key_refusal, full_refusal}

-- a header that the record is in already has a place for it
abbrev pub place_refusal : Content → At → ℕ → Option Refusal
place_refusal content at header =
    if header_of (the_record content.lists at).id content.lists == header
    then None
    else full_refusal content header

abbrev pub causes : Shape → Content → ConnId → At → ℕ → Option Key16 → Option ℕ → Option Cond
    → List (Option Refusal)
causes shape content by at header key version cond =
    cond_lock_refusal (locks_of shape.kind) cond ∷ cond_refusal content.locks by cond
    ∷ ref_header_refusal (headers_of shape.kind) at ∷ ref_form_refusal (refs_of shape.kind) at
    ∷ record_refusal (record_at content.lists at)
    ∷ version_refusal version (the_record content.lists at).version
    ∷ header_refusal (headers_of shape.kind) header
    ∷ new_key_refusal (refs_of shape.kind) key ∷ place_refusal content at header ∷ []

abbrev pub with_new_key : Option Key16 → Record → Record
with_new_key key rec = record rec { key = option_or key rec.key }

abbrev pub after : Content → At → ℕ → Bool → Option Key16 → Content
after content at header head key =
    let rec = the_record content.lists at in
    record content {
      lists = with_record head header (with_new_key key rec) (lists_without rec.id content.lists);
    }
