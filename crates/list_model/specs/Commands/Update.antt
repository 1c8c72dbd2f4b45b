-- UPDATE: what is given of a record's data and adjunct is replaced, and its version rises.
use Rattle.std.specs.Prelude.{ℕ, List, [], ◌∷◌, Option}
use Rattle.std.specs.Option.{option_or}
use Rattle.cf_types.specs.declared.forms.Caps.{Caps}
use Rattle.cf_types.specs.declared.list_commands.At.{At}
use Rattle.cf_types.specs.declared.list_commands.Cond.{Cond}
use Rattle.cf_types.specs.declared.list_commands.ListReply.{ListReply}
use Rattle.cf_types.specs.declared.list_commands.ListReply.TheVariants as replies
use Rattle.cf_types.specs.declared.numbers.ConnId.{ConnId}
use Rattle.cf_types.specs.declared.refusals.Refusal.{Refusal}
use Rattle.engine_api.specs.declared.shapes.Shape.{Shape}
use Rattle.list_store.specs.Record.{Record}
use Rattle.list_store.specs.Lists.{all_records, records_without, lists_replaced}
use Rattle.list_model.specs.Records.{elements_of, next_version}
use Rattle.list_model.specs.Lists.{record_at, the_record}
use Rattle.list_model.specs.Contents.{Content, headers_of, locks_of, refs_of}
use Rattle.list_model.specs.Refusals.{cond_lock_refusal, cond_refusal, ref_header_refusal, ref_form_refusal, record_refusal, version_refusal, elements_refusal}

-- the record's own elements count as free
abbrev pub causes : Shape → Caps → Content → ConnId → At → Option (List ℕ) → Option ℕ → Option Cond
    → List (Option Refusal)
causes shape caps content by at body version cond =
    let id = (the_record content.lists at).id in
    let others = records_without id (all_records content.lists) in
    cond_lock_refusal (locks_of shape.kind) cond ∷ cond_refusal content.locks by cond
    ∷ ref_header_refusal (headers_of shape.kind) at ∷ ref_form_refusal (refs_of shape.kind) at
    ∷ record_refusal (record_at content.lists at)
    ∷ version_refusal version (the_record content.lists at).version
    ∷ elements_refusal caps (elements_of body) others ∷ []

abbrev pub reply : Content → At → ListReply
reply content at = replies.Id (the_record content.lists at).id

abbrev pub with_new_data : Option (List ℕ) → Option (List ℕ) → Record → Record
with_new_data body adj rec =
    record rec {
      version = next_version rec.version;
      body = option_or body rec.body;
      adj = option_or adj rec.adj;
    }

abbrev pub after : Content → At → Option (List ℕ) → Option (List ℕ) → Content
after content at body adj =
    let rec = the_record content.lists at in
    record content { lists = lists_replaced (with_new_data body adj rec) content.lists }
