-- WRITE: a new record, of version 1, at its place in a header.
use Rattle.std.specs.Prelude.{ℕ, ◌+◌, Bool, List, [], ◌∷◌, Option}
use Rattle.cf_types.specs.declared.forms.Caps.{Caps}
use Rattle.cf_types.specs.declared.list_commands.Cond.{Cond}
use Rattle.cf_types.specs.declared.list_commands.ListReply.{ListReply}
use Rattle.cf_types.specs.declared.list_commands.ListReply.TheVariants as replies
use Rattle.cf_types.specs.declared.names.Key16.{Key16}
use Rattle.cf_types.specs.declared.names.Name16.{Name16}
use Rattle.cf_types.specs.declared.numbers.ConnId.{ConnId}
use Rattle.cf_types.specs.declared.numbers.EntryId.{EntryId}
use Rattle.cf_types.specs.declared.refusals.Refusal.{Refusal}
use Rattle.engine_api.specs.declared.shapes.Shape.{Shape}
use Rattle.list_store.specs.Record.{Record}
use Rattle.list_store.specs.Lists.{all_records}
use Rattle.list_model.specs.Records.{elements_of}
use Rattle.list_model.specs.Lists.{with_record}
use Rattle.list_model.specs.Contents.{Content, headers_of, locks_of, refs_of}
use Rattle.list_model.specs.Refusals.{cond_lock_refusal, cond_refusal, header_refusal, reference_refusal, name_refusal, full_refusal, entries_refusal, elements_refusal}

abbrev pub causes : Shape → Caps → Content → ConnId → ℕ → Option Name16 → Option Key16 → Option (List ℕ)
    → Option Cond → List (Option Refusal)
causes shape caps content by header name key body cond =
    let recs = all_records content.lists in
    cond_lock_refusal (locks_of shape.kind) cond ∷ cond_refusal content.locks by cond
    ∷ header_refusal (headers_of shape.kind) header
    ∷ reference_refusal (refs_of shape.kind) name key
    ∷ name_refusal recs name ∷ full_refusal content header ∷ entries_refusal caps recs
    ∷ elements_refusal caps (elements_of body) recs ∷ []

-- the id that is next
abbrev pub new_id : Content → EntryId
new_id content = record { 0 = content.next }

abbrev pub reply : Content → ListReply
reply content = replies.Id (new_id content)

abbrev pub new_record : Content → Option Name16 → Option Key16 → Option (List ℕ) → Option (List ℕ)
    → Record
new_record content name key body adj =
    record { id = new_id content; version = 1; name = name; key = key; body = body; adj = adj }

abbrev pub after : Content → ℕ → Bool → Option Name16 → Option Key16 → Option (List ℕ)
    → Option (List ℕ) → Content
after content header head name key body adj =
    record content {
      lists = with_record head header (new_record content name key body adj) content.lists;
      next = content.next + 1;
    }
