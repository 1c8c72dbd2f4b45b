-- READ: a record with its version, and the header that it is in.
use Rattle.std.specs.Prelude.{List, [], ◌∷◌, Option}
use Rattle.cf_types.specs.declared.list_commands.At.{At}
use Rattle.cf_types.specs.declared.list_commands.Cond.{Cond}
use Rattle.cf_types.specs.declared.list_commands.ListReply.{ListReply}
use Rattle.cf_types.specs.declared.list_commands.ListReply.TheVariants as replies
use Rattle.cf_types.specs.declared.numbers.ConnId.{ConnId}
use Rattle.cf_types.specs.declared.refusals.Refusal.{Refusal}
use Rattle.engine_api.specs.declared.shapes.Shape.{Shape}
use Rattle.list_model.specs.Lists.{header_of, record_at, the_record}
use Rattle.list_model.specs.Contents.{Content, headers_of, locks_of, refs_of}
use Rattle.list_model.specs.Refusals.{cond_lock_refusal, cond_refusal, ref_header_refusal, ref_form_refusal, record_refusal}

abbrev pub causes : Shape → Content → ConnId → At → Option Cond → List (Option Refusal)
causes shape content by at cond =
    cond_lock_refusal (locks_of shape.kind) cond ∷ cond_refusal content.locks by cond
    ∷ ref_header_refusal (headers_of shape.kind) at ∷ ref_form_refusal (refs_of shape.kind) at
    ∷ record_refusal (record_at content.lists at) ∷ []

abbrev pub reply : Content → At → ListReply
reply content at =
    let rec = the_record content.lists at in
    replies.Entry rec.id (header_of rec.id content.lists) rec.version rec.name rec.key rec.body rec.adj
