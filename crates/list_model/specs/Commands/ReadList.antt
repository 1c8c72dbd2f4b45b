-- READLIST: the ids of a header's records, in order.
use Rattle.std.specs.Prelude.{ℕ, List, [], ◌∷◌, Option, map}
use Rattle.cf_types.specs.declared.list_commands.ListReply.{ListReply}
use Rattle.cf_types.specs.declared.list_commands.ListReply.TheVariants as replies
use Rattle.cf_types.specs.declared.refusals.Refusal.{Refusal}
use Rattle.engine_api.specs.declared.shapes.Shape.{Shape}
use Rattle.list_store.specs.Lists.{records_of}
use Rattle.list_model.specs.Contents.{Content, headers_of}
use Rattle.list_model.specs.Refusals.{header_refusal}

abbrev pub causes : Shape → ℕ → List (Option Refusal)
causes shape header = header_refusal (headers_of shape.kind) header ∷ []

abbrev pub reply : Content → ℕ → ListReply
reply content header = replies.Ids (map (λ rec. rec.id) (records_of content.lists header))
