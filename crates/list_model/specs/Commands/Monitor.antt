-- MONITOR: the caller's monitor of a header stands at the index alone.
use Rattle.std.specs.Prelude.{ℕ, if◌then◌else◌, List, [], ◌∷◌, Option}
use Rattle.cf_types.specs.declared.list_commands.ListReply.{ListReply}
use Rattle.cf_types.specs.declared.list_commands.ListReply.TheVariants as replies
use Rattle.cf_types.specs.declared.numbers.ConnId.{ConnId}
use Rattle.cf_types.specs.declared.refusals.Refusal.{Refusal}
use Rattle.engine_api.specs.declared.shapes.Shape.{Shape}
use Rattle.list_watch.specs.Monitors.{monitors_with}
use Rattle.list_model.specs.Contents.{Content, headers_of, has_records}
use Rattle.list_model.specs.Refusals.{header_refusal, index_refusal, in_use_refusal}

abbrev pub causes : Shape → Content → ConnId → ℕ → ℕ → List (Option Refusal)
causes shape content by header index =
    header_refusal (headers_of shape.kind) header ∷ index_refusal shape.vector index
    ∷ in_use_refusal content.monitors by index header ∷ []

abbrev pub reply : Content → ℕ → ListReply
reply content header = if has_records content.lists header then replies.NotEmpty else replies.Empty

abbrev pub after : Content → ConnId → ℕ → ℕ → Content
after content by header index =
    record content { monitors = monitors_with by index header content.monitors }
