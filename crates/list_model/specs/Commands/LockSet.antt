-- LOCK SET: the caller takes a list lock that nobody holds.
use Rattle.std.specs.Prelude.{ℕ, List, [], ◌∷◌, Option, Some, set}
use Rattle.cf_types.specs.declared.numbers.ConnId.{ConnId}
use Rattle.cf_types.specs.declared.refusals.Refusal.{Refusal}
use Rattle.engine_api.specs.declared.shapes.Shape.{Shape}
use Rattle.list_model.specs.Contents.{Content, locks_of, holder_of}
use Rattle.list_model.specs.Refusals.{lock_refusal, held_refusal}

abbrev pub causes : Shape → Content → ℕ → List (Option Refusal)
causes shape content lock =
    lock_refusal (locks_of shape.kind) lock ∷ held_refusal (holder_of lock content.locks) ∷ []

abbrev pub after : Content → ConnId → ℕ → Content
after content by lock = record content { locks = set content.locks lock (Some by) }
