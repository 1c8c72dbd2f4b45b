-- LOCK RESET: the caller gives a list lock back.
use Rattle.std.specs.Prelude.{ℕ, List, [], ◌∷◌, Option, None, set}
use Rattle.cf_types.specs.declared.numbers.ConnId.{ConnId}
use Rattle.cf_types.specs.declared.refusals.Refusal.{Refusal}
use Rattle.engine_api.specs.declared.shapes.Shape.{Shape}
use Rattle.list_model.specs.Contents.{Content, locks_of, holder_of}
use Rattle.list_model.specs.Refusals.{lock_refusal, not_held_refusal}

abbrev pub causes : Shape → Content → ConnId → ℕ → List (Option Refusal)
causes shape content by lock =
    lock_refusal (locks_of shape.kind) lock
    ∷ not_held_refusal by (holder_of lock content.locks) ∷ []

abbrev pub after : Content → ℕ → Content
after content lock = record content { locks = set content.locks lock None }
