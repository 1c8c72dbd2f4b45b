-- LOCK TEST: who holds a list lock.
use Rattle.std.specs.Prelude.{ℕ, List, [], ◌∷◌, Option}
use Rattle.cf_types.specs.declared.list_commands.ListReply.{ListReply}
use Rattle.cf_types.specs.declared.list_commands.ListReply.TheVariants as replies
use Rattle.cf_types.specs.declared.refusals.Refusal.{Refusal}
use Rattle.engine_api.specs.declared.shapes.Shape.{Shape}
use Rattle.list_model.specs.Contents.{Content, locks_of, holder_of}
use Rattle.list_model.specs.Refusals.{lock_refusal}

abbrev pub causes : Shape → ℕ → List (Option Refusal)
causes shape lock = lock_refusal (locks_of shape.kind) lock ∷ []

abbrev pub reply : Content → ℕ → ListReply
reply content lock = replies.Holder (holder_of lock content.locks)
