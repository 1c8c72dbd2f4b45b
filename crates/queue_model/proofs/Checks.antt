-- Calls on a list structure of which one connector monitors two sublists, computed: events come where sublists get
-- records, go where they lose them, and are taken in order.
use Rattle.std.proofs.Common.{◌≡◌, ℕ, false, List, [], ◌∷◌, Some, None, Result, Ok, Err, refl}
use Rattle.cf_types.specs.declared.forms.Caps.{Caps}
use Rattle.cf_types.specs.declared.forms.Kind.{Kind}
use Rattle.cf_types.specs.declared.forms.Refs.{Refs}
use Rattle.cf_types.specs.declared.list_commands.At.{At}
use Rattle.cf_types.specs.declared.list_commands.ListCmd.{ListCmd}
use Rattle.cf_types.specs.declared.list_commands.ListReply.{ListReply}
use Rattle.cf_types.specs.declared.names.Key16.{Key16}
use Rattle.cf_types.specs.declared.numbers.ConnId.{ConnId}
use Rattle.cf_types.specs.declared.numbers.EntryId.{EntryId}
use Rattle.cf_types.specs.declared.refusals.Refusal.{Refusal}
use Rattle.engine_api.specs.declared.shapes.Shape.{Shape}
use Rattle.engine_api.specs.Meaning.{step_result}
use Rattle.list_model.specs.Contents.{Content}
use Rattle.cf_types.specs.declared.list_commands.QueueCmd.{QueueCmd}
use Rattle.cf_types.specs.declared.list_commands.QueueReply.{QueueReply}
use Rattle.queue_model.specs.Meaning.{QueueState}
use Rattle.queue_model.specs.ListQueues.{queued_lists}

abbrev eight : Caps
eight = record { entries = 8; elements = 8 }

abbrev shape : Shape
shape = record { kind = Kind.List 2 0 Refs.Keys; caps = eight; conns = 4; vector = 32 }

abbrev replies : QueueState Content → List (ConnId × QueueCmd) → List (Result QueueReply Refusal)
replies state [] = []
replies state (call ∷ calls) =
    let step = step_result queued_lists (record { shape = shape; base = eight; caps = eight; state = state }) call.0 call.1
    in
    step.reply ∷ replies step.state calls

abbrev a : ConnId
a = record { 0 = 1 }

abbrev b : ConnId
b = record { 0 = 2 }

abbrev k1 : Key16
k1 = record { 0 = 107 ∷ 49 ∷ [] }

abbrev k2 : Key16
k2 = record { 0 = 107 ∷ 50 ∷ [] }

abbrev id : ℕ → EntryId
id n = record { 0 = n }

abbrev write : Key16 → QueueCmd
write key = QueueCmd.List (ListCmd.Write 0 false None (Some key) None None None)

abbrev told : ℕ → Result QueueReply Refusal
told n = Ok (QueueReply.List (ListReply.Id (id n)))

shared_queue : replies (queued_lists.empty shape) (
    (a, QueueCmd.MonSub 0 k1) ∷ (a, QueueCmd.MonSub 0 k2)
    ∷ (b, write k2) ∷ (b, write k1) ∷ (b, write k2)
    ∷ (a, QueueCmd.Deq) ∷ (a, QueueCmd.Deq) ∷ (a, QueueCmd.Deq)
    ∷ (b, QueueCmd.List (ListCmd.Move (At.Id (id 2)) 0 false (Some k2) None None))
    ∷ (b, write k1) ∷ (b, QueueCmd.List (ListCmd.Delete (At.Id (id 4)) None None))
    ∷ (a, QueueCmd.Deq) ∷ [])
    ≡ Ok QueueReply.Empty ∷ Ok QueueReply.Empty
    ∷ told 1 ∷ told 2 ∷ told 3
    ∷ Ok (QueueReply.Sublist 0 k2) ∷ Ok (QueueReply.Sublist 0 k1) ∷ Err Refusal.NoQueued
    ∷ Ok (QueueReply.List ListReply.Ok)
    ∷ told 4 ∷ told 4
    ∷ Err Refusal.NoQueued ∷ []
shared_queue = refl
