-- What a command on records leaves, where the queues are turned with it.
use Rattle.std.proofs.Common.{◌≡◌, Bool, true, false, Option, None, Some, Result, Ok, Err, refl, sym, ap, ◌∙◌}
use Rattle.std.proofs.lemmas.Bool.{false≢true}
use Rattle.cf_types.specs.declared.list_commands.ListCmd.{ListCmd}
use Rattle.cf_types.specs.declared.list_commands.ListReply.{ListReply}
use Rattle.cf_types.specs.declared.list_commands.QueueCmd.TheVariants as queue
use Rattle.cf_types.specs.declared.list_commands.QueueReply.{QueueReply}
use Rattle.cf_types.specs.declared.list_commands.QueueReply.TheVariants as says
use Rattle.cf_types.specs.declared.numbers.ConnId.{ConnId}
use Rattle.cf_types.specs.declared.refusals.Refusal.{Refusal}
use Rattle.engine_api.specs.Meaning.{Answer, Held, answer, unless_refused}
use Rattle.list_model.specs.Contents.{Content, IsContent}
use Rattle.list_model.specs.Meaning.{list_meaning}
use Rattle.list_queues.specs.EngineView.{held_with}
use Rattle.queue_model.specs.declared.subs.Queued.{Queued}
use Rattle.queue_model.specs.ListQueues.{queued_lists}
use Rattle.queue_model.specs.Meaning.{QueueState}
use Rattle.queue_model.specs.Turns.{turned, turn_for}
use Rattle.queue_model.proofs.TurnLaws.{settled-turned}

pub list_step : (held new : Held Content) (queued : Queued) (by : ConnId) (cmd : ListCmd) (reply : ListReply)
    → IsContent held.shape held.caps held.state
    → Path (Answer ListReply Content) (record { reply = Ok reply; held = new }) (answer list_meaning held by cmd)
    → Path (Answer QueueReply (QueueState Content))
    (record {
      reply = Ok (says.List reply);
      held = held_with (turned new.state.lists (turn_for queued held.state cmd) queued) new;
    }) (answer queued_lists (held_with queued held) by (queue.List cmd))
list_step held new queued by cmd reply content told =
    go (list_meaning.cause held.shape held.caps held.state by cmd) refl
  where
    at : ListReply → Held Content → Queued → Answer QueueReply (QueueState Content)
    at r h q = record { reply = Ok (says.List r); held = held_with q h }

    reply_of : Answer ListReply Content → ListReply
    reply_of a = told_by a.reply
      where
        told_by : Result ListReply Refusal → ListReply
        told_by (Ok r) = r
        told_by (Err e) = reply

    is_done : Answer ListReply Content → Bool
    is_done a = told_by a.reply
      where
        told_by : Result ListReply Refusal → Bool
        told_by (Ok r) = true
        told_by (Err e) = false

    listed : Option Refusal → Answer ListReply Content
    listed cause =
        let step = unless_refused cause held.state (list_meaning.done held.shape held.caps held.state by cmd) in
        record { reply = step.reply; held = record held { state = step.state } }

    queues_listed : Option Refusal → Answer QueueReply (QueueState Content)
    queues_listed cause =
        let state : QueueState Content = record { inner = held.state; more = queued } in
        let step = unless_refused cause state (queued_lists.done held.shape held.caps state by (queue.List cmd)) in
        record { reply = step.reply; held = record (held_with queued held) { state = step.state } }

    go : (cause : Option Refusal) → list_meaning.cause held.shape held.caps held.state by cmd ≡ cause
        → at reply new (turned new.state.lists (turn_for queued held.state cmd) queued)
        ≡ answer queued_lists (held_with queued held) by (queue.List cmd)
    go (Some refusal) some = absurd (false≢true (sym (ap is_done (told ∙ ap listed some))))
    go None none =
        let done = list_meaning.done held.shape held.caps held.state by cmd in
        let behind : Held Content = record held { state = done.state } in
        let is : Path (Answer ListReply Content) (record { reply = Ok reply; held = new }) (listed None) =
        told ∙ ap listed none in
        let held_is : new ≡ behind = ap (λ (a : Answer ListReply Content). a.held) is in
        let reply_is : reply ≡ done.reply = ap reply_of is in
        ap (λ (r : ListReply). at r new (turned new.state.lists (turn_for queued held.state cmd) queued)) reply_is
        ∙ ap (λ (h : Held Content). at done.reply h (turned h.state.lists (turn_for queued held.state cmd) queued)) held_is
        ∙ ap (λ (q : Queued). at done.reply behind q)
        (sym (settled-turned held.shape held.caps held.state by cmd queued content none))
        ∙ ap queues_listed (sym none)
