-- What the commands of a list structure with event queues mean: a function of what those on its records mean.
use Rattle.std.specs.Prelude.{ℕ, Bool, true, false, if◌then◌else◌, List, [], ◌∷◌, Option, None, Some}
use Rattle.cf_types.specs.declared.forms.Caps.{Caps}
use Rattle.cf_types.specs.declared.list_commands.ListCmd.{ListCmd}
use Rattle.cf_types.specs.declared.list_commands.ListReply.{ListReply}
use Rattle.cf_types.specs.declared.names.Key16.{Key16}
use Rattle.cf_types.specs.declared.numbers.ConnId.{ConnId}
use Rattle.cf_types.specs.declared.refusals.Refusal.{Refusal}
use Rattle.cf_types.specs.declared.refusals.Refusal.TheVariants as refusal
use Rattle.engine_api.specs.declared.shapes.Shape.{Shape}
use Rattle.engine_api.specs.Meaning.{Meaning, Outcome, Departure}
use Rattle.queue_model.specs.declared.items.Beside.{Beside}
use Rattle.queue_model.specs.declared.items.FirstItem.{FirstItem}
use Rattle.queue_model.specs.FirstItems.{items_with, place_with, unplace_with, need_with}
use Rattle.list_model.specs.Refusals.{sublist_refusal}
use Rattle.cf_types.specs.declared.list_commands.QueueCmd.{QueueCmd}
use Rattle.cf_types.specs.declared.list_commands.QueueCmd.TheVariants as queue
use Rattle.cf_types.specs.declared.list_commands.QueueReply.{QueueReply}
use Rattle.cf_types.specs.declared.list_commands.QueueReply.TheVariants as says
use Rattle.queue_model.specs.declared.subs.Sub.{Sub}
use Rattle.queue_model.specs.Queues.{Queued, Filled, no_queues, settled, left_by, has, monitored, unmonitored, first_of, taken}

-- the records, and the monitors and events of sublists
abbrev pub QueueState : Type 0 → Type 0
QueueState S = Beside S Queued

-- nothing is monitored
abbrev pub is_unmonitored : Queued → Bool
is_unmonitored queued = is_none_in queued.monitors
  where
    is_none_in : List Sub → Bool
    is_none_in [] = true
    is_none_in (x ∷ xs) = false

abbrev pub sub_of : ConnId → ℕ → Key16 → Sub
sub_of conn header key = record { conn = conn; header = header; key = key }

-- the caller's queue is empty
abbrev pub empty_refusal : Option Sub → Option Refusal
empty_refusal None = Some refusal.NoQueued
empty_refusal (Some sub) = None

-- (never where the queue is empty: the refusal above)
abbrev pub sub_told : Option Sub → QueueReply
sub_told None = says.Empty
sub_told (Some sub) = says.Sublist sub.header sub.key

abbrev pub quiet : {S : Type 0} → QueueReply → S → Queued → Outcome QueueReply (QueueState S)
quiet reply list queued = record { reply = reply; state = record { inner = list; more = queued }; letters = [] }

-- `filled` tells of contents which sublists have records
module _ {I S : Type 0} (filled : S → Filled) (inner : Meaning ListCmd ListReply I S) where
  abbrev pub queue_cause : Shape → Caps → QueueState S → ConnId → QueueCmd → Option Refusal
  queue_cause shape caps state by (queue.List cmd) = inner.cause shape caps state.inner by cmd
  queue_cause shape caps state by (queue.MonSub header key) = sublist_refusal shape header key
  queue_cause shape caps state by (queue.UnmonSub header key) = sublist_refusal shape header key
  queue_cause shape caps state by queue.Deq = empty_refusal (first_of by state.more)

  abbrev pub inner_done : QueueState S → Outcome ListReply S → Outcome QueueReply (QueueState S)
  inner_done state outcome =
      record {
        reply = says.List outcome.reply;
        state = record {
          inner = outcome.state;
          more = settled (filled state.inner) (filled outcome.state) state.more;
        };
        letters = outcome.letters;
      }

  abbrev pub queue_done : Shape → Caps → QueueState S → ConnId → QueueCmd → Outcome QueueReply (QueueState S)
  queue_done shape caps state by (queue.List cmd) = inner_done state (inner.done shape caps state.inner by cmd)
  queue_done shape caps state by (queue.MonSub header key) =
      quiet (if filled state.inner header key then says.NotEmpty else says.Empty) state.inner
      (monitored (filled state.inner header key) (sub_of by header key) state.more)
  queue_done shape caps state by (queue.UnmonSub header key) =
      quiet (says.Ok (if has state.more.monitors (sub_of by header key) then 1 else 0)) state.inner
      (unmonitored (sub_of by header key) state.more)
  queue_done shape caps state by queue.Deq =
      quiet (sub_told (first_of by state.more)) state.inner (taken (first_of by state.more) state.more)

  abbrev pub inner_left : ConnId → QueueState S → Departure S → Departure (QueueState S)
  inner_left conn state departure =
      record {
        state = record { inner = departure.state; more = left_by conn state.more };
        letters = departure.letters;
      }

  -- an item with all monitors and events stands in front, where something is monitored
  abbrev pub queue_meaning : Meaning QueueCmd QueueReply (FirstItem Queued I) (QueueState S)
  queue_meaning =
      record {
        empty = λ shape. record { inner = inner.empty shape; more = no_queues };
        cause = queue_cause;
        done = queue_done;
        leave = λ shape state conn keep. inner_left conn state (inner.leave shape state.inner conn keep);
        back = λ state conn. record state { inner = inner.back state.inner conn };
        forget = λ state. record state { inner = inner.forget state.inner };
        stands = λ state conn index. inner.stands state.inner conn index;
        items = items_with no_queues is_unmonitored inner;
        place = place_with no_queues is_unmonitored inner;
        unplace = unplace_with no_queues is_unmonitored inner;
        need = need_with no_queues is_unmonitored inner;
      }
