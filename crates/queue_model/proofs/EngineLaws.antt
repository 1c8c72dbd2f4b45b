-- The laws of an engine of list structures with event queues.
use Rattle.std.proofs.Common.{◌≡◌, ℕ, ◌++◌, ◌∷◌, [], Bool, true, false, cond, List, Option, None, Some, refl, ap, filter}
use Rattle.std.specs.List.{list_all}
use Rattle.cf_lists.proofs.FilterLaws.{list_all_weaker, list_all-filter}
use Rattle.cf_types.specs.Forms.{is_list}
use Rattle.cf_types.specs.declared.forms.Caps.{Caps}
use Rattle.cf_types.specs.declared.list_commands.ListCmd.{ListCmd}
use Rattle.cf_types.specs.declared.list_commands.QueueCmd.{QueueCmd}
use Rattle.cf_types.specs.declared.names.Key16.{Key16}
use Rattle.cf_types.specs.declared.numbers.ConnId.{ConnId}
use Rattle.engine_api.specs.Items.{IsNoMore, IsNoMoreOf}
use Rattle.engine_api.specs.declared.shapes.Shape.{Shape}
use Rattle.list_model.specs.Contents.{Content, IsContent}
use Rattle.list_model.specs.Meaning.{list_meaning}
use Rattle.list_model.specs.declared.items.ListItem.{ListItem}
use Rattle.list_model.proofs.ContentLaws.{content-done}
use Rattle.list_model.proofs.EngineLaws.{content-nothing, items-nothing, leave-content, list-fronts, need-front, need-leave}
use Rattle.queue_model.specs.FirstItems.{inners}
use Rattle.queue_model.specs.ListQueues.{filled_in, queued_lists, IsQueuedContent}
use Rattle.queue_model.specs.Meaning.{QueueState, is_unmonitored, sub_of}
use Rattle.queue_model.specs.Queues.{Filled, Queued, AreKnown, no_queues, is_newly, stays, settled, is_of_other, has, is_other, events_if, monitored, first_of, taken}
use Rattle.queue_model.specs.declared.items.FirstItem.{FirstItem}
use Rattle.queue_model.specs.declared.subs.Sub.{Sub}
use Rattle.queue_model.proofs.FirstLaws as sides
use Rattle.queue_model.proofs.ItemLaws.{told, none_known, queued-need}
use Rattle.queue_model.proofs.SubLaws.{knows, has-before, has-last, known-filter, all-event, all-events}

-- ---- each event stays one of a sublist that is monitored

known_settled : (before after : Filled) (queued : Queued) → AreKnown queued → AreKnown (settled before after queued)
known_settled before after queued is = all-events (has queued.monitors) (filter (stays before after) queued.events)
    (filter (is_newly before after) queued.monitors)
    (list_all-filter (has queued.monitors) (stays before after) queued.events is)
    (list_all-filter (has queued.monitors) (is_newly before after) queued.monitors (knows queued.monitors))

known_more : (queued : Queued) (sub : Sub) → AreKnown queued
    → list_all (has (queued.monitors ++ sub ∷ [])) queued.events ≡ true
known_more queued sub is = list_all_weaker (has queued.monitors) (has (queued.monitors ++ sub ∷ []))
    (λ x known. has-before x queued.monitors (sub ∷ []) known) queued.events is

known_event : (full : Bool) (queued : Queued) (sub : Sub) → AreKnown queued
    → list_all (has (queued.monitors ++ sub ∷ [])) (events_if full sub queued.events) ≡ true
known_event true queued sub is = all-event (has (queued.monitors ++ sub ∷ [])) queued.events sub
    (has-last sub queued.monitors) (known_more queued sub is)
known_event false queued sub is = known_more queued sub is

known_monitored : (full : Bool) (sub : Sub) (queued : Queued) → AreKnown queued
    → AreKnown (monitored full sub queued)
known_monitored full sub queued is = go (has queued.monitors sub)
  where
    go : (b : Bool) → AreKnown (cond b queued (record {
      monitors = queued.monitors ++ sub ∷ [];
      events = events_if full sub queued.events;
    }))
    go true = is
    go false = known_event full queued sub is

known_taken : (first : Option Sub) (queued : Queued) → AreKnown queued → AreKnown (taken first queued)
known_taken None queued is = is
known_taken (Some sub) queued is = list_all-filter (has queued.monitors) (is_other sub) queued.events is

-- ---- contents

pub queued-nothing : (shape : Shape) (caps : Caps) → IsQueuedContent shape caps (queued_lists.empty shape)
queued-nothing shape caps = record { inner = content-nothing shape caps; kept = none_known }

pub queued-done : (shape : Shape) (caps : Caps) (state : QueueState Content) (by : ConnId) (cmd : QueueCmd)
    → IsQueuedContent shape caps state → queued_lists.cause shape caps state by cmd ≡ None
    → IsQueuedContent shape caps (queued_lists.done shape caps state by cmd).state
queued-done shape caps state by (QueueCmd.List cmd) is none = record {
  inner = content-done shape caps state.inner by cmd is.inner none;
  kept = known_settled (filled_in state.inner)
      (filled_in (list_meaning.done shape caps state.inner by cmd).state) state.more is.kept;
}
queued-done shape caps state by (QueueCmd.MonSub header key) is none = record {
  inner = is.inner;
  kept = known_monitored (filled_in state.inner header key) (sub_of by header key) state.more is.kept;
}
queued-done shape caps state by (QueueCmd.UnmonSub header key) is none = record {
  inner = is.inner;
  kept = known-filter (is_other (sub_of by header key)) state.more.monitors state.more.events is.kept;
}
queued-done shape caps state by QueueCmd.Deq is none =
    record { inner = is.inner; kept = known_taken (first_of by state.more) state.more is.kept }

pub queued-leave : (shape : Shape) (caps : Caps) (state : QueueState Content) (conn : ConnId) (keep : Bool)
    → IsQueuedContent shape caps state
    → IsQueuedContent shape caps (queued_lists.leave shape state conn keep).state
queued-leave shape caps state conn keep is = record {
  inner = leave-content shape caps state.inner conn keep is.inner;
  kept = known-filter (is_of_other conn) state.more.monitors state.more.events is.kept;
}

pub queued-back : (shape : Shape) (caps : Caps) (state : QueueState Content) (conn : ConnId)
    → IsQueuedContent shape caps state → IsQueuedContent shape caps (queued_lists.back state conn)
queued-back shape caps state conn is = record { inner = is.inner; kept = is.kept }

-- ---- items

pub queued-items-nothing : (shape : Shape) → queued_lists.items shape (queued_lists.empty shape) ≡ []
queued-items-nothing shape =
    ap (λ (items : List ListItem). inners {X = Queued} items) (items-nothing shape)

pub queued-need-first : (items others : List (FirstItem Queued ListItem))
    → IsNoMore (queued_lists.need items) (queued_lists.need (items ++ others))
queued-need-first = sides.need-first no_queues is_unmonitored refl AreKnown none_known told list_meaning is_list
    IsContent list-fronts need-front

pub queued-need-leave : (shape : Shape) (state : QueueState Content) (conn : ConnId) (keep : Bool)
    → IsNoMoreOf shape.kind
    (queued_lists.need (queued_lists.items shape (queued_lists.leave shape state conn keep).state))
    (queued_lists.need (queued_lists.items shape state))
queued-need-leave shape state conn keep =
    rw (queued-need shape (queued_lists.leave shape state conn keep).state, queued-need shape state)
    (need-leave shape state.inner conn keep)

-- ---- by cases on a command

pub queue-cases : (P : QueueCmd → Type 0) → ((cmd : ListCmd) → P (QueueCmd.List cmd))
    → ((header : ℕ) (key : Key16) → P (QueueCmd.MonSub header key))
    → ((header : ℕ) (key : Key16) → P (QueueCmd.UnmonSub header key)) → P QueueCmd.Deq
    → (cmd : QueueCmd) → P cmd
queue-cases P list monitor unmonitor dequeue (QueueCmd.List cmd) = list cmd
queue-cases P list monitor unmonitor dequeue (QueueCmd.MonSub header key) = monitor header key
queue-cases P list monitor unmonitor dequeue (QueueCmd.UnmonSub header key) = unmonitor header key
queue-cases P list monitor unmonitor dequeue QueueCmd.Deq = dequeue
