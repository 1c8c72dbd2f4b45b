-- After every history each queue has each monitored sublist once at most, and only sublists that have records.
use Rattle.std.proofs.Common.{◌≡◌, Bool, true, false, not, ◌&&◌, cond, List, [], ◌∷◌, ◌++◌, filter, Option, None, Some, refl, sym, ap, ◌∙◌}
use Rattle.std.proofs.lemmas.Bool.{and_parts, false≢true}
use Rattle.std.specs.List.{list_all}
use Rattle.cf_types.specs.declared.forms.Caps.{Caps}
use Rattle.cf_types.specs.declared.forms.StrForm.{StrForm}
use Rattle.cf_types.specs.declared.list_commands.ListCmd.{ListCmd}
use Rattle.cf_types.specs.declared.list_commands.ListReply.{ListReply}
use Rattle.cf_types.specs.declared.numbers.ConnId.{ConnId}
use Rattle.cf_lists.specs.Pairwise.{pairwise}
use Rattle.cf_lists.proofs.FilterLaws.{list_all_both, list_all_weaker, list_all-filter, list_all-filter_same}
use Rattle.cf_lists.proofs.PairwiseLaws.{pairwise-filter, pairwise_push, pairwise-insertion_any}
use Rattle.engine_api.specs.declared.histories.Entry.{Entry}
use Rattle.engine_api.specs.History.{replay}
use Rattle.engine_api.specs.Meaning.{Meaning}
use Rattle.engine_api.specs.Shapes.{shape_of}
use Rattle.shell_laws.proofs.Keeping.{IsKept}
use Rattle.shell_laws.proofs.ReplayLaws.{kept-replay}
use Rattle.cf_types.specs.declared.list_commands.QueueCmd.{QueueCmd}
use Rattle.cf_types.specs.declared.list_commands.QueueReply.{QueueReply}
use Rattle.queue_model.specs.declared.subs.Sub.{Sub}
use Rattle.queue_model.specs.Queues.{Queued, Filled, IsQueued, no_queues, is_filled, is_newly, stays, settled, is_of_other, left_by, has, is_other, stands_before, events_if, monitored, first_of, taken, in_turn, same_sub}
use Rattle.queue_model.specs.Meaning.{QueueState, queue_meaning, queue_done, sub_of}
use Rattle.queue_model.proofs.SubLaws.{no-if, same_sub-eq, knows, has-before, has-last, known-filter, both_ways, turned, turns-event, all-event, all-events, apart-events, turns-events, others}

-- ---- what is done to queues

-- fewer monitors, and events that are still monitored
pub queued_fewer : (filled : Filled) (q : Sub → Bool) (queued : Queued) → IsQueued filled queued
    → IsQueued filled (record { monitors = filter q queued.monitors; events = filter q queued.events })
queued_fewer filled q queued is = record {
  monitors = pairwise-filter is_other q queued.monitors is.monitors;
  events = pairwise-filter is_other q queued.events is.events;
  each_filled = list_all-filter (is_filled filled) q queued.events is.each_filled;
  known = known-filter q queued.monitors queued.events is.known;
  ordered = pairwise-filter in_turn q queued.events is.ordered;
}

pub queued_taken : (filled : Filled) (first : Option Sub) (queued : Queued) → IsQueued filled queued
    → IsQueued filled (taken first queued)
queued_taken filled None queued is = is
queued_taken filled (Some sub) queued is = record {
  monitors = is.monitors;
  events = pairwise-filter is_other (is_other sub) queued.events is.events;
  each_filled = list_all-filter (is_filled filled) (is_other sub) queued.events is.each_filled;
  known = list_all-filter (has queued.monitors) (is_other sub) queued.events is.known;
  ordered = pairwise-filter in_turn (is_other sub) queued.events is.ordered;
}

module _ (filled : Filled) (sub : Sub) (queued : Queued) (is : IsQueued filled queued)
    (none : has queued.monitors sub ≡ false) where
  -- a new monitor's sublist has no event yet
  pub no_event : list_all (is_other sub) queued.events ≡ true
  no_event = list_all_weaker (has queued.monitors) (is_other sub) (λ x known.
      no-if (same_sub sub x) (λ e. false≢true (sym none ∙ ap (has queued.monitors) (same_sub-eq sub x e) ∙ known)))
      queued.events is.known

  still_known : list_all (has (queued.monitors ++ sub ∷ [])) queued.events ≡ true
  still_known = list_all_weaker (has queued.monitors) (has (queued.monitors ++ sub ∷ []))
      (λ x known. has-before x queued.monitors (sub ∷ []) known) queued.events is.known

  one_more : pairwise is_other (queued.monitors ++ sub ∷ []) ≡ true
  one_more = pairwise_push is_other queued.monitors sub is.monitors
      (turned sub queued.monitors (others sub queued.monitors none))

  queued_new : (full : Bool) → is_filled filled sub ≡ full → IsQueued filled (record {
    monitors = queued.monitors ++ sub ∷ [];
    events = events_if full sub queued.events;
  })
  queued_new false empty = record {
    monitors = one_more;
    events = is.events;
    each_filled = is.each_filled;
    known = still_known;
    ordered = is.ordered;
  }
  queued_new true some = record {
    monitors = one_more;
    events = pairwise-insertion_any is_other (stands_before sub) sub queued.events is.events
        (both_ways sub queued.events no_event);
    each_filled = all-event (is_filled filled) queued.events sub some is.each_filled;
    known = all-event (has (queued.monitors ++ sub ∷ [])) queued.events sub (has-last sub queued.monitors) still_known;
    ordered = turns-event queued.events sub is.ordered;
  }

pub queued_monitored : (filled : Filled) (sub : Sub) (queued : Queued) → IsQueued filled queued
    → IsQueued filled (monitored (is_filled filled sub) sub queued)
queued_monitored filled sub queued is = go (has queued.monitors sub) refl
  where
    go : (b : Bool) → has queued.monitors sub ≡ b → IsQueued filled (cond b queued (record {
      monitors = queued.monitors ++ sub ∷ [];
      events = events_if (is_filled filled sub) sub queued.events;
    }))
    go true there = is
    go false none = queued_new filled sub queued is none (is_filled filled sub) refl

stays_filled : (a b : Bool) → not (a && not b) && a ≡ true → b ≡ true
stays_filled true true e = refl
stays_filled true false e = absurd (false≢true e)
stays_filled false b e = absurd (false≢true e)

-- what is newly filled isn't queued
pub not_new : (before after : Filled) (queued : Queued) → IsQueued before queued → (y : Sub)
    → is_newly before after y ≡ true → list_all (is_other y) queued.events ≡ true
not_new before after queued is y n = list_all_weaker (is_filled before) (is_other y) (λ x some.
    no-if (same_sub y x) (λ e. false≢true (sym (ap not (ap (is_filled before) (same_sub-eq y x e) ∙ some))
    ∙ (and_parts (not (is_filled before y)) (is_filled after y) n).0))) queued.events is.each_filled

-- behind a command on records
pub queued_settled : (before after : Filled) (queued : Queued) → IsQueued before queued
    → IsQueued after (settled before after queued)
queued_settled before after queued is =
    let kept : List Sub = filter (stays before after) queued.events in
    let new : List Sub = filter (is_newly before after) queued.monitors in
    record {
      monitors = is.monitors;
      events = apart-events kept new
          (pairwise-filter is_other (stays before after) queued.events is.events)
          (pairwise-filter is_other (is_newly before after) queued.monitors is.monitors)
          (list_all_weaker (is_newly before after) (λ y. list_all (is_other y) kept)
          (λ y n. list_all-filter (is_other y) (stays before after) queued.events (not_new before after queued is y n)) new
          (list_all-filter_same (is_newly before after) queued.monitors));
      each_filled = all-events (is_filled after) kept new
          (list_all_weaker (λ x. stays before after x && is_filled before x) (is_filled after)
          (λ x both. stays_filled (is_filled before x) (is_filled after x) both) kept
          (list_all_both (stays before after) (is_filled before) kept
          (list_all-filter_same (stays before after) queued.events)
          (list_all-filter (is_filled before) (stays before after) queued.events is.each_filled)))
          (list_all_weaker (is_newly before after) (is_filled after)
          (λ y n. (and_parts (not (is_filled before y)) (is_filled after y) n).1) new
          (list_all-filter_same (is_newly before after) queued.monitors));
      known = all-events (has queued.monitors) kept new
          (list_all-filter (has queued.monitors) (stays before after) queued.events is.known)
          (list_all-filter (has queued.monitors) (is_newly before after) queued.monitors (knows queued.monitors));
      ordered = turns-events kept new (pairwise-filter in_turn (stays before after) queued.events is.ordered);
    }

-- where nothing is monitored there are no queues
pub queued_none : (filled : Filled) (queued : Queued) → IsQueued filled queued → queued.monitors ≡ []
    → queued ≡ no_queues
queued_none filled queued is none = go queued.monitors queued.events none is.known
  where
    go : (monitors events : List Sub) → monitors ≡ [] → list_all (has monitors) events ≡ true
        → Path Queued (record { monitors = monitors; events = events }) no_queues
    go [] [] e known = refl
    go [] (x ∷ events) e known = absurd (false≢true known)
    go (x ∷ monitors) events e known = absurd cc

-- ---- after every history

-- departures, returns and the end of registrations leave each sublist its records
pub record KeepsSublists {I S : Type 0} (filled : S → Filled) (inner : Meaning ListCmd ListReply I S) (form : StrForm) :
    Type 0 where
  pub unregistered : inner.forget (inner.empty (shape_of form)) ≡ inner.empty (shape_of form)
  pub leaves : (state : S) (conn : ConnId) (keep : Bool) (sub : Sub)
      → is_filled (filled (inner.leave (shape_of form) state conn keep).state) sub ≡ is_filled (filled state) sub
  pub returns : (state : S) (conn : ConnId) (sub : Sub)
      → is_filled (filled (inner.back state conn)) sub ≡ is_filled (filled state) sub
  pub forgets : (state : S) (sub : Sub) → is_filled (filled (inner.forget state)) sub ≡ is_filled (filled state) sub

module _ {I S : Type 0} (filled : S → Filled) (inner : Meaning ListCmd ListReply I S) (form : StrForm)
    (keeps : KeepsSublists filled inner form) where
  abbrev Holds : QueueState S → Type 0
  Holds state = IsQueued (filled state.inner) state.more

  -- sublists that have records in one content and in the other
  refilled : (one other : Filled) (queued : Queued) → ((sub : Sub) → is_filled other sub ≡ is_filled one sub)
      → IsQueued one queued → IsQueued other queued
  refilled one other queued equal is = record {
    monitors = is.monitors;
    events = is.events;
    each_filled = list_all_weaker (is_filled one) (is_filled other) (λ x e. equal x ∙ e) queued.events is.each_filled;
    known = is.known;
    ordered = is.ordered;
  }

  holds_done : (caps : Caps) (state : QueueState S) (by : ConnId) (command : QueueCmd) → Holds state
      → Holds (queue_done filled inner (shape_of form) caps state by command).state
  holds_done caps state by (QueueCmd.List cmd) is =
      queued_settled (filled state.inner) (filled (inner.done (shape_of form) caps state.inner by cmd).state) state.more
      is
  holds_done caps state by (QueueCmd.MonSub header key) is =
      queued_monitored (filled state.inner) (sub_of by header key) state.more is
  holds_done caps state by (QueueCmd.UnmonSub header key) is =
      queued_fewer (filled state.inner) (is_other (sub_of by header key)) state.more is
  holds_done caps state by QueueCmd.Deq is =
      queued_taken (filled state.inner) (first_of by state.more) state.more is

  pub queues-kept : IsKept (queue_meaning filled inner) form Holds
  queues-kept = record {
    empty = record { monitors = refl; events = refl; each_filled = refl; known = refl; ordered = refl };
    done = λ caps state by command none is. holds_done caps state by command is;
    leave = λ state conn keep is. refilled (filled state.inner) _ (left_by conn state.more)
        (keeps.leaves state.inner conn keep)
        (queued_fewer (filled state.inner) (is_of_other conn) state.more is);
    back = λ state conn is. refilled (filled state.inner) _ state.more (keeps.returns state.inner conn) is;
    forget = λ state is. refilled (filled state.inner) _ state.more (keeps.forgets state.inner) is;
  }

  pub unregistered : (queue_meaning filled inner).forget ((queue_meaning filled inner).empty (shape_of form))
      ≡ (queue_meaning filled inner).empty (shape_of form)
  unregistered =
      let bare : S → QueueState S = λ (s : S). record { inner = s; more = no_queues } in ap bare keeps.unregistered

  pub queues-replay : (history : List (Entry QueueCmd QueueReply))
      → Holds (replay (queue_meaning filled inner) form history).content
  queues-replay history = kept-replay (queue_meaning filled inner) form unregistered Holds queues-kept history
