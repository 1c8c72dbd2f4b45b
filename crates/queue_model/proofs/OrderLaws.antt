-- An entry keeps the order of each queue: what comes is put behind what stays.
use Rattle.std.proofs.Common.{arith, ◌≡◌, Bool, true, false, cond, List, [], ◌∷◌, ◌++◌, append_assoc, append-nil, filter, fold, Option, None, Some, refl, sym, ap, subst, ◌∙◌}
use Rattle.std.proofs.lemmas.Bool.{and_from, and_parts, eqb-true}
use Rattle.std.proofs.lemmas.List.Folds.{list_all-append}
use Rattle.std.proofs.lemmas.Bool.Decides.{nat_tests}
use Rattle.std.specs.List.{list_all}
use Rattle.cf_types.specs.declared.forms.StrForm.{StrForm}
use Rattle.cf_types.specs.declared.list_commands.ListCmd.{ListCmd}
use Rattle.cf_types.specs.declared.list_commands.ListReply.{ListReply}
use Rattle.cf_types.specs.declared.numbers.ConnId.{ConnId}
use Rattle.cf_lists.specs.Pairwise.{pairwise}
use Rattle.cf_lists.proofs.EntryPlaceLaws.{filter-insertion_in, insertion_behind}
use Rattle.cf_lists.proofs.FilterLaws.{filter_all, filter_nothing, filter_swap, list_all_always, list_all_weaker, list_all-filter, list_all-filter_same}
use Rattle.cf_lists.proofs.InsertionLaws.{filter-insertion_out}
use Rattle.cf_lists.proofs.PairwiseLaws.{pairwise-filter}
use Rattle.engine_api.specs.declared.{asks.Reply.Reply, asks.What.What}
use Rattle.engine_api.specs.History.{after_what, replay}
use Rattle.engine_api.specs.Machine.{Machine}
use Rattle.engine_api.specs.Meaning.{Meaning}
use Rattle.engine_api.specs.Shapes.{shape_of}
use Rattle.engine_api.proofs.HistoryLaws.{replay-push}
use Rattle.shell_laws.proofs.Answered.{reply_for}
use Rattle.shell_laws.proofs.Changes.{changed}
use Rattle.shell_laws.proofs.Moves.{Move, Change}
use Rattle.shell_laws.proofs.Moves.Change.{Done, Quiet}
use Rattle.shell_laws.proofs.Moves.Move.{Same, Left, Returned, Forgotten, Cleared}
use Rattle.queue_model.specs.declared.items.FirstItem.{FirstItem}
use Rattle.cf_types.specs.declared.list_commands.QueueCmd.{QueueCmd}
use Rattle.cf_types.specs.declared.list_commands.QueueReply.{QueueReply}
use Rattle.queue_model.specs.declared.subs.Sub.{Sub}
use Rattle.queue_model.specs.Orders.{IsLater, queue_of}
use Rattle.queue_model.specs.Queues.{Queued, Filled, IsQueued, has, in_turn, is_by, is_newly, is_of_other, is_other, stays, stands_before, with_event, events_if, monitored, first_of, taken}
use Rattle.queue_model.specs.Meaning.{QueueState, queue_meaning, queue_done, sub_of}
use Rattle.queue_model.specs.Renewals.{QueueEntry}
use Rattle.queue_model.proofs.SubLaws.{turns-event}
use Rattle.queue_model.proofs.QueueLaws.{KeepsSublists, no_event, not_new, queues-replay, unregistered}

-- ---- events that come

past : (conn : ConnId) (x : Sub) → is_by conn x ≡ true → (y z : Sub) → stands_before x y ≡ false
    → is_by conn y ≡ false → in_turn y z ≡ true → is_by conn z ≡ false
past conn x by y z behind other turn = grind (arith, nat_tests, eqb-true)

ahead : (conn : ConnId) (x : Sub) → is_by conn x ≡ true → (y : Sub) → is_by conn y ≡ true → stands_before x y ≡ true
ahead conn x by y same = grind (arith, nat_tests, eqb-true)

one_event : (conn : ConnId) (events : List Sub) (x : Sub) → pairwise in_turn events ≡ true
    → filter (is_by conn) (with_event events x) ≡ filter (is_by conn) events ++ filter (is_by conn) (x ∷ [])
one_event conn events x turns = go (is_by conn x) refl
  where
    go : (b : Bool) → is_by conn x ≡ b
        → filter (is_by conn) (with_event events x) ≡ filter (is_by conn) events ++ cond b (x ∷ []) []
    go true by = filter-insertion_in in_turn (is_by conn) (stands_before x) x events by (past conn x by) turns
        ∙ insertion_behind (stands_before x) x (filter (is_by conn) events) (list_all_weaker (is_by conn)
        (stands_before x) (ahead conn x by) (filter (is_by conn) events) (list_all-filter_same (is_by conn) events))
    go false other = filter-insertion_out (is_by conn) (stands_before x) x events other
        ∙ sym (append-nil (filter (is_by conn) events))

record Comes (conn : ConnId) (events coming after : List Sub) : Type 0 where
  new : List Sub
  among : (p : Sub → Bool) → list_all p coming ≡ true → list_all p new ≡ true
  is : filter (is_by conn) after ≡ filter (is_by conn) events ++ new

all_events : (conn : ConnId) (events new : List Sub) → pairwise in_turn events ≡ true
    → Comes conn events new (fold with_event events new)
all_events conn events [] turns = record {
  new = [];
  among = λ p h. refl;
  is = sym (append-nil (filter (is_by conn) events));
}
all_events conn events (x ∷ xs) turns =
    let rest = all_events conn (with_event events x) xs (turns-event events x turns) in
    let mine : List Sub = filter (is_by conn) (x ∷ []) in
    record {
      new = mine ++ rest.new;
      among = λ p h.
          let parts = and_parts (p x) (list_all p xs) h in list_all-append p mine rest.new
          ∙ and_from (list_all p mine) (list_all p rest.new) (list_all-filter p (is_by conn) (x ∷ [])
          (and_from (p x) true parts.0 refl)) (rest.among p parts.1);
      is = rest.is ∙ ap (λ (l : List Sub). l ++ rest.new) (one_event conn events x turns)
          ∙ append_assoc (filter (is_by conn) events) mine rest.new;
    }

-- ---- what becomes of a queue

module _ (conn : ConnId) where
  abbrev Later : (before after : Queued) → Type 0
  Later before after = IsLater (queue_of conn before) (queue_of conn after)

  same : (before after : Queued) → after.events ≡ before.events → Later before after
  same before after e = record {
    stays = λ x. true;
    new = [];
    fresh = refl;
    is = ap (λ (l : List Sub). filter (is_by conn) l) e
        ∙ sym (append-nil (filter (λ (x : Sub). true) (queue_of conn before))
        ∙ filter_all (λ (x : Sub). true) (queue_of conn before)
        (list_all_always (λ (x : Sub). true) (λ x. refl) (queue_of conn before)));
  }

  -- some stay, and others come
  come : (before after : Queued) (q : Sub → Bool) (new : List Sub) → pairwise in_turn before.events ≡ true
      → list_all (λ x. list_all (is_other x) before.events) new ≡ true
      → after.events ≡ fold with_event (filter q before.events) new → Later before after
  come before after q new turns apart e =
      let comes = all_events conn (filter q before.events) new (pairwise-filter in_turn q before.events turns) in
      record {
        stays = q;
        new = comes.new;
        fresh = comes.among (λ x. list_all (is_other x) (queue_of conn before))
            (list_all_weaker (λ x. list_all (is_other x) before.events)
            (λ x. list_all (is_other x) (queue_of conn before))
            (λ x h. list_all-filter (is_other x) (is_by conn) before.events h) new apart);
        is = ap (λ (l : List Sub). filter (is_by conn) l) e ∙ comes.is
            ∙ ap (λ (l : List Sub). l ++ comes.new) (filter_swap (is_by conn) q before.events);
      }

  by_monitor : (before : Queued) (full : Bool) (sub : Sub) → pairwise in_turn before.events ≡ true
      → (has before.monitors sub ≡ false → list_all (is_other sub) before.events ≡ true)
      → Later before (monitored full sub before)
  by_monitor before full sub turns apart = go full (has before.monitors sub) refl
    where
      comes : has before.monitors sub ≡ false
          → IsLater (queue_of conn before) (filter (is_by conn) (with_event before.events sub))
      comes none = record {
        stays = λ x. true;
        new = filter (is_by conn) (sub ∷ []);
        fresh = list_all-filter (λ x. list_all (is_other x) (queue_of conn before)) (is_by conn) (sub ∷ [])
            (and_from (list_all (is_other sub) (queue_of conn before)) true
            (list_all-filter (is_other sub) (is_by conn) before.events (apart none)) refl);
        is = one_event conn before.events sub turns
            ∙ ap (λ (l : List Sub). l ++ filter (is_by conn) (sub ∷ [])) (sym (filter_all (λ (x : Sub). true)
            (queue_of conn before) (list_all_always (λ (x : Sub). true) (λ x. refl) (queue_of conn before))));
      }

      go : (full b : Bool) → has before.monitors sub ≡ b → Later before (cond b before (record {
        monitors = before.monitors ++ sub ∷ [];
        events = events_if full sub before.events;
      }))
      go full true is = same before before refl
      go true false is = comes is
      go false false is = same before (record before { monitors = before.monitors ++ sub ∷ [] }) refl

  by_deq : (before : Queued) (first : Option Sub) → pairwise in_turn before.events ≡ true
      → Later before (taken first before)
  by_deq before None turns = same before before refl
  by_deq before (Some sub) turns = come before (taken (Some sub) before) (is_other sub) [] turns refl refl

module _ {I S : Type 0} (filled : S → Filled) (inner : Meaning ListCmd ListReply I S) (form : StrForm)
    (keeps : KeepsSublists filled inner form) (conn : ConnId) where
  abbrev M : Meaning QueueCmd QueueReply (FirstItem Queued I) (QueueState S)
  M = queue_meaning filled inner

  module _ (before after : Machine (QueueState S)) (by : ConnId) (what : What QueueCmd)
      (queued : IsQueued (filled before.content.inner) before.content.more) where
    abbrev Goal : Type 0
    Goal = Later conn before.content.more after.content.more

    along : (queued : Queued) → after.content.more ≡ queued → Later conn before.content.more queued → Goal
    along queued e later = subst (λ (q : Queued). Later conn before.content.more q) (sym e) later

    more : QueueState S → Queued
    more s = s.more

    by_command : (command : QueueCmd) → after.content
        ≡ (queue_done filled inner (shape_of form) before.shell.caps before.content by command).state → Goal
    by_command (QueueCmd.List cmd) e = come conn before.content.more after.content.more
        (stays (filled before.content.inner)
        (filled (inner.done (shape_of form) before.shell.caps before.content.inner by cmd).state))
        (filter (is_newly (filled before.content.inner)
        (filled (inner.done (shape_of form) before.shell.caps before.content.inner by cmd).state))
        before.content.more.monitors) queued.ordered (list_all_weaker
        (is_newly (filled before.content.inner)
        (filled (inner.done (shape_of form) before.shell.caps before.content.inner by cmd).state))
        (λ y. list_all (is_other y) before.content.more.events)
        (not_new (filled before.content.inner)
        (filled (inner.done (shape_of form) before.shell.caps before.content.inner by cmd).state)
        before.content.more queued) (filter (is_newly (filled before.content.inner)
        (filled (inner.done (shape_of form) before.shell.caps before.content.inner by cmd).state))
        before.content.more.monitors) (list_all-filter_same (is_newly (filled before.content.inner)
        (filled (inner.done (shape_of form) before.shell.caps before.content.inner by cmd).state))
        before.content.more.monitors)) (ap (λ (s : QueueState S). s.more.events) e)
    by_command (QueueCmd.MonSub header key) e =
        let full : Bool = filled before.content.inner header key in
        along (monitored full (sub_of by header key) before.content.more) (ap (λ (s : QueueState S). s.more) e)
        (by_monitor conn before.content.more full (sub_of by header key) queued.ordered (no_event (filled before.content.inner) (sub_of by header key)
        before.content.more queued))
    by_command (QueueCmd.UnmonSub header key) e = come conn before.content.more after.content.more
        (is_other (sub_of by header key)) [] queued.ordered refl (ap (λ (s : QueueState S). s.more.events) e)
    by_command QueueCmd.Deq e =
        along (taken (first_of by before.content.more) before.content.more) (ap (λ (s : QueueState S). s.more) e)
        (by_deq conn before.content.more (first_of by before.content.more) queued.ordered)

    by_move : Move M form before after by what → Goal
    by_move (Same e) = same conn before.content.more after.content.more (ap (λ (s : QueueState S). s.more.events) e)
    by_move (Left who command asked leaves e) = come conn before.content.more after.content.more
        (is_of_other who.conn) [] queued.ordered refl (ap (λ (s : QueueState S). s.more.events) e)
    by_move (Returned keep asked e) =
        same conn before.content.more after.content.more (ap (λ (s : QueueState S). s.more.events) e)
    by_move (Forgotten e) =
        same conn before.content.more after.content.more (ap (λ (s : QueueState S). s.more.events) e)
    by_move (Cleared e gone) = come conn before.content.more after.content.more (λ x. false) [] queued.ordered refl
        (ap (λ (s : QueueState S). s.more.events) e ∙ sym (filter_nothing before.content.more.events))

    by_change : (reply : Reply QueueReply) → Change M form before after by what reply → Goal
    by_change reply (Done command accepted free e) = by_command command e
    by_change reply (Quiet none move) = by_move move

  abbrev queued_at : List QueueEntry → Queued
  queued_at history = (replay M form history).content.more

  pub kept-order : (history : List QueueEntry) (entry : QueueEntry)
      → Later conn (queued_at history) (queued_at (history ++ entry ∷ []))
  kept-order history entry = subst (λ (m : Machine (QueueState S)). Later conn (queued_at history) m.content.more)
      (sym (replay-push M form history entry)) (by_change (replay M form history) (after_what M form (replay M form history) entry.by entry.what) entry.by
      entry.what (queues-replay filled inner form keeps history)
      (reply_for M form (replay M form history) entry.by entry.what)
      (changed M form (unregistered filled inner form keeps) (replay M form history) entry.by entry.what))
