-- Between two DEQs of one connector that answer the same sublist, it was newly not empty, or monitored anew.
use Rattle.std.specs.List.{list_all}
use Rattle.std.proofs.Common.{find, ◌≡◌, ◌≢◌, ℕ, length, Bool, true, false, not, ◌⊎◌, inl, inr, cond, List, [], ◌∷◌, ◌++◌, append_assoc, append-nil, filter, Option, None, Some, refl, sym, ap, subst, ◌∙◌}
use Rattle.std.proofs.lemmas.Bool.{and_parts, cases_eq, eqb-true, not-true, false≢true}
use Rattle.cf_types.specs.declared.forms.StrForm.{StrForm}
use Rattle.cf_types.specs.declared.list_commands.ListCmd.{ListCmd}
use Rattle.cf_types.specs.declared.list_commands.ListReply.{ListReply}
use Rattle.cf_types.specs.declared.names.Key16.{Key16}
use Rattle.cf_types.specs.declared.numbers.ConnId.{ConnId}
use Rattle.cf_types.specs.declared.refusals.Refusal.{Refusal}
use Rattle.cf_types.specs.declared.shell_commands.ShellCmd.{ShellCmd}
use Rattle.cf_lists.proofs.FilterLaws.{all_found, filter_all, filter_swap, found_passes, none_filtered, none-filter}
use Rattle.cf_lists.proofs.InsertionLaws.{list_any-insertion}
use Rattle.engine_api.specs.declared.{asks.Ask.Ask, asks.Reply.Reply, asks.What.What}
use Rattle.engine_api.specs.History.{replay, after_what, Continues, IsNext, IsLegal}
use Rattle.cf_types.specs.declared.limits.TheConstants.{CALLERS}
use Rattle.cf_types.specs.Connections.{is_active}
use Rattle.engine_api.specs.Machine.{Machine, content_done, unless}
use Rattle.engine_api.specs.Shell.{Leaver, content_cause, leaver}
use Rattle.shell_laws.proofs.StepLaws.{active_of, first_none}
use Rattle.queue_model.proofs.ActiveLaws.{is_departure, not-forced, stays-content, stays-loss, stays-shell, unrefused}
use Rattle.engine_api.specs.Meaning.{Meaning}
use Rattle.engine_api.specs.Shapes.{shape_of}
use Rattle.engine_api.proofs.HistoryLaws.{replay-push, continues_legal}
use Rattle.engine_api.proofs.ShellLaws.{length-conns-replay, machine-refused}
use Rattle.shell_laws.specs.Accepted.{Accepted, accepted_as}
use Rattle.shell_laws.proofs.Answered.{reply_for, continues-answered}
use Rattle.shell_laws.proofs.Changes.{changed}
use Rattle.shell_laws.proofs.Moves.{Move, Change}
use Rattle.shell_laws.proofs.Moves.Change.{Done, Quiet}
use Rattle.shell_laws.proofs.Moves.Move.{Same, Left, Returned, Forgotten, Cleared}
use Rattle.queue_model.specs.declared.items.FirstItem.{FirstItem}
use Rattle.cf_types.specs.declared.list_commands.QueueCmd.{QueueCmd}
use Rattle.cf_types.specs.declared.list_commands.QueueReply.{QueueReply}
use Rattle.queue_model.specs.declared.subs.Sub.{Sub}
use Rattle.queue_model.specs.Queues.{Queued, Filled, is_by, is_filled, is_newly, stays, settled, is_of_other, left_by, has, is_other, stands_before, events_if, monitored, unmonitored, first_of, taken, same_sub}
use Rattle.queue_model.specs.Meaning.{QueueState, queue_meaning, queue_done, sub_of, sub_told}
use Rattle.cf_lists.specs.Pairwise.{pairwise}
use Rattle.cf_lists.proofs.PairwiseLaws.{pairwise-filter}
use Rattle.queue_model.specs.Orders.{queue_of}
use Rattle.queue_model.specs.Renewals.{QueueEntry, Takes, departs, Leaves, GivesUp, IsGivenUp, IsRenewed}
use Rattle.queue_model.specs.Renewals.GivesUp.{ByCommand, ByDeparture, ByEnd}
use Rattle.queue_model.proofs.SubLaws.{neither, sub_of_parts, same_sub-eq, same_sub-self, knows, has-before, has-filter, none-passing, none-events}
use Rattle.queue_model.proofs.QueueLaws.{KeepsSublists, queues-replay, unregistered}

-- ---- queues in which a sublist isn't

module _ (sub : Sub) where
  abbrev IsOut : Queued → Type 0
  IsOut queued = has queued.events sub ≡ false

  abbrev IsIn : Queued → Type 0
  IsIn queued = has queued.monitors sub ≡ true

  out_settled : (before after : Filled) (queued : Queued) → is_newly before after sub ≡ false → IsOut queued
      → IsOut (settled before after queued)
  out_settled before after queued old out = none-events (same_sub sub) (filter (stays before after) queued.events)
      (filter (is_newly before after) queued.monitors)
      (none-filter (same_sub sub) (stays before after) queued.events out)
      (none-passing (is_newly before after) sub queued.monitors old)

  -- another one is monitored
  out_if : (full : Bool) (other : Sub) (events : List Sub) → same_sub sub other ≡ false → has events sub ≡ false
      → has (events_if full other events) sub ≡ false
  out_if true other events apart out = list_any-insertion (same_sub sub) (stands_before other) other events
      ∙ neither (same_sub sub other) (has events sub) apart out
  out_if false other events apart out = out

  out_monitored : (full : Bool) (other : Sub) (queued : Queued) → same_sub sub other ≡ false → IsOut queued
      → IsOut (monitored full other queued)
  out_monitored full other queued apart out = go (has queued.monitors other)
    where
      go : (b : Bool) → IsOut (cond b queued (record {
        monitors = queued.monitors ++ other ∷ [];
        events = events_if full other queued.events;
      }))
      go true = out
      go false = out_if full other queued.events apart out

  in_monitored : (full : Bool) (other : Sub) (queued : Queued) → IsIn queued → IsIn (monitored full other queued)
  in_monitored full other queued there = go (has queued.monitors other)
    where
      go : (b : Bool) → IsIn (cond b queued (record {
        monitors = queued.monitors ++ other ∷ [];
        events = events_if full other queued.events;
      }))
      go true = there
      go false = has-before sub queued.monitors (other ∷ []) there

  -- what is monitored already stays as it is
  already : (full : Bool) (queued : Queued) → IsIn queued → monitored full sub queued ≡ queued
  already full queued there = ap (λ (b : Bool). cond b queued (record {
    monitors = queued.monitors ++ sub ∷ [];
    events = events_if full sub queued.events;
  })) there

  out_taken : (first : Option Sub) (queued : Queued) → IsOut queued → IsOut (taken first queued)
  out_taken None queued out = out
  out_taken (Some other) queued out = none-filter (same_sub sub) (is_other other) queued.events out

  in_taken : (first : Option Sub) (queued : Queued) → IsIn queued → IsIn (taken first queued)
  in_taken None queued there = there
  in_taken (Some other) queued there = there

other_from : (x y : Sub) → same_sub x y ≡ false → is_other y x ≡ true
other_from x y apart = go (same_sub y x) refl
  where
    go : (b : Bool) → same_sub y x ≡ b → not b ≡ true
    go true e = absurd (false≢true (sym apart ∙ ap (same_sub x) (same_sub-eq y x e) ∙ same_sub-self x))
    go false e = refl

-- the first of a queue that is told as a sublist
told_first : (first : Option Sub) (header : ℕ) (key : Key16) → sub_told first ≡ QueueReply.Sublist header key
    → (x : Sub) × ((first ≡ Some x) × (x.header ≡ header) × (x.key ≡ key))
told_first None header key e = absurd cc
told_first (Some x) header key e = (x, (refl, cc, cc))

-- the command and the answer of what was accepted, if anything was
abbrev command_in : Option (Accepted QueueCmd QueueReply) → QueueCmd
command_in None = QueueCmd.Deq
command_in (Some told) = told.command

abbrev answer_in : Option (Accepted QueueCmd QueueReply) → QueueReply
answer_in None = QueueReply.Empty
answer_in (Some told) = told.answer

-- who leaves
abbrev conn_in : ConnId → Option Leaver → ConnId
conn_in other None = other
conn_in other (Some who) = who.conn

conn_is : {conn : ConnId} {keep : Bool} {who : Leaver} → Some (record { conn = conn; keep = keep }) ≡ Some who
    → conn ≡ who.conn
conn_is {conn} e = ap (conn_in conn) e

-- the first that a search finds is the first that a filter keeps
found_first : (p : Sub → Bool) (x : Sub) (xs : List Sub) → find p xs ≡ Some x
    → (rest : List Sub) × (filter p xs ≡ x ∷ rest)
found_first p x [] e = absurd cc
found_first p x (y ∷ ys) e = go (p y) e (found_first p x ys)
  where
    go : (b : Bool) → cond b (Some y) (find p ys) ≡ Some x
        → (find p ys ≡ Some x → (rest : List Sub) × (filter p ys ≡ x ∷ rest))
        → (rest : List Sub) × (cond b (y ∷ filter p ys) (filter p ys) ≡ x ∷ rest)
    go true e more = (filter p ys, cc)
    go false e more = more e

-- and it is gone where the others stay
first_gone : (x : Sub) (rest queue : List Sub) → queue ≡ x ∷ rest → pairwise is_other queue ≡ true
    → queue ≡ x ∷ filter (is_other x) queue
first_gone x rest queue e apart =
    let others = and_parts (list_all (is_other x) rest) (pairwise is_other rest)
    (sym (ap (λ (l : List Sub). pairwise is_other l) e) ∙ apart) in
    let gone : filter (is_other x) (x ∷ rest) ≡ rest =
    ap (λ (b : Bool). cond (not b) (x ∷ filter (is_other x) rest) (filter (is_other x) rest)) (same_sub-self x)
    ∙ filter_all (is_other x) rest others.0 in
    e ∙ ap (λ (l : List Sub). x ∷ l) (sym (ap (λ (l : List Sub). filter (is_other x) l) e ∙ gone))

-- ---- along a history

module _ {I S : Type 0} (filled : S → Filled) (inner : Meaning ListCmd ListReply I S) (form : StrForm)
    (keeps : KeepsSublists filled inner form) (sub : Sub) where
  abbrev M : Meaning QueueCmd QueueReply (FirstItem Queued I) (QueueState S)
  M = queue_meaning filled inner

  abbrev History : Type 0
  History = List QueueEntry

  abbrev machine : History → Machine (QueueState S)
  machine history = replay M form history

  abbrev queued_at : History → Queued
  queued_at history = (machine history).content.more

  -- the connector is active
  abbrev active_at : History → Bool
  active_at history = is_active (machine history).shell.conns sub.conn

  abbrev active_in : Machine (QueueState S) → Bool
  active_in m = is_active m.shell.conns sub.conn

  -- ---- longer histories

  given_longer : (base since : History) (entry : QueueEntry) → IsGivenUp filled inner form base since sub
      → IsGivenUp filled inner form base (since ++ entry ∷ []) sub
  given_longer base since entry is = record {
    front = is.front;
    entry = is.entry;
    rest = is.rest ++ entry ∷ [];
    split = ap (λ (l : History). l ++ entry ∷ []) is.split ∙ append_assoc is.front (is.entry ∷ is.rest) (entry ∷ []);
    gives = is.gives;
  }

  renewed_longer : (base since : History) (entry : QueueEntry) → IsRenewed filled inner form base since sub
      → IsRenewed filled inner form base (since ++ entry ∷ []) sub
  renewed_longer base since entry (inl is) = inl (record {
    front = is.front;
    entry = is.entry;
    rest = is.rest ++ entry ∷ [];
    split = ap (λ (l : History). l ++ entry ∷ []) is.split ∙ append_assoc is.front (is.entry ∷ is.rest) (entry ∷ []);
    none = is.none;
    some = is.some;
  })
  renewed_longer base since entry (inr is) = inr (record {
    front = is.front;
    entry = is.entry;
    rest = is.rest ++ entry ∷ [];
    split = ap (λ (l : History). l ++ entry ∷ []) is.split ∙ append_assoc is.front (is.entry ∷ is.rest) (entry ∷ []);
    monitors = is.monitors;
    given_up = is.given_up;
  })

  -- ---- one entry more

  -- it was renewed; or its event isn't there, and it is monitored by one that is active, or was given up
  abbrev Rest : (base since : History) → Queued → Bool → Type 0
  Rest base since queued active = IsOut sub queued
      × ((IsIn sub queued × (active ≡ true)) ⊎ IsGivenUp filled inner form base since sub)

  abbrev Inv : (base since : History) → Queued → Bool → Type 0
  Inv base since queued active = IsRenewed filled inner form base since sub ⊎ Rest base since queued active

  abbrev Holds : (base since history : History) → Type 0
  Holds base since history = Inv base since (queued_at history) (active_at history)

  module _ (history : History) (entry : QueueEntry) (next : IsNext M form history entry) where
    answered : entry.reply ≡ reply_for M form (machine history) entry.by entry.what
    answered = (continues-answered M form history (entry ∷ []) (next, tt)).0

    pub change : Change M form (machine history) (machine (history ++ entry ∷ [])) entry.by entry.what entry.reply
    change = rw (replay-push M form history entry, answered)
        (changed M form (unregistered filled inner form keeps) (machine history) entry.by entry.what)

    same_told : (what : What QueueCmd) (refusal : Refusal)
        → reply_for M form (machine history) entry.by what ≡ Reply.Refused refusal
        → (after_what M form (machine history) entry.by what).content ≡ (machine history).content
    same_told (What.Call asked) refusal e = ap (λ (m : Machine (QueueState S)). m.content)
        (machine-refused M form (machine history) entry.by asked refusal e)
    same_told (What.Lost cf) refusal e = absurd cc

    same_refused : (refusal : Refusal) → entry.reply ≡ Reply.Refused refusal
        → (machine (history ++ entry ∷ [])).content ≡ (machine history).content
    same_refused refusal e = ap (λ (m : Machine (QueueState S)). m.content) (replay-push M form history entry)
        ∙ same_told entry.what refusal (sym answered ∙ e)

    told_active : (what : What QueueCmd) (refusal : Refusal)
        → reply_for M form (machine history) entry.by what ≡ Reply.Refused refusal
        → active_in (after_what M form (machine history) entry.by what) ≡ active_at history
    told_active (What.Call asked) refusal e = ap active_in (machine-refused M form (machine history) entry.by asked refusal e)
    told_active (What.Lost cf) refusal e = absurd cc

    places : length (machine history).shell.conns ≡ CALLERS
    places = length-conns-replay M form history

    -- whoever is active stays so, or departs
    module _ (active : active_at history ≡ true) where
      abbrev Stays : Machine (QueueState S) → Type 0
      Stays m = (active_in m ≡ true) ⊎ Leaves entry sub.conn

      stays_shell : ((refusal : Refusal) → entry.reply ≡ Reply.Refused refusal → ⊥) → (command : ShellCmd)
          → entry.what ≡ What.Call (Ask.Shell command)
          → Stays (after_what M form (machine history) entry.by (What.Call (Ask.Shell command)))
      stays_shell fine command asked = go (cases_eq entry.by.0 sub.conn.0) (is_departure command) refl
        where
          conn_of : ℕ → ConnId
          conn_of n = record { 0 = n }

          said : (command : ShellCmd) → is_departure command ≡ true → departs (What.Call (Ask.Shell command)) ≡ true
          said ShellCmd.Disconnect is = refl
          said ShellCmd.Fail is = refl
          said _ is = absurd (false≢true is)

          go : (entry.by.0 ≡ sub.conn.0) ⊎ (entry.by.0 ≢ sub.conn.0) → (b : Bool) → is_departure command ≡ b
              → Stays (after_what M form (machine history) entry.by (What.Call (Ask.Shell command)))
          go (inl same) true is = inr (record {
            by = ap conn_of same;
            asked = ap departs asked ∙ said command is;
            accepted = fine;
          })
          go (inr apart) b is = inl (stays-shell M form (machine history) entry.by sub.conn places active command
              (λ departs same. apart (ap (λ (c : ConnId). c.0) same)))
          go (inl same) false is = inl (stays-shell M form (machine history) entry.by sub.conn places active command
              (λ departs same. false≢true (sym is ∙ departs)))

      stays_what : ((refusal : Refusal) → entry.reply ≡ Reply.Refused refusal → ⊥) → (what : What QueueCmd)
          → entry.what ≡ what → Stays (after_what M form (machine history) entry.by what)
      stays_what fine (What.Call (Ask.Shell command)) asked = stays_shell fine command asked
      stays_what fine (What.Call (Ask.Content command)) asked =
          inl (stays-content M form (machine history) entry.by sub.conn places active command)
      stays_what fine (What.Lost cf) asked =
          inl (stays-loss M form (machine history) entry.by sub.conn places active cf)

      stays_active : Stays (machine (history ++ entry ∷ []))
      stays_active = subst (λ (m : Machine (QueueState S)). Stays m) (sym (replay-push M form history entry))
          (go entry.reply refl)
        where
          go : (reply : Reply QueueReply) → entry.reply ≡ reply
              → Stays (after_what M form (machine history) entry.by entry.what)
          go (Reply.Refused refusal) is = inl (told_active entry.what refusal (sym answered ∙ is) ∙ active)
          go (Reply.Shell told) is = stays_what (λ refusal e. let wrong = sym is ∙ e in cc) entry.what refl
          go (Reply.Content told) is = stays_what (λ refusal e. let wrong = sym is ∙ e in cc) entry.what refl

      -- whoever leaves and was active has departed
      has_left : ((refusal : Refusal) → entry.reply ≡ Reply.Refused refusal → ⊥) → (who : Leaver) (command : ShellCmd)
          → entry.what ≡ What.Call (Ask.Shell command) → leaver (machine history).shell entry.by command ≡ Some who
          → who.conn ≡ sub.conn → Leaves entry sub.conn
      has_left fine who ShellCmd.Disconnect asked leaves is =
          record { by = conn_is leaves ∙ is; asked = ap departs asked; accepted = fine }
      has_left fine who ShellCmd.Fail asked leaves is =
          record { by = conn_is leaves ∙ is; asked = ap departs asked; accepted = fine }
      has_left fine who (ShellCmd.ForceConn other) asked leaves is =
          absurd (not-forced M form (machine history) entry.by sub.conn places active other (conn_is leaves ∙ is)
          (unrefused M form (machine history) entry.by (ShellCmd.ForceConn other)
          (λ refusal e. fine refusal (answered
          ∙ ap (λ (w : What QueueCmd). reply_for M form (machine history) entry.by w) asked ∙ e))))
      has_left fine who command asked leaves is = absurd cc

  module _ (base since : History) (entry : QueueEntry) (next : IsNext M form (base ++ since) entry)
      (out : IsOut sub (queued_at (base ++ since)))
      (known : (IsIn sub (queued_at (base ++ since)) × (active_at (base ++ since) ≡ true))
      ⊎ IsGivenUp filled inner form base since sub) where
    abbrev history : History
    history = base ++ since

    abbrev before : QueueState S
    before = (machine history).content

    abbrev after : QueueState S
    after = (machine (history ++ entry ∷ [])).content

    abbrev longer : History
    longer = since ++ entry ∷ []

    gives_now : GivesUp filled inner form history entry sub → IsGivenUp filled inner form base longer sub
    gives_now gives = record { front = since; entry = entry; rest = []; split = refl; gives = gives }

    abbrev active_then : Bool
    active_then = active_at (history ++ entry ∷ [])

    -- where the event isn't there afterwards, and the monitor if it was there
    kept : (queued : Queued) → IsOut sub queued → (IsIn sub before.more → IsIn sub queued)
        → Inv base longer queued active_then
    kept queued gone stays_in = inr (gone, by_known known)
      where
        by_active : IsIn sub before.more → (active_then ≡ true) ⊎ Leaves entry sub.conn
            → (IsIn sub queued × (active_then ≡ true)) ⊎ IsGivenUp filled inner form base longer sub
        by_active there (inl active) = inl (stays_in there, active)
        by_active there (inr leaves) = inr (gives_now (ByDeparture leaves))

        by_known : (IsIn sub before.more × (active_at history ≡ true)) ⊎ IsGivenUp filled inner form base since sub
            → (IsIn sub queued × (active_then ≡ true)) ⊎ IsGivenUp filled inner form base longer sub
        by_known (inl there) = by_active there.0 (stays_active history entry next there.1)
        by_known (inr given) = inr (given_longer base since entry given)

    unchanged : after.more ≡ before.more → Inv base longer after.more active_then
    unchanged e = kept after.more (subst (λ (q : Queued). IsOut sub q) (sym e) out)
        (λ there. subst (λ (q : Queued). IsIn sub q) (sym e) there)

    -- ---- commands

    abbrev Does : QueueCmd → QueueReply → Type 0
    Does command told = accepted_as entry.what entry.reply ≡ Some (record { command = command; answer = told })

    by_records : (was is : Filled) → filled before.inner ≡ was → filled after.inner ≡ is
        → after.more ≡ settled was is before.more → Inv base longer after.more active_then
    by_records was is e f q = go (is_newly was is sub) refl
      where
        go : (b : Bool) → is_newly was is sub ≡ b → Inv base longer after.more active_then
        go true new =
            let parts = and_parts (not (is_filled was sub)) (is_filled is sub) new in
            inl (inl (record {
              front = since;
              entry = entry;
              rest = [];
              split = refl;
              none = ap (λ (g : Filled). is_filled g sub) e ∙ not-true (is_filled was sub) parts.0;
              some = ap (λ (g : Filled). is_filled g sub) f ∙ parts.1;
            }))
        go false old = kept after.more
            (subst (λ (q : Queued). IsOut sub q) (sym q) (out_settled sub was is before.more old out))
            (λ there. subst (λ (q : Queued). IsIn sub q) (sym q) there)

    by_monitor : (full : Bool) (new : Sub) (told : QueueReply) → entry.by ≡ new.conn
        → Does (QueueCmd.MonSub new.header new.key) told → after.more ≡ monitored full new before.more
        → Inv base longer after.more active_then
    by_monitor full new told by done q = go (same_sub sub new) refl
      where
        of_it : sub ≡ new → (IsIn sub before.more × (active_at history ≡ true)) ⊎ IsGivenUp filled inner form base since sub
            → Inv base longer after.more active_then
        of_it e (inl there) = unchanged (q ∙ ap (λ (x : Sub). monitored full x before.more) (sym e)
            ∙ already sub full before.more there.0)
        of_it e (inr given) = inl (inr (record {
          front = since;
          entry = entry;
          rest = [];
          split = refl;
          monitors = (
            told,
            record {
              by = by ∙ ap (λ (x : Sub). x.conn) (sym e);
              accepted = subst (λ (x : Sub). Does (QueueCmd.MonSub x.header x.key) told) (sym e) done;
            },
          );
          given_up = given;
        }))

        go : (b : Bool) → same_sub sub new ≡ b → Inv base longer after.more active_then
        go true e = of_it (same_sub-eq sub new e) known
        go false apart = kept after.more
            (subst (λ (p : Queued). IsOut sub p) (sym q) (out_monitored sub full new before.more apart out))
            (λ there. subst (λ (p : Queued). IsIn sub p) (sym q) (in_monitored sub full new before.more there))

    by_unmonitor : (new : Sub) (told : QueueReply) → entry.by ≡ new.conn
        → Does (QueueCmd.UnmonSub new.header new.key) told → after.more ≡ unmonitored new before.more
        → Inv base longer after.more active_then
    by_unmonitor new told by done q = go (same_sub sub new) refl
      where
        gone : IsOut sub after.more
        gone = subst (λ (p : Queued). IsOut sub p) (sym q)
            (none-filter (same_sub sub) (is_other new) before.more.events out)

        go : (b : Bool) → same_sub sub new ≡ b → Inv base longer after.more active_then
        go true same =
            let e = same_sub-eq sub new same in
            inr (
              gone,
              inr (gives_now (ByCommand (
                told,
                record {
                  by = by ∙ ap (λ (x : Sub). x.conn) (sym e);
                  accepted = subst (λ (x : Sub). Does (QueueCmd.UnmonSub x.header x.key) told) (sym e) done;
                },
              ))),
            )
        go false apart = kept after.more gone (λ there. subst (λ (p : Queued). IsIn sub p) (sym q)
            (has-filter (is_other new) sub before.more.monitors (other_from sub new apart) there))

    by_deq : (first : Option Sub) → after.more ≡ taken first before.more → Inv base longer after.more active_then
    by_deq first q = kept after.more
        (subst (λ (q : Queued). IsOut sub q) (sym q) (out_taken sub first before.more out))
        (λ there. subst (λ (q : Queued). IsIn sub q) (sym q) (in_taken sub first before.more there))

    by_command : (command : QueueCmd) (told : QueueReply) → Does command told
        → after ≡ (queue_done filled inner (shape_of form) (machine history).shell.caps before entry.by command).state
        → Inv base longer after.more active_then
    by_command (QueueCmd.List cmd) told done e = by_records (filled before.inner)
        (filled (inner.done (shape_of form) (machine history).shell.caps before.inner entry.by cmd).state) refl
        (ap (λ (s : QueueState S). filled s.inner) e) (ap (λ (s : QueueState S). s.more) e)
    by_command (QueueCmd.MonSub header key) told done e = by_monitor (filled before.inner header key)
        (sub_of entry.by header key) told refl done (ap (λ (s : QueueState S). s.more) e)
    by_command (QueueCmd.UnmonSub header key) told done e =
        by_unmonitor (sub_of entry.by header key) told refl done (ap (λ (s : QueueState S). s.more) e)
    by_command QueueCmd.Deq told done e =
        by_deq (first_of entry.by before.more) (ap (λ (s : QueueState S). s.more) e)

    -- ---- departures, and the rest

    by_departure : (who : ConnId) → after.more ≡ left_by who before.more
        → (who ≡ sub.conn → IsGivenUp filled inner form base longer sub) → Inv base longer after.more active_then
    by_departure who q gives = go (is_by who sub) refl
      where
        gone : IsOut sub after.more
        gone = subst (λ (q : Queued). IsOut sub q) (sym q)
            (none-filter (same_sub sub) (is_of_other who) before.more.events out)

        go : (b : Bool) → is_by who sub ≡ b → Inv base longer after.more active_then
        go true same =
            let conn : ℕ → ConnId = λ (n : ℕ). record { 0 = n } in
            inr (gone, inr (gives (ap conn (sym (eqb-true sub.conn.0 who.0 same)))))
        go false other = kept after.more gone (λ there. subst (λ (q : Queued). IsIn sub q) (sym q)
            (has-filter (is_of_other who) sub before.more.monitors (ap not other) there))

    by_move : ((refusal : Refusal) → entry.reply ≡ Reply.Refused refusal → ⊥)
        → Move M form (machine history) (machine (history ++ entry ∷ [])) entry.by entry.what
        → Inv base longer after.more active_then
    by_move fine (Same e) = unchanged (ap (λ (s : QueueState S). s.more) e)
    by_move fine (Left who command asked leaves e) = by_departure who.conn (ap (λ (s : QueueState S). s.more) e)
        (λ is. by_known known is)
      where
        by_known : (IsIn sub before.more × (active_at history ≡ true)) ⊎ IsGivenUp filled inner form base since sub
            → who.conn ≡ sub.conn → IsGivenUp filled inner form base longer sub
        by_known (inl there) is =
            gives_now (ByDeparture (has_left history entry next there.1 fine who command asked leaves is))
        by_known (inr given) is = given_longer base since entry given
    by_move fine (Returned keep asked e) = unchanged (ap (λ (s : QueueState S). s.more) e)
    by_move fine (Forgotten e) = unchanged (ap (λ (s : QueueState S). s.more) e)
    by_move fine (Cleared e gone) = inr (
      ap (λ (s : QueueState S). has s.more.events sub) e,
      inr (gives_now (ByEnd gone)),
    )

    by_change : ((refusal : Refusal) → entry.reply ≡ Reply.Refused refusal → ⊥)
        → Change M form (machine history) (machine (history ++ entry ∷ [])) entry.by entry.what entry.reply
        → Inv base longer after.more active_then
    by_change fine (Done command accepted free e) = by_command command _ accepted e
    by_change fine (Quiet none move) = by_move fine move

    by_reply : (reply : Reply QueueReply) → entry.reply ≡ reply → Inv base longer after.more active_then
    by_reply (Reply.Refused refusal) is =
        unchanged (ap (λ (s : QueueState S). s.more) (same_refused history entry next refusal is))
    by_reply (Reply.Shell told) is = by_change (λ refusal e. let wrong = sym is ∙ e in cc) (change history entry next)
    by_reply (Reply.Content told) is = by_change (λ refusal e. let wrong = sym is ∙ e in cc) (change history entry next)

    inv_rest : Inv base longer after.more active_then
    inv_rest = by_reply entry.reply refl

  inv_next : (base since : History) (entry : QueueEntry) → IsNext M form (base ++ since) entry
      → Holds base since (base ++ since) → Holds base (since ++ entry ∷ []) ((base ++ since) ++ entry ∷ [])
  inv_next base since entry next (inl renewed) = inl (renewed_longer base since entry renewed)
  inv_next base since entry next (inr rest) = inv_rest base since entry next rest.0 rest.1

  -- ---- entries, one after another

  inv_along : (base since entries : History) → Continues M form (base ++ since) entries
      → Holds base since (base ++ since) → Holds base (since ++ entries) (base ++ (since ++ entries))
  inv_along base since [] goes inv =
      subst (λ (l : History). Holds base l (base ++ l)) (sym (append-nil since)) inv
  inv_along base since (entry ∷ entries) goes inv =
      let same : (base ++ since) ++ entry ∷ [] ≡ base ++ (since ++ entry ∷ []) = append_assoc base since (entry ∷ []) in
      subst (λ (l : History). Holds base l (base ++ l)) (append_assoc since (entry ∷ []) entries)
      (inv_along base (since ++ entry ∷ []) entries (subst (λ (h : History). Continues M form h entries) same goes.1)
      (subst (λ (h : History). Holds base (since ++ entry ∷ []) h) same
      (inv_next base since entry goes.0 inv)))

  -- ---- a DEQ that takes it

  record IsTaken (history : History) (entry : QueueEntry) : Type 0 where
    first : first_of sub.conn (queued_at history) ≡ Some sub
    behind : queued_at (history ++ entry ∷ []) ≡ taken (Some sub) (queued_at history)

  module _ (history : History) (entry : QueueEntry) (takes : Takes entry sub) where
    abbrev state : QueueState S
    state = (machine history).content

    taken_first : (x : Sub) → first_of entry.by state.more ≡ Some x → x.header ≡ sub.header → x.key ≡ sub.key
        → queued_at (history ++ entry ∷ []) ≡ taken (first_of entry.by state.more) state.more → IsTaken history entry
    taken_first x first headers keys q =
        let by : is_by entry.by x ≡ true = found_passes (is_by entry.by) state.more.events x first in
        let conns = eqb-true x.conn.0 entry.by.0 by ∙ ap (λ (c : ConnId). c.0) takes.by in
        let same : x ≡ sub = sub_of_parts x sub conns headers keys in
        let found : first_of entry.by state.more ≡ Some sub = first ∙ ap (λ (y : Sub). Some y) same in
        record {
          first = ap (λ (c : ConnId). first_of c state.more) (sym takes.by) ∙ found;
          behind = q ∙ ap (λ (o : Option Sub). taken o state.more) found;
        }

    taken_told : queued_at (history ++ entry ∷ []) ≡ taken (first_of entry.by state.more) state.more
        → sub_told (first_of entry.by state.more) ≡ QueueReply.Sublist sub.header sub.key → IsTaken history entry
    taken_told q told =
        let x = told_first (first_of entry.by state.more) sub.header sub.key told in
        taken_first x.0 x.1.0 x.1.1 x.1.2 q

    taken_command : (command : QueueCmd)
        → accepted_as entry.what entry.reply ≡ Some (record {
          command = command;
          answer = (queue_done filled inner (shape_of form) (machine history).shell.caps state entry.by command).reply;
        })
        → (machine (history ++ entry ∷ [])).content
        ≡ (queue_done filled inner (shape_of form) (machine history).shell.caps state entry.by command).state
        → IsTaken history entry
    taken_command (QueueCmd.List cmd) accepted e =
        let wrong : QueueCmd.List cmd ≡ QueueCmd.Deq = ap command_in (sym accepted ∙ takes.accepted) in absurd cc
    taken_command (QueueCmd.MonSub header key) accepted e =
        let wrong : QueueCmd.MonSub header key ≡ QueueCmd.Deq = ap command_in (sym accepted ∙ takes.accepted) in absurd cc
    taken_command (QueueCmd.UnmonSub header key) accepted e =
        let wrong : QueueCmd.UnmonSub header key ≡ QueueCmd.Deq = ap command_in (sym accepted ∙ takes.accepted) in
        absurd cc
    taken_command QueueCmd.Deq accepted e =
        taken_told (ap (λ (s : QueueState S). s.more) e) (ap answer_in (sym accepted ∙ takes.accepted))

    taken_change : Change M form (machine history) (machine (history ++ entry ∷ [])) entry.by entry.what entry.reply
        → IsTaken history entry
    taken_change (Done command accepted free e) = taken_command command accepted e
    taken_change (Quiet none move) = let wrong = sym none ∙ takes.accepted in absurd cc

  is-taken : (history : History) (entry : QueueEntry) → IsNext M form history entry → Takes entry sub
      → IsTaken history entry
  is-taken history entry next takes = taken_change history entry takes (change history entry next)

  -- whoever takes it is active
  takes_active : (history : History) (entry : QueueEntry) → IsNext M form history entry → Takes entry sub
      → active_at (history ++ entry ∷ []) ≡ true
  takes_active history entry next takes = ap active_in (replay-push M form history entry)
      ∙ go entry.what entry.reply refl (answered history entry next) takes.accepted
    where
      by_cause : (command : QueueCmd) (cause : Option Refusal)
          → content_cause (machine history).shell entry.by ≡ cause
          → accepted_as (What.Call (Ask.Content command)) (unless M form cause (machine history)
          (content_done M form (machine history) entry.by command)).reply
          ≡ Some (record { command = QueueCmd.Deq; answer = QueueReply.Sublist sub.header sub.key })
          → active_in (unless M form cause (machine history)
          (content_done M form (machine history) entry.by command)).machine ≡ true
      by_cause command (Some refusal) is accepted = absurd cc
      by_cause command None is accepted =
          ap (λ (c : ConnId). is_active (machine history).shell.conns c) (sym takes.by)
          ∙ active_of (is_active (machine history).shell.conns entry.by) (first_none _ _ is)

      go : (what : What QueueCmd) (reply : Reply QueueReply) → entry.reply ≡ reply
          → entry.reply ≡ reply_for M form (machine history) entry.by what
          → accepted_as what entry.reply
          ≡ Some (record { command = QueueCmd.Deq; answer = QueueReply.Sublist sub.header sub.key })
          → active_in (after_what M form (machine history) entry.by what) ≡ true
      go (What.Call (Ask.Content command)) reply is told accepted =
          by_cause command (content_cause (machine history).shell entry.by) refl
          (subst (λ (r : Reply QueueReply). accepted_as (What.Call (Ask.Content command)) r
          ≡ Some (record { command = QueueCmd.Deq; answer = QueueReply.Sublist sub.header sub.key })) told accepted)
      go (What.Call (Ask.Shell command)) reply is told accepted = absurd cc
      go (What.Lost cf) reply is told accepted = absurd cc

  -- it was queued
  was_queued : (history : History) (entry : QueueEntry) → IsTaken history entry
      → has (queued_at history).events sub ≡ true
  was_queued history entry is = all_found (is_by sub.conn) (has (queued_at history).events) (queued_at history).events
      sub (knows (queued_at history).events) is.first

  -- and isn't queued any more, but monitored
  rest_taken : (history : History) (entry : QueueEntry) → IsTaken history entry
      → active_at (history ++ entry ∷ []) ≡ true
      → Rest (history ++ entry ∷ []) [] (queued_at (history ++ entry ∷ [])) (active_at (history ++ entry ∷ []))
  rest_taken history entry is active =
      let queued : Queued = queued_at history in
      let there : has queued.monitors sub ≡ true = all_found (is_by sub.conn) (has queued.monitors) queued.events
      sub (queues-replay filled inner form keeps history).known is.first in (
        ap (λ (q : Queued). has q.events sub) is.behind ∙ none_filtered (same_sub sub) queued.events,
        inl (ap (λ (q : Queued). has q.monitors sub) is.behind ∙ there, active),
      )

  -- ---- the law

  continues_both : (history front entries : History) → Continues M form history (front ++ entries)
      → Continues M form history front × Continues M form (history ++ front) entries
  continues_both history [] entries goes =
      (tt, subst (λ (h : History). Continues M form h entries) (sym (append-nil history)) goes)
  continues_both history (entry ∷ front) entries goes =
      let both = continues_both (history ++ entry ∷ []) front entries goes.1 in (
        (goes.0, both.0),
        subst (λ (h : History). Continues M form h entries) (append_assoc history (entry ∷ []) front) both.1,
      )

  renewed_inv : (base since : History) → Holds base since (base ++ since)
      → has (queued_at (base ++ since)).events sub ≡ true → IsRenewed filled inner form base since sub
  renewed_inv base since (inl renewed) there = renewed
  renewed_inv base since (inr rest) there = absurd (false≢true (sym rest.0 ∙ there))

  pub delivered-anew : (before since after : History) (one other : QueueEntry)
      → IsLegal M form (before ++ one ∷ (since ++ other ∷ after)) → Takes one sub → Takes other sub
      → IsRenewed filled inner form (before ++ one ∷ []) since sub
  delivered-anew before since after one other legal first second =
      let base : History = before ++ one ∷ [] in
      let whole = continues_both [] before (one ∷ (since ++ other ∷ after))
      (continues_legal M form (before ++ one ∷ (since ++ other ∷ after)) legal) in
      let later = continues_both base since (other ∷ after) whole.1.1 in
      let start : Rest base [] (queued_at base) (active_at base) = rest_taken before one (is-taken before one whole.1.0 first)
      (takes_active before one whole.1.0 first) in
      let begun : Holds base [] (base ++ []) = subst (λ (h : History). Holds base [] h)
      (sym (append-nil base)) (inr start) in
      let inv : Holds base since (base ++ since) = inv_along base [] since
      (subst (λ (h : History). Continues M form h since) (sym (append-nil base)) later.0) begun in
      renewed_inv base since inv (was_queued (base ++ since) other (is-taken (base ++ since) other later.1.0 second))

  -- a DEQ answers the first of the queue, and leaves the others
  pub takes-first : (before after : History) (entry : QueueEntry) → IsLegal M form (before ++ entry ∷ after)
      → Takes entry sub → queue_of sub.conn (queued_at before) ≡ sub ∷ queue_of sub.conn (queued_at (before ++ entry ∷ []))
  takes-first before after entry legal takes =
      let whole = continues_both [] before (entry ∷ after) (continues_legal M form (before ++ entry ∷ after) legal) in
      let is = is-taken before entry whole.1.0 takes in
      let queued : Queued = queued_at before in
      let first = found_first (is_by sub.conn) sub queued.events is.first in
      first_gone sub first.0 (queue_of sub.conn queued) first.1 (pairwise-filter is_other (is_by sub.conn) queued.events
      (queues-replay filled inner form keeps before).events)
      ∙ ap (λ (l : List Sub). sub ∷ l) (filter_swap (is_other sub) (is_by sub.conn) queued.events
      ∙ sym (ap (λ (q : Queued). queue_of sub.conn q) is.behind))
