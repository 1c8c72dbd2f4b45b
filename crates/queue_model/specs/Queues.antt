-- Monitors of sublists, and queues of events.
use Rattle.std.specs.Prelude.{ℕ, ◌==◌, Bool, IsTrue, not, ◌&&◌, nat_le, if◌then◌else◌, List, [], ◌∷◌, ◌++◌, filter, find, fold, Option, None, Some}
use Rattle.std.specs.List.{list_all, list_any}
use Rattle.cf_types.specs.declared.names.Key16.{Key16}
use Rattle.cf_types.specs.declared.numbers.ConnId.{ConnId}
use Rattle.cf_lists.specs.Insertions.{insertion}
use Rattle.cf_lists.specs.Pairwise.{pairwise}
use Rattle.list_model.specs.Keys.{same_key}
use Rattle.queue_model.specs.declared.subs.Sub.{Sub}
pub use Rattle.queue_model.specs.declared.subs.Queued.{Queued}

abbrev pub no_queues : Queued
no_queues = record { monitors = []; events = [] }

abbrev pub is_by : ConnId → Sub → Bool
is_by conn sub = sub.conn.0 == conn.0

abbrev pub same_sub : Sub → Sub → Bool
same_sub sub other = (sub.conn.0 == other.conn.0) && ((sub.header == other.header) && same_key sub.key other.key)

abbrev pub has : List Sub → Sub → Bool
has subs sub = list_any (same_sub sub) subs

abbrev pub is_other : Sub → Sub → Bool
is_other sub other = not (same_sub sub other)

abbrev pub without : Sub → List Sub → List Sub
without sub subs = filter (is_other sub) subs

-- an event comes last in its connector's queue
abbrev pub stands_before : Sub → Sub → Bool
stands_before sub other = nat_le other.conn.0 sub.conn.0

abbrev pub with_event : List Sub → Sub → List Sub
with_event events sub = insertion (stands_before sub) sub events

-- whether a sublist has records, by its header and its key
abbrev pub Filled : Type 0
Filled = ℕ → Key16 → Bool

abbrev pub is_filled : Filled → Sub → Bool
is_filled filled sub = filled sub.header sub.key

-- a sublist has records and had none, or had some and has none
abbrev pub is_newly : (before after : Filled) → Sub → Bool
is_newly before after sub = not (is_filled before sub) && is_filled after sub

abbrev pub is_emptied : (before after : Filled) → Sub → Bool
is_emptied before after sub = is_filled before sub && not (is_filled after sub)

abbrev pub stays : (before after : Filled) → Sub → Bool
stays before after sub = not (is_emptied before after sub)

-- behind a command on records: for each monitor, in their order, the event of a sublist that has records now and had
-- none comes, and that of one that had some and has none goes
abbrev pub settled : (before after : Filled) → Queued → Queued
settled before after queued =
    record {
      monitors = queued.monitors;
      events = fold with_event (filter (stays before after) queued.events)
          (filter (is_newly before after) queued.monitors);
    }

abbrev pub is_of_other : ConnId → Sub → Bool
is_of_other conn sub = not (is_by conn sub)

abbrev pub left_by : ConnId → Queued → Queued
left_by conn queued =
    record {
      monitors = filter (is_of_other conn) queued.monitors;
      events = filter (is_of_other conn) queued.events;
    }

abbrev pub events_if : Bool → Sub → List Sub → List Sub
events_if full sub events = if full then with_event events sub else events

abbrev pub monitored : Bool → Sub → Queued → Queued
monitored full sub queued =
    if has queued.monitors sub then queued
    else record { monitors = queued.monitors ++ sub ∷ []; events = events_if full sub queued.events }

abbrev pub unmonitored : Sub → Queued → Queued
unmonitored sub queued =
    record { monitors = without sub queued.monitors; events = without sub queued.events }

-- the first of a connector's queue
abbrev pub first_of : ConnId → Queued → Option Sub
first_of conn queued = find (is_by conn) queued.events

abbrev pub taken : Option Sub → Queued → Queued
taken None queued = queued
taken (Some sub) queued = record queued { events = without sub queued.events }

-- ---- what holds of them

-- by connector
abbrev pub in_turn : Sub → Sub → Bool
in_turn sub other = nat_le sub.conn.0 other.conn.0

-- each monitor and each event is there once; an event is of a sublist that has records, and that its connector monitors;
-- and the events are by connector
pub record IsQueued (filled : Filled) (queued : Queued) : Type 0 where
  pub monitors : IsTrue (pairwise is_other queued.monitors)
  pub events : IsTrue (pairwise is_other queued.events)
  pub each_filled : IsTrue (list_all (is_filled filled) queued.events)
  pub known : IsTrue (list_all (has queued.monitors) queued.events)
  pub ordered : IsTrue (pairwise in_turn queued.events)

-- each event is of a sublist that its connector monitors, so that there is none where nothing is monitored. No more is
-- said of a content: a copy that isn't whole has events of sublists whose records it lacks, and would get them twice if
-- it had commands
abbrev pub AreKnown : Queued → Type 0
AreKnown queued = IsTrue (list_all (has queued.monitors) queued.events)
