-- The events of a structure's connectors: those that wait, and those taken that are to be answered.
use Rattle.std.specs.Prelude.{Bool, true, false, if◌then◌else◌, List, [], ◌∷◌, ◌++◌, fold, map, drop, replicate, Option, None, unwrap_or, slice_get, slice_set}
use Rattle.cf_types.specs.declared.limits.TheConstants.{CALLERS}
use Rattle.cf_types.specs.declared.numbers.ConnId.{ConnId}
use Rattle.cf_types.specs.declared.events.Event.{Event}
use Rattle.cf_types.specs.declared.events.Event.TheVariants.{NewConn, DiscFail, Quiesce, RebuildConnect, ConnectsDone, Cleanup, Complete, Stop, StopDone, LostConn, StrFail, Contention, Notify, Granted, Denied}
use Rattle.cf_types.specs.declared.events.Letter.{Letter}

-- the events that wait, in the order in which they were sent, and those taken that owe a response, in the order in
-- which they were taken
pub record Mailbox : Type 0 where
  pub waiting : List Event
  pub owed : List Event

-- a mailbox for each connector's number, from 0
abbrev pub Mailboxes : Type 0
Mailboxes = List Mailbox

abbrev pub no_events : Mailbox
no_events = record { waiting = []; owed = [] }

unfoldable pub empty_mail : Mailboxes
empty_mail = replicate CALLERS no_events

abbrev pub mailbox_of : Mailboxes → ConnId → Mailbox
mailbox_of mail conn = unwrap_or (slice_get mail conn.0) no_events

-- whether an event is to be answered
abbrev pub owes_response : Event → Bool
owes_response (NewConn conn) = false
owes_response (DiscFail conn) = true
owes_response (Quiesce number) = true
owes_response (RebuildConnect number) = false
owes_response (ConnectsDone number) = false
owes_response (Cleanup number) = true
owes_response (Complete number) = false
owes_response (Stop number) = true
owes_response (StopDone number) = false
owes_response (LostConn cf) = false
owes_response StrFail = false
owes_response (Contention r conn) = false
owes_response (Notify r conn) = false
owes_response (Granted r excl) = false
owes_response (Denied r) = false

-- a letter is put last in its connector's mailbox
abbrev pub with_letter : Mailboxes → Letter → Mailboxes
with_letter mail letter =
    let box = mailbox_of mail letter.to in
    slice_set mail letter.to.0 (record box { waiting = box.waiting ++ letter.event ∷ [] })

-- letters are posted in their order
abbrev pub with_letters : Mailboxes → List Letter → Mailboxes
with_letters mail letters = fold with_letter mail letters

-- the same event to each of these
abbrev pub letters_to : List ConnId → Event → List Letter
letters_to conns event = map (λ conn. record { to = conn; event = event }) conns

abbrev pub first_event : List Event → Option Event
first_event [] = None
first_event (event ∷ events) = Option.Some event

-- the event that a connector would be given next, and the one that it would answer
abbrev pub next_event : Mailboxes → ConnId → Option Event
next_event mail conn = first_event (mailbox_of mail conn).waiting

abbrev pub owed_event : Mailboxes → ConnId → Option Event
owed_event mail conn = first_event (mailbox_of mail conn).owed

-- the first event that waits is taken; where it is to be answered it is owed from now on
abbrev pub box_taken : Mailbox → Mailbox
box_taken box = taking box.waiting
  where
    taking : List Event → Mailbox
    taking [] = box
    taking (event ∷ events) =
        record { waiting = events; owed = if owes_response event then box.owed ++ event ∷ [] else box.owed }

abbrev pub with_taken : ConnId → Mailboxes → Mailboxes
with_taken conn mail = slice_set mail conn.0 (box_taken (mailbox_of mail conn))

-- the oldest event that is owed is answered
abbrev pub with_response : ConnId → Mailboxes → Mailboxes
with_response conn mail =
    let box = mailbox_of mail conn in slice_set mail conn.0 (record box { owed = drop 1 box.owed })

-- a connector's events end
abbrev pub with_cleared : ConnId → Mailboxes → Mailboxes
with_cleared conn mail = slice_set mail conn.0 no_events
