-- After every history, and after every command, any two owners of one resource are compatible.
use Rattle.run_laws.proofs.Imports.{◌≡◌, ℕ, ◌+◌, ◌≤◌, Bool, List, [], ◌∷◌, Option, None, refl, sym, subst, arith, fold, nat_tests, Caps, StrForm, LockCmd, ConnId, Refusal, Held, Shape, first_refusal, OwnersAreCompatible, records_in, lock_meaning, departure_of, with_returned, records_refusal, none_hold, led_departed, content-returned, compatible-interests, IsKept, kept-replay, Returns, LockHistory, unless_false}
use Rattle.lock_model.specs.Contents.{Content, IsContent, no_content}
use Rattle.lock_model.specs.Step.{cause, done}
use Rattle.lock_model.proofs.{CommandLaws.content-done, EngineLaws.content-nothing}
use Rattle.run_laws.specs.LockApplied.{Deed, IsHeldAfter, after_deed, content_applied}
use Rattle.run_laws.specs.{LockApplied.Deed.Calls, LockApplied.Deed.Leaves, LockHistories.content_after}

-- ---- at whatever capacity

abbrev room_for : ℕ → Caps
room_for records = record { entries = 0; elements = records }

-- a content with just the room that its record data take
abbrev AreLocks : Content → Type 0
AreLocks content = IsContent (room_for (records_in content)) content

-- what is a content at one capacity is one wherever its record data find room
with_room : (caps more : Caps) (content : Content) → IsContent caps content → records_in content ≤ more.elements
    → IsContent more content
with_room caps more content is few = record { owners = is.owners; queue = is.queue; due = is.due; records = few }

locks_of : (caps : Caps) (content : Content) → IsContent caps content → AreLocks content
locks_of caps content is = with_room caps (room_for (records_in content)) content is (omega arith)

compatible : (content : Content) → AreLocks content → OwnersAreCompatible content
compatible content are = compatible-interests (room_for (records_in content)) content are

-- ---- with room for more record data no more is refused

records_more : (caps more : Caps) (content : Content) → caps.elements ≤ more.elements
    → records_refusal caps content ≡ None → records_refusal more content ≡ None
records_more caps more content h none = grind (arith, nat_tests, unless_false)

none_of : (a b c : Option Refusal) → a ≡ None → b ≡ None → c ≡ None → first_refusal (a ∷ b ∷ c ∷ []) ≡ None
none_of a b c e f g i = first_refusal (e i ∷ f i ∷ g i ∷ [])

cause_more : (caps more : Caps) (content : Content) (by : ConnId) (cmd : LockCmd) → caps.elements ≤ more.elements
    → cause caps content by cmd ≡ None → cause more content by cmd ≡ None
cause_more caps more content by _ h none = grind (arith, none_hold, none_of, records_more)

-- ---- what is done to locks leaves locks

none_are : AreLocks no_content
none_are = content-nothing (room_for 0)

locks_done : (caps : Caps) (content : Content) (by : ConnId) (cmd : LockCmd) → cause caps content by cmd ≡ None
    → AreLocks content → AreLocks (done content by cmd).state
locks_done caps content by cmd none are =
    let room = room_for (caps.elements + records_in content) in
    locks_of room (done content by cmd).state (content-done room content by cmd
    (with_room _ room content are (omega arith)) (cause_more caps room content by cmd (omega arith) none))

locks_left : (content : Content) (conn : ConnId) (keep : Bool) → AreLocks content
    → AreLocks (departure_of conn keep content).content
locks_left content conn keep are = locks_of _ _ (led_departed _ conn keep content are).content

locks_back : (content : Content) (conn : ConnId) → AreLocks content → AreLocks (with_returned conn content)
locks_back content conn are = locks_of _ _ (content-returned _ conn content are)

-- ---- after every history

kept : (form : StrForm) → IsKept lock_meaning form AreLocks
kept form = record {
  empty = none_are;
  done = locks_done;
  leave = locks_left;
  back = locks_back;
  forget = λ content are. are;
}

pub owners_replay : (form : StrForm) (history : LockHistory) → OwnersAreCompatible (content_after form history)
owners_replay form history =
    compatible (content_after form history) (kept-replay lock_meaning form refl AreLocks (kept form) history)

-- ---- after every command

locks_after : (shape : Shape) (content : Content) (deed : Deed) → AreLocks content
    → AreLocks (after_deed shape content deed)
locks_after shape content (Calls caps by cmd) are = grind (arith, locks_done)
locks_after shape content (Leaves conn keep) are = locks_left content conn keep are
locks_after shape content (Returns conn) are = locks_back content conn are

locks_run : (shape : Shape) (content : Content) (deeds : List Deed) → AreLocks content
    → AreLocks (fold (after_deed shape) content deeds)
locks_run shape content [] are = are
locks_run shape content (deed ∷ deeds) are =
    locks_run shape (after_deed shape content deed) deeds (locks_after shape content deed are)

pub owners_applied : (held : Held Content) (deeds : List Deed) (by : ConnId) (cmd : LockCmd) → IsHeldAfter deeds held
    → OwnersAreCompatible (content_applied held by cmd)
owners_applied held deeds by cmd led = compatible (content_applied held by cmd)
    (locks_after held.shape held.state (Calls held.caps by cmd)
    (subst AreLocks (sym led) (locks_run held.shape no_content deeds none_are)))
