-- What the engine keeps of its content.
use Rattle.lock_core.proofs.Imports.{◌≡◌, ◌+◌, ◌≤◌, ◌<◌, ◌∷◌, List, Option, Some, None, false, Result, Ok, Err, OnOk, OnErr, ◌++◌, length, length-append, sym, ap, ◌∙◌, arith, length-map, length-take, Caps, ConnId, LockCmd, Waiter, Interest, Content, IsContent, records_in, items, need_of, content_with, content_without_last, with_returned, with_retained, cause, items_in, elements-items, entries-items, Plan, plan_for, LockItem, Owner, Waits, owner-next, waiter-next, content_placed, IsCounted, content-done, items-done}

-- the need of a content is the number of its interests, and of its record data
pub need-content : (content : Content)
    → record { entries = length content.interests; elements = records_in content } ≡ need_of (items content)
need-content content = grind (arith, entries-items, elements-items)

last_counted : (interests : List Interest) (waiters : List Waiter) → IsCounted (record {
  interests = interests;
  waiters = waiters;
}) → IsCounted (content_without_last (record { interests = interests; waiters = waiters }))
last_counted interests waiters h = grind (arith, length-take)

pub counted-last : (content : Content) → IsCounted content → IsCounted (content_without_last content)
counted-last content h = last_counted content.interests content.waiters h

pub counted-returned : (conn : ConnId) (content : Content) → IsCounted content → IsCounted (with_returned conn content)
counted-returned conn content h = omega (arith, h, length-map content.interests (with_retained conn false))

-- what was taken is what was there
pub taken_is : {X : Type 0} (taken before : Option X) (x y : X) → taken ≡ before → taken ≡ Some x → before ≡ Some y
    → x ≡ y
taken_is taken before x y e f g = let same : Some x ≡ Some y = sym f ∙ e ∙ g in cc

-- it isn't refused where the plan has no refusal
pub plan_accepted : (caps : Caps) (content : Content) (by : ConnId) (cmd : LockCmd) (plan : Plan)
    → plan ≡ plan_for caps content by cmd → plan.refusal ≡ None → cause caps content by cmd ≡ None
plan_accepted caps content by cmd plan e h = sym (ap (λ (p : Plan). p.refusal) e) ∙ h

-- ---- an item more

-- the next item of a content goes behind the others
pub placed-next : (caps : Caps) (content whole : Content) (item : LockItem) (others : List LockItem) → IsContent caps
    whole → items whole ≡ items content ++ item ∷ others → content_placed content item ≡ content_with content item
placed-next caps content whole (Owner held rec) others is e = sym (owner-next _ _ _ _ _ is e)
placed-next caps content whole (Waits w) others is e = sym (waiter-next caps content whole w others is e)

placed_items : (content : Content) (item : LockItem) → items_in (content_with content item) ≤ items_in content + 1
placed_items content item = grind (arith, length-append)

-- what is kept where the item is placed, and where it is handed back
pub kept_either : {E : Type 0} (caps : Caps) (result : Result (Unit {0}) E) (content now : Content) (item : LockItem)
    → OnOk result (now ≡ content_with content item) → OnErr result (now ≡ content)
    → OnOk result (items_in content < 4294967295) → IsContent caps (content_with content item)
    → IsContent caps content → IsCounted content → IsContent caps now × IsCounted now
kept_either caps result content now item placed same few next is counted = grind (arith, placed_items)

pub ok_weaker : {E : Type 0} (result : Result (Unit {0}) E) {P Q : Type 0} → (P → Q) → OnOk result P → OnOk result Q
ok_weaker (Ok u) h p = h p
ok_weaker (Err back) h p = p

pub ruleset done_told = (taken_is, plan_accepted, content-done, items-done)
