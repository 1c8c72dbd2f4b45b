-- Every command leads from content to content.
use Rattle.lock_model.proofs.Imports.{◌≡◌, ℕ, ◌+◌, ◌≤◌, Bool, true, false, not, cond, List, Option, Some, None, is_some, length, map, refl, ◌∙◌, arith, list_all, and_parts, and_from, not-true, leb-true, length-map, Caps, ConnId, Refusal, Resource, Decision, Keep, Deny, Notify, LockCmd, Obtain, Alter, Release, Decide, RtRead, RtDelete, list_all-filter, list_all-filter_same, list_all_always, all_from_none, any_is_found, length-filter-le, sum_by-filter-le, list_all-insertion, length-insertion, Waiter, is_waiter, waits, waiters_without, stands_before, Interest, is_of, has_interest, interests_with, interests_without, interests_changed, may_own, Content, IsContent, is_due, records_of, records_in, settlement_of, held_by, grant, interested_refusal, records_refusal, content_asked, wait_settlement, cause, done, queue-filter, queue-with, none_hold}
use Rattle.lock_model.specs.Grants as grants
use Rattle.lock_model.specs.Commands.Obtain as obtain
use Rattle.lock_model.specs.Commands.Alter as alter
use Rattle.lock_model.specs.Commands.Release as release
use Rattle.lock_model.specs.Commands.Decide as decide
use Rattle.lock_model.specs.Commands.RtDelete as rt_delete
use Rattle.lock_model.proofs.InterestLaws.{interests-same, KeepsState, has-without, has-map, interests-filter, records-map}
use Rattle.lock_model.proofs.GrantLaws.{waiter_part}
use Rattle.lock_model.proofs.ContentLaws.{items_in, led_grant, due_all, owners-granted, has-granted}

-- ---- causes

unrefused : (b : Bool) (refusal : Refusal) → cond b (Some refusal) None ≡ None → b ≡ false
unrefused b refusal h = grind arith

uninterested : (o : Option Interest) → interested_refusal o ≡ None → is_some o ≡ false
uninterested o h = grind arith

within : (caps : Caps) (content : Content) → records_refusal caps content ≡ None → records_in content ≤ caps.elements
within caps content h = grind (arith, leb-true)

-- ---- requests

content-at_once : (caps : Caps) (w : Waiter) (content : Content) → IsContent caps content
    → waits w.r w.conn content.waiters ≡ false → may_own (held_by w) content.interests ≡ true
    → records_refusal caps (content_asked true w content) ≡ None → IsContent caps (content_asked true w content)
content-at_once caps w content is out may few = record {
  owners = owners-granted w.alter w content.interests is.owners may;
  queue = is.queue;
  due = due_all _ _ (λ v. not (is_waiter w.r w.conn v)) _ (λ v h. has-granted w.alter w v content.interests h)
      is.due (all_from_none (is_waiter w.r w.conn) content.waiters out);
  records = within caps (content_asked true w content) few;
}

content-waiting : (caps : Caps) (w : Waiter) (content : Content) → IsContent caps content
    → is_due content.interests w ≡ true
    → records_refusal caps (content_asked false w content) ≡ None → IsContent caps (content_asked false w content)
content-waiting caps w content is due few =
    let rest = waiters_without w.r w.conn content.waiters in
    record {
      owners = is.owners;
      queue = queue-with w content.waiters is.queue;
      due = list_all-insertion (is_due content.interests) (λ other. stands_before other w) w rest ∙ and_from (is_due
          content.interests w) (list_all (is_due content.interests) rest) due (grind (arith, list_all-filter));
      records = within caps (content_asked false w content) few;
    }

obtained : (caps : Caps) (w : Waiter) (content : Content) → IsContent caps content
    → waits w.r w.conn content.waiters ≡ false → is_due content.interests w ≡ true → (b : Bool)
    → obtain.at_once w content ≡ b → records_refusal caps (content_asked b w content) ≡ None
    → IsContent caps (cond b (settlement_of (content_asked true w content)) (wait_settlement w content)).content
obtained caps w content is out due b e few = grind (arith, content-at_once, and_parts, content-waiting)

altered : (caps : Caps) (w : Waiter) (content : Content) → IsContent caps content
    → waits w.r w.conn content.waiters ≡ false → is_due content.interests w ≡ true → (b : Bool)
    → alter.at_once w content ≡ b → records_refusal caps (content_asked b w content) ≡ None
    → IsContent caps (cond b (grant w.r (content_asked true w content)) (wait_settlement w content)).content
altered caps w content is out due true e few = (led_grant _ _ _ (content-at_once _ w _ is out e few)).content
altered caps w content is out due false e few = content-waiting caps w content is due few

pub content-alter : (caps : Caps) (content : Content) (by : ConnId) (r : Resource) (excl : Bool)
    (rec : Option (List ℕ)) → IsContent caps content → cause caps content by (Alter r excl rec) ≡ None
    → IsContent caps (alter.after (alter.request by r excl rec) content).content
content-alter caps content by r excl rec is h = grind (arith, none_hold, unrefused, any_is_found, altered)

-- ---- interests and waiters go

-- a waiter of another part
other_part : (r : Resource) (conn : ConnId) (v : Waiter) (interests : List Interest) → not (is_waiter r conn v) ≡ true
    → has_interest v.r v.conn (interests_without r conn interests) ≡ has_interest v.r v.conn interests
other_part r conn v interests h = grind (arith, has-without, not-true, waiter_part)

content-released : (caps : Caps) (r : Resource) (conn : ConnId) (content : Content) → IsContent caps content
    → waits r conn content.waiters ≡ false
    → IsContent caps (record content { interests = interests_without r conn content.interests })
content-released caps r conn content is out = record {
  owners = interests-filter (λ x. not (is_of r conn x)) content.interests is.owners;
  queue = is.queue;
  due = due_all content.interests (interests_without r conn content.interests) (λ v. not (is_waiter r conn v))
      content.waiters (grind (arith, other_part)) is.due (all_from_none (is_waiter r conn) content.waiters out);
  records = omega (
    arith,
    is.records,
    sum_by-filter-le (λ (x : Interest). records_of x.rec) (λ x. not (is_of r conn x)) content.interests,
  );
}

pub content-release : (caps : Caps) (content : Content) (by : ConnId) (r : Resource) → IsContent caps content
    → cause caps content by (Release r) ≡ None → IsContent caps (release.after by r content).content
content-release caps content by r is h =
    let causes = none_hold (release.causes by r content) h in
    let gone : Content = record content { interests = interests_without r by content.interests } in
    (led_grant caps r gone (content-released caps r by content is (grind (arith, unrefused)))).content

content-denied : (caps : Caps) (r : Resource) (conn : ConnId) (content : Content) → IsContent caps content
    → IsContent caps (decide.content_denied r conn content)
content-denied caps r conn content is = record {
  owners = is.owners;
  queue = queue-filter (λ v. not (is_waiter r conn v)) content.waiters is.queue;
  due = list_all-filter (is_due content.interests) (λ v. not (is_waiter r conn v)) content.waiters is.due;
  records = omega (
    arith,
    is.records,
    sum_by-filter-le (λ (v : Waiter). records_of v.rec) (λ v. not (is_waiter r conn v)) content.waiters,
  );
}

pub content-decide : (caps : Caps) (content : Content) (r : Resource) (conn : ConnId) (how : Decision)
    → IsContent caps content → IsContent caps (decide.after how r conn content).content
content-decide caps content r conn Keep is = is
content-decide caps content r conn Deny is = (led_grant _ r _ (content-denied _ r _ _ is)).content
content-decide caps content r conn Notify is = is

-- ---- record data go

unrecorded_step : (b : Bool) (x : Interest)
    → records_of (cond b (rt_delete.without_record x) x).rec ≤ records_of x.rec
unrecorded_step b x = grind arith

abbrev pub unrecorded : Resource → ConnId → Interest → Interest
unrecorded r conn x = cond (is_of r conn x) (rt_delete.without_record x) x

unrecorded-keeps : (r : Resource) (conn : ConnId) → KeepsState (unrecorded r conn)
unrecorded-keeps r conn = grind arith

content-unrecorded : (caps : Caps) (r : Resource) (conn : ConnId) (content : Content) → IsContent caps content
    → IsContent caps (rt_delete.content_unrecorded r conn content)
content-unrecorded caps r conn content is =
    let keeps = unrecorded-keeps r conn in
    record {
      owners = interests-same (unrecorded r conn) keeps content.interests is.owners;
      queue = is.queue;
      due = due_all content.interests (map (unrecorded r conn) content.interests) (λ v. true) content.waiters
          (λ v h. has-map (unrecorded r conn) keeps.part v.r v.conn content.interests) is.due
          (list_all_always (λ v. true) (λ v. refl) content.waiters);
      records = omega (
        arith,
        is.records,
        records-map (unrecorded r conn) (λ x. unrecorded_step (is_of r conn x) x) content.interests,
      );
    }

content-unowned : (caps : Caps) (r : Resource) (conn : ConnId) (content : Content) → IsContent caps content
    → IsContent caps (rt_delete.content_unowned r conn content)
content-unowned caps r conn content is = record {
  owners = interests-filter (λ x. not (is_of r conn x)) content.interests is.owners;
  queue = queue-filter (λ v. not (is_waiter r conn v)) content.waiters is.queue;
  due = due_all content.interests (interests_without r conn content.interests) (λ v. not (is_waiter r conn v))
      (waiters_without r conn content.waiters) (λ v h. other_part r conn v content.interests h)
      (grind (arith, list_all-filter)) (list_all-filter_same (λ v. not (is_waiter r conn v)) content.waiters);
  records = omega (
    arith,
    is.records,
    sum_by-filter-le (λ (x : Interest). records_of x.rec) (λ x. not (is_of r conn x)) content.interests,
    sum_by-filter-le (λ (v : Waiter). records_of v.rec) (λ v. not (is_waiter r conn v)) content.waiters,
  );
}

deleted : (caps : Caps) (r : Resource) (conn : ConnId) (content : Content) → IsContent caps content → (b : Bool)
    → IsContent caps (cond b (grant r (rt_delete.content_unowned r conn content))
    (settlement_of (rt_delete.content_unrecorded r conn content))).content
deleted caps r conn content is true = (led_grant _ r _ (content-unowned _ r _ _ is)).content
deleted caps r conn content is false = content-unrecorded caps r conn content is

pub content-rt_delete : (caps : Caps) (content : Content) (r : Resource) (conn : ConnId) → IsContent caps content
    → IsContent caps (rt_delete.after r conn content).content
content-rt_delete caps content r conn is = deleted _ r _ _ is _

-- ---- every command

pub content-done : (caps : Caps) (content : Content) (by : ConnId) (cmd : LockCmd) → IsContent caps content
    → cause caps content by cmd ≡ None → IsContent caps (done content by cmd).state
content-done caps content by (Obtain r excl rec) is h =
    grind (arith, none_hold, unrefused, any_is_found, uninterested, obtained)
content-done caps content by (Alter r excl rec) is h = content-alter caps content by r excl rec is h
content-done caps content by (Release r) is h = content-release caps content by r is h
content-done caps content by (Decide r conn how) is h = content-decide caps content r conn how is
content-done caps content by (RtRead conn) is h = is
content-done caps content by (RtDelete conn r) is h = content-rt_delete caps content r conn is

-- ---- a command makes one item more at most

granted_items : (b : Bool) (w : Waiter) (interests : List Interest)
    → length (cond b (interests_changed w.r w.conn (grants.with_alteration w) interests)
    (interests_with (record { held = held_by w; rec = w.rec }) interests)) ≤ length interests + 1
granted_items true w interests =
    omega (arith, length-map interests (λ x. cond (is_of w.r w.conn x) (grants.with_alteration w x) x))
granted_items false w interests = grind (arith, length-insertion, length-filter-le)

asked_items : (b : Bool) (w : Waiter) (content : Content) → items_in (content_asked b w content) ≤ items_in content +
    1
asked_items b w content = grind (arith, granted_items, length-insertion, length-filter-le)

altered_items : (caps : Caps) (w : Waiter) (content : Content)
    → IsContent caps content → waits w.r w.conn content.waiters ≡ false
    → (b : Bool) → alter.at_once w content ≡ b → records_refusal caps (content_asked b w content) ≡ None → items_in
    (cond b (grant w.r (content_asked true w content)) (wait_settlement w content)).content ≤ items_in content + 1
altered_items caps w content is out true e few =
    let led = led_grant caps w.r _ (content-at_once caps w content is out e few) in
    omega (arith, asked_items true w content, led.items)
altered_items caps w content is out false e few = asked_items false w content

deleted_items : (caps : Caps) (r : Resource) (conn : ConnId) (content : Content) → IsContent caps content → (b : Bool)
    → items_in (cond b (grant r (rt_delete.content_unowned r conn content))
    (settlement_of (rt_delete.content_unrecorded r conn content))).content ≤ items_in content + 1
deleted_items caps r conn content is true =
    let led = led_grant caps r _ (content-unowned caps r conn content is) in
    let few = length-filter-le (λ x. not (is_of r conn x)) content.interests in
    omega (arith, few, length-filter-le (λ v. not (is_waiter r conn v)) content.waiters, led.items)
deleted_items caps r conn content is false = omega (arith, length-map content.interests (unrecorded r conn))

decided_items : (caps : Caps) (r : Resource) (conn : ConnId) (content : Content) → IsContent caps content
    → (how : Decision) → items_in (decide.after how r conn content).content ≤ items_in content + 1
decided_items caps r conn content is Keep = omega arith
decided_items caps r conn content is Deny =
    let led = led_grant caps r _ (content-denied caps r conn content is) in
    omega (arith, length-filter-le (λ v. not (is_waiter r conn v)) content.waiters, led.items)
decided_items caps r conn content is Notify = omega arith

pub items-done : (caps : Caps) (content : Content) (by : ConnId) (cmd : LockCmd) → IsContent caps content
    → cause caps content by cmd ≡ None → items_in (done content by cmd).state ≤ items_in content + 1
items-done caps content by (Obtain r excl rec) is h = grind (arith, asked_items)
items-done caps content by (Alter r excl rec) is h = grind (arith, none_hold, unrefused, altered_items)
items-done caps content by (Release r) is h =
    let causes = none_hold (release.causes by r content) h in
    let gone : Content = record content { interests = interests_without r by content.interests } in
    omega (
      arith,
      length-filter-le (λ x. not (is_of r by x)) content.interests,
      (led_grant caps r gone (content-released caps r by content is (grind (arith, unrefused)))).items,
    )
items-done caps content by (Decide r conn how) is h = decided_items caps r conn content is how
items-done caps content by (RtRead conn) is h = omega arith
items-done caps content by (RtDelete conn r) is h = deleted_items _ r _ _ is _
