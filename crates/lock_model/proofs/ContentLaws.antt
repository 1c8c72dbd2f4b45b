-- The grant rule leads from content to content, with no more record data and no more items.
use Rattle.lock_model.proofs.Imports.{◌≡◌, ℕ, ◌+◌, ◌≤◌, Bool, true, false, not, ◌&&◌, cond, List, [], ◌∷◌, Some, length, find, refl, ap, ◌∙◌, arith, list_all, and_parts, not-true, length-map, Caps, Letter, Resource, same_part, same_part-eq, same_part-refl, same_part_comm, pairwise, list_all-filter, list_all-filter_same, list_all_weaker, list_all_both, pairwise-filter, Waiter, is_on, is_waiter, waiters_of, waiters_without, are_apart, Interest, AreInterests, has_interest, interests_with, interests_changed, may_own, parts_apart, Content, IsContent, is_due, records_of, records_owned, records_in, held_by, with_alteration, interests_granted, content_granted, granted_letter, Settlement, settlement_of, with_letters_before, grants, grant, grant_each, queue-filter, sum_by-insertion, sum_by-filter-le, length-insertion, length-filter-le}
use Rattle.cf_lists.proofs.KeyLaws as keys
use Rattle.lock_model.proofs.InterestLaws.{has-with, has-map, interests-with}
use Rattle.lock_model.proofs.GrantLaws.{waiter_part as part_of, alteration, alteration-keeps, interests-altered, records-altered}

-- ---- a content that another one leads to

abbrev pub items_in : Content → ℕ
items_in content = length content.interests + length content.waiters

pub record Led (caps : Caps) (old new : Content) : Type 0 where
  pub content : IsContent caps new
  pub records : records_in new ≤ records_in old
  pub items : items_in new ≤ items_in old

pub led_on : (caps : Caps) (old middle new : Content) → Led caps old middle → Led caps middle new → Led caps old new
led_on caps old middle new one two = grind arith

-- ---- interests change, and no waiter's own comes or goes

due_same : (old new : List Interest) (w : Waiter) → has_interest w.r w.conn new ≡ has_interest w.r w.conn old
    → is_due old w ≡ true → is_due new w ≡ true
due_same old new w e h = ap (λ has. cond w.alter has (not has)) e ∙ h

pub due_all : (old new : List Interest) (q : Waiter → Bool) (waiters : List Waiter)
    → ((w : Waiter) → q w ≡ true → has_interest w.r w.conn new ≡ has_interest w.r w.conn old)
    → list_all (is_due old) waiters ≡ true → list_all q waiters ≡ true → list_all (is_due new) waiters ≡ true
due_all old new q waiters h due all = list_all_weaker (λ w. is_due old w && q w) (is_due new)
    (grind (arith, and_parts, due_same)) waiters (list_all_both (is_due old) q waiters due all)

-- ---- a waiter is granted

abbrev pub granted_as : Bool → Waiter → List Interest → List Interest
granted_as alter w interests = cond alter (interests_changed w.r w.conn (with_alteration w) interests)
    (interests_with (record { held = held_by w; rec = w.rec }) interests)

pub owners-granted : (alter : Bool) (w : Waiter) (interests : List Interest)
    → AreInterests interests → may_own (held_by w) interests ≡ true → AreInterests (granted_as alter w interests)
owners-granted true w interests are may = interests-altered w interests are may
owners-granted false w interests are may = interests-with (record { held = held_by w; rec = w.rec }) interests are may

pub has-granted : (alter : Bool) (w v : Waiter) (interests : List Interest) → not (is_waiter w.r w.conn v) ≡ true
    → has_interest v.r v.conn (granted_as alter w interests) ≡ has_interest v.r v.conn interests
has-granted true w v interests h = has-map (alteration w) (alteration-keeps w) v.r v.conn interests
has-granted false w v interests h = has-with v.r v.conn (record { held = held_by w; rec = w.rec })
    interests (same_part_comm (part_of w) (part_of v) ∙ not-true (same_part (part_of v) (part_of w)) h)

pub records-granted : (alter : Bool) (w : Waiter) (interests : List Interest) → pairwise parts_apart interests ≡ true
    → records_owned (granted_as alter w interests) ≤ records_owned interests + records_of w.rec
records-granted true w interests u = records-altered w interests u
records-granted false w interests u = grind (arith, sum_by-insertion, sum_by-filter-le)

pub length-granted : (alter : Bool) (w : Waiter) (interests : List Interest)
    → length (granted_as alter w interests) ≤ length interests + 1
length-granted true w interests = omega (arith, length-map interests (alteration w))
length-granted false w interests = grind (arith, length-insertion, length-filter-le)

pub led_granted : (caps : Caps) (w : Waiter) (content : Content) → IsContent caps content
    → find (is_waiter w.r w.conn) content.waiters ≡ Some w → may_own (held_by w) content.interests ≡ true
    → Led caps content (content_granted w content)
led_granted caps w content is found may =
    let rest = waiters_without w.r w.conn content.waiters in
    let gone = keys.sum_by_without part_of same_part same_part-eq
    same_part-refl (λ v. records_of v.rec) (part_of w) content.waiters w is.queue.one_each found in
    let shorter = keys.length_without part_of same_part same_part-eq same_part-refl (part_of w) content.waiters w
    is.queue.one_each found in
    let records = records-granted w.alter w content.interests is.owners.one_each in
    let long = length-granted w.alter w content.interests in
    let fewer : records_in (content_granted w content) ≤ records_in content = omega (arith, gone, records) in
    record {
      content = record {
        owners = owners-granted w.alter w content.interests is.owners may;
        queue = queue-filter (λ v. not (is_waiter w.r w.conn v)) content.waiters is.queue;
        due = due_all content.interests (interests_granted w content.interests) (λ v. not (is_waiter w.r w.conn v))
            rest (λ v h. has-granted w.alter w v content.interests h) (grind (arith, list_all-filter))
            (list_all-filter_same (λ v. not (is_waiter w.r w.conn v)) content.waiters);
        records = omega (arith, fewer, is.records);
      };
      records = fewer;
      items = omega (arith, shorter, long);
    }

-- ---- several waiters, and the grant rule

abbrev pub AreWaiting : List Waiter → Content → Type 0
AreWaiting waiters content = keys.AllFound part_of same_part same_part-eq same_part-refl waiters content.waiters

led_step : (caps : Caps) (b : Bool) (content : Content) (letters : List Letter) (next : Settlement)
    → IsContent caps content → (b ≡ true → Led caps content next.content)
    → Led caps content (cond b (with_letters_before letters next) (settlement_of content)).content
led_step caps true content letters next is h = h refl
led_step caps false content letters next is h = grind arith

pub led_grants : (caps : Caps) (waiters : List Waiter) (content : Content) → IsContent caps content → AreWaiting
    waiters content → pairwise are_apart waiters ≡ true → Led caps content (grants waiters content).content
led_grants caps [] content is found u = grind arith
led_grants caps (w ∷ ws) content is found u =
    let later = and_parts (list_all (are_apart w) ws) (pairwise are_apart ws) u in
    led_step caps (may_own (held_by w) content.interests) content (granted_letter w ∷ [])
    (grants ws (content_granted w content)) is (λ may. let one = led_granted caps w content is found.0 may in
    led_on caps content (content_granted w content) (grants ws (content_granted w content)).content one (grind (
      arith,
      part_of,
      same_part-eq,
      same_part-refl,
      led_grants caps ws (content_granted w content) one.content (keys.found_without part_of
          same_part same_part-eq same_part-refl w ws content.waiters later.0 found.1) later.1,
    )))

pub led_grant : (caps : Caps) (r : Resource) (content : Content) → IsContent caps content
    → Led caps content (grant r content).content
led_grant caps r content is = led_grants caps (waiters_of r content.waiters) content
    is (keys.found_filter part_of same_part same_part-eq same_part-refl (is_on r) content.waiters is.queue.one_each)
    (pairwise-filter are_apart (is_on r) content.waiters is.queue.one_each)

pub led_grant_each : (caps : Caps) (rs : List Resource) (content : Content) → IsContent caps content
    → Led caps content (grant_each rs content).content
led_grant_each caps [] content is = grind arith
led_grant_each caps (r ∷ rs) content is =
    let one = led_grant _ r _ is in
    led_on _ _ _ _ one (led_grant_each caps rs (grant r content).content one.content)
