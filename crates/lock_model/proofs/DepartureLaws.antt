-- A departure leads from content to content, with no more record data and no more items; so does the return of a
-- connection.
use Rattle.lock_model.proofs.Imports.{◌≡◌, ◌≤◌, Bool, true, false, not, List, filter, sum_by, map, refl, ◌∙◌, arith, and_parts, or_left, eqb-true, length-map, Caps, ConnId, list_all-filter, list_all-filter_same, list_all_always, sum_by-filter-le, length-filter-le, Waiter, Interest, is_of, Content, IsContent, is_due, records_of, records_in, stays, with_retained, interests_left, resources_of, departure_of, with_returned, queue-filter, waiters_without_conn}
use Rattle.lock_model.proofs.InterestLaws.{interests-same, KeepsState, has-filter, has-map, interests-filter, records-map}
use Rattle.lock_model.proofs.ContentLaws.{Led, led_on, led_grant_each, due_all}
use Rattle.lock_queue.specs.Waiters.{is_by as is_by_waiter}

-- ---- retained, or not any more

pub retained-keeps : (conn : ConnId) (retained : Bool) → KeepsState (with_retained conn retained)
retained-keeps conn retained = record { part = record { r = λ x. refl; conn = λ x. refl }; excl = λ x. refl }

records-retained : (conn : ConnId) (retained : Bool) (interests : List Interest)
    → sum_by (λ (x : Interest). records_of x.rec) (map (with_retained conn retained) interests) ≤ sum_by
    (λ (x : Interest). records_of x.rec) interests
records-retained conn retained interests = records-map (with_retained conn retained) (λ x. omega arith) interests

pub content-returned : (caps : Caps) (conn : ConnId) (content : Content) → IsContent caps content
    → IsContent caps (with_returned conn content)
content-returned caps conn content is =
    let keeps = retained-keeps conn false in
    record {
      owners = interests-same (with_retained conn false) keeps content.interests is.owners;
      queue = is.queue;
      due = due_all content.interests (map (with_retained conn false) content.interests) (λ v. true) content.waiters
          (λ v h. has-map (with_retained conn false) keeps.part v.r v.conn content.interests) is.due
          (list_all_always (λ v. true) (λ v. refl) content.waiters);
      records = omega (arith, is.records, records-retained conn false content.interests);
    }

-- ---- a departure

-- an interest of another connector stays
other_stays : (conn : ConnId) (keep : Bool) (v : Waiter) (x : Interest)
    → not (is_by_waiter conn v) ≡ true → is_of v.r v.conn x ≡ true → stays conn keep x ≡ true
other_stays conn keep v x out is = grind (arith, eqb-true, and_parts, or_left)

abbrev pub content_left : ConnId → Bool → Content → Content
content_left conn keep content = record {
  interests = interests_left conn keep content.interests;
  waiters = waiters_without_conn conn content.waiters;
}

led_left : (caps : Caps) (conn : ConnId) (keep : Bool) (content : Content) → IsContent caps content
    → Led caps content (content_left conn keep content)
led_left caps conn keep content is =
    let keeps = retained-keeps conn true in
    let few = filter (stays conn keep) content.interests in
    let fewer : records_in (content_left conn keep content) ≤ records_in content = omega (
      arith,
      records-retained conn true few,
      sum_by-filter-le (λ (x : Interest). records_of x.rec) (stays conn keep) content.interests,
      sum_by-filter-le (λ (v : Waiter). records_of v.rec) (λ v. not (is_by_waiter conn v)) content.waiters,
    ) in
    record {
      content = record {
        owners = interests-same (with_retained conn true) keeps few
            (interests-filter (stays conn keep) content.interests is.owners);
        queue = queue-filter (λ v. not (is_by_waiter conn v)) content.waiters is.queue;
        due = due_all content.interests (interests_left conn keep content.interests) (λ v. not (is_by_waiter conn v))
            (waiters_without_conn conn content.waiters) (λ v h. has-map (with_retained conn true)
            keeps.part v.r v.conn few ∙ has-filter v.r v.conn (stays conn keep) (λ x e. other_stays conn keep v x h e)
            content.interests) (list_all-filter (is_due content.interests) (λ v. not (is_by_waiter conn v))
            content.waiters is.due) (list_all-filter_same (λ v. not (is_by_waiter conn v)) content.waiters);
        records = omega (arith, fewer, is.records);
      };
      records = fewer;
      items = omega (
        arith,
        length-map few (with_retained conn true),
        length-filter-le (stays conn keep) content.interests,
        length-filter-le (λ v. not (is_by_waiter conn v)) content.waiters,
      );
    }

pub led_departed : (caps : Caps) (conn : ConnId) (keep : Bool) (content : Content) → IsContent caps content
    → Led caps content (departure_of conn keep content).content
led_departed caps conn keep content is =
    let rs = resources_of conn content in
    let one = led_left caps conn keep content is in
    led_on _ _ _ _ one (led_grant_each caps rs (content_left conn keep content) one.content)
