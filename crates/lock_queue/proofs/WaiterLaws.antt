-- Waiters stay in order, with one of a connector for a resource.
use Rattle.lock_queue.proofs.Imports.{arith, ◌≡◌, Bool, true, false, not, ◌&&◌, ◌||◌, List, filter, refl, sym, ap, ◌∙◌, Ordering, Less, Equal, Greater, is_lt, ordering_reverse, and_from, and_parts, not-true, false≢true, Resource, resource_cmp, same_resource, resource_before, resource_up_to, resource_cmp_total, same_part_comm, same_resource-eq, list_all_weaker, list_all-filter_same, list_all_always, FindsPlace, pairwise-filter, pairwise-insertion, pairwise-insertion_any, resource_order, is_ahead, Waiter, is_on, is_waiter, waiters_with, waiters_without, stands_before, are_apart, IsQueue}

pub queue-filter : (q : Waiter → Bool) (waiters : List Waiter) → IsQueue waiters → IsQueue (filter q waiters)
queue-filter q waiters is = grind (arith, pairwise-filter)

-- ---- the order

-- one stands before another where its resource is before the other's, or it is the same and the first alters or the
-- second doesn't
abbrev ranked : Ordering → Bool → Bool → Bool
ranked Less a b = true
ranked Equal a b = a || not b
ranked Greater a b = false

ranked_step : (o : Ordering) (a b : Bool) → not (is_lt (ordering_reverse o)) && (is_lt o || a || not b) ≡ ranked o a b
ranked_step Less a b = refl
ranked_step Equal a b = refl
ranked_step Greater a b = refl

before_ranked : (x y : Waiter) → stands_before x y ≡ ranked (resource_cmp x.r y.r) x.alter y.alter
before_ranked x y = ap (λ o. not (is_lt o) && (is_lt (resource_cmp x.r y.r) || x.alter || not y.alter))
    (resource_cmp_total.antisymm y.r x.r) ∙ ranked_step (resource_cmp x.r y.r) x.alter y.alter

turned : (o : Ordering) (a b : Bool) → ranked o a b ≡ false → ranked (ordering_reverse o) b a ≡ true
turned Less a b h = absurd (false≢true (sym h))
turned Equal true b h = absurd (false≢true (sym h))
turned Equal false true h = refl
turned Equal false false h = absurd (false≢true (sym h))
turned Greater a b h = refl

stops : (waiter other : Waiter) → stands_before other waiter ≡ false → stands_before waiter other ≡ true
stops waiter other h = grind (arith, before_ranked, turned)

either_way : (a b c : Bool) → a || not b ≡ true → b || not c ≡ true → a || not c ≡ true
either_way true b c h e = refl
either_way false true c h e = absurd (false≢true h)
either_way false false c h e = e

chained : (x y z : Resource) (o p : Ordering) (a b c : Bool) → resource_cmp x y ≡ o → resource_cmp y z ≡ p
    → ranked o a b ≡ true → ranked p b c ≡ true → ranked (resource_cmp x z) a c ≡ true
chained x y z Less Less a b c e f h k = rw (resource_cmp_total.trans x y z e f) refl
chained x y z Less Equal a b c e f h k =
    let back : resource_cmp z y ≡ Equal = resource_cmp_total.antisymm z y ∙ ap ordering_reverse f in
    let same : resource_cmp x z ≡ Less = resource_cmp_total.antisymm x z
    ∙ ap ordering_reverse (resource_cmp_total.congr z y x back) ∙ sym (resource_cmp_total.antisymm x y) ∙ e in
    rw same refl
chained x y z Less Greater a b c e f h k = absurd (false≢true k)
chained x y z Equal Less a b c e f h k = rw (resource_cmp_total.congr x y z e, f) refl
chained x y z Equal Equal a b c e f h k = rw (resource_cmp_total.congr x y z e, f) (either_way a b c h k)
chained x y z Equal Greater a b c e f h k = absurd (false≢true k)
chained x y z Greater p a b c e f h k = absurd (false≢true h)

follows : (x y z : Waiter) → stands_before x y ≡ true → stands_before y z ≡ true → stands_before x z ≡ true
follows x y z h k = before_ranked x z ∙ chained x.r y.r z.r (resource_cmp x.r y.r) (resource_cmp y.r z.r)
    x.alter y.alter z.alter refl refl (sym (before_ranked x y) ∙ h) (sym (before_ranked y z) ∙ k)

finds_place : (waiter : Waiter) → FindsPlace stands_before (λ other. stands_before other waiter) (λ other. true)
    waiter
finds_place waiter = grind (arith, stops, follows)

apart_both : (waiter other : Waiter) → not (is_waiter waiter.r waiter.conn other) ≡ true
    → are_apart waiter other && are_apart other waiter ≡ true
apart_both waiter other h = and_from (are_apart waiter other)
    (are_apart other waiter) (ap not (same_part_comm (waiter.r, waiter.conn) (other.r, other.conn)) ∙ h) h

pub queue-with : (waiter : Waiter) (waiters : List Waiter) → IsQueue waiters → IsQueue (waiters_with waiter waiters)
queue-with waiter waiters is =
    let others = waiters_without waiter.r waiter.conn waiters in
    let kept = queue-filter (λ other. not (is_waiter waiter.r waiter.conn other)) waiters is in
    record {
      ordered = pairwise-insertion stands_before (λ other. stands_before other waiter) (λ other. true) waiter others
          (finds_place waiter) (list_all_always (λ (other : Waiter). true) (λ other. refl) others) kept.ordered;
      one_each = pairwise-insertion_any are_apart (λ other. stands_before other waiter) waiter
          others kept.one_each (list_all_weaker (λ other. not (is_waiter waiter.r waiter.conn other))
          (λ other. are_apart waiter other && are_apart other waiter) (apart_both waiter)
          others (list_all-filter_same (λ other. not (is_waiter waiter.r waiter.conn other)) waiters));
    }

-- ---- where a waiter is put, among all and in its entry

pub ahead_front : (waiter y : Waiter) → stands_before y waiter ≡ true → resource_before waiter.r y.r ≡ false
ahead_front waiter y h = grind (arith, not-true, and_parts)

pub ahead_stop : (waiter y : Waiter) → stands_before y waiter ≡ false → resource_before y.r waiter.r ≡ false
ahead_stop waiter y h = go (resource_before y.r waiter.r) refl
  where
    go : (b : Bool) → resource_before y.r waiter.r ≡ b → b ≡ false
    go false e = refl
    go true e =
        let up_to : resource_up_to y.r waiter.r ≡ true = ap not (resource_order.asym y.r waiter.r e) in
        absurd (false≢true (sym h ∙ rw (up_to, e) refl))

ahead_step : (u b s a w : Bool) → u ≡ true → b ≡ false → s ≡ true → u && (b || a || not w) ≡ not ((w && not a) && s)
ahead_step true false true true true e f g = refl
ahead_step true false true true false e f g = refl
ahead_step true false true false true e f g = refl
ahead_step true false true false false e f g = refl
ahead_step true false false a w e f g = absurd (false≢true g)
ahead_step true true s a w e f g = absurd (false≢true (sym f))
ahead_step false b s a w e f g = absurd (false≢true e)

pub ahead_agree : (waiter y : Waiter) → same_resource y.r waiter.r ≡ true → stands_before y waiter ≡ is_ahead y waiter
ahead_agree waiter y h =
    let same : y.r ≡ waiter.r = same_resource-eq y.r waiter.r h in
    ahead_step (resource_up_to y.r waiter.r) (resource_before y.r waiter.r) (same_resource y.r waiter.r) y.alter
    waiter.alter (rw same (ap not (resource_order.once waiter.r))) (rw same (resource_order.once waiter.r)) h

others_step : (w a s : Bool) → s ≡ false → not ((w && not a) && s) ≡ true
others_step true true false h = refl
others_step true false false h = refl
others_step false a false h = refl
others_step w a true h = absurd (false≢true (sym h))

pub ahead_others : (waiter y : Waiter) → same_resource y.r waiter.r ≡ false → is_ahead y waiter ≡ true
ahead_others waiter y h = others_step waiter.alter y.alter (same_resource y.r waiter.r) h

pub counts_on : (waiter y : Waiter) → is_on waiter.r y && (y.alter || not waiter.alter) ≡ true → is_on waiter.r y ≡ true
counts_on waiter y h = (and_parts (is_on waiter.r y) (y.alter || not waiter.alter) h).0
