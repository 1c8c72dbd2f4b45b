-- After every history rows and registrations are in order, and where they are, names, indexes and registrations are
-- unique.
use Rattle.run_laws.proofs.Imports.{◌≡◌, ℕ, ◌≤◌, Bool, true, false, not, ◌&&◌, ◌||◌, ◌==◌, nat_lt, cond, List, [], ◌∷◌, Option, length, filter, refl, sym, ap, ◌∙◌, subst, arith, list_all, and_parts, false≢true, nat_tests, StrForm, Name16, ConnId, Refusal, same_name, unless_refused, pairwise, list_all_weaker, none_from_all, filter_none, Registration, is_for, names_apart as regs_apart, same_name-eq, Content, IsOrderly, no_content, cache_meaning, Calls, Leaves, Forgets, done, orderly-content, content-nothing, orderly-deed, IsKept, kept-replay, kept-seen, cache_in, CacheHistory, content_after, IsUnique, Caps, is_cache, Shape, IsContent, content-done, leave-content, content-moved, need-front, need-leave, ContentLaws, held-replay, IsWithin, altered_caches, AlterCmd, AlterContent, CacheCmd, IsTrue, shape_of, replay, IsAltered, altered-done, altered-empty, inner-altered, content-at, caps_or, capacity_after, None}
use Rattle.run_laws.proofs.Seen.{cache_seen}

-- ---- one at most

one_step : {X : Type 0} (p : X → Bool) (b : Bool) (x : X) (xs : List X)
    → (b ≡ true → filter p xs ≡ []) → length (filter p xs) ≤ 1 → length (cond b (x ∷ filter p xs) (filter p xs)) ≤ 1
one_step p b x xs none few = grind arith

-- where no two elements that pass stand in the relation, at most one passes
one_passes : {X : Type 0} (relation : X → X → Bool) (p : X → Bool) → ((x y : X) → p x ≡ true
    → relation x y ≡ true → not (p y) ≡ true) → (xs : List X) → pairwise relation xs ≡ true → length (filter p xs) ≤ 1
one_passes relation p apart [] h = omega arith
one_passes relation p apart (x ∷ xs) h =
    let parts = and_parts (list_all (relation x) xs) (pairwise relation xs) h in
    one_step p (p x)
    x xs (grind (arith, filter_none, none_from_all, list_all_weaker)) (one_passes relation p apart xs parts.1)

-- a name of its own
other_name : (a b name : Name16) → same_name a name ≡ true → not (same_name a b) ≡ true
    → not (same_name b name) ≡ true
other_name a b name same apart = go (same_name b name) refl
  where
    go : (s : Bool) → same_name b name ≡ s → not s ≡ true
    go false e = refl
    go true e =
        let here : same_name a b ≡ true = subst (λ (n : Name16). same_name a n ≡ true)
        (sym (same_name-eq b name e)) same in
        absurd (false≢true (sym (ap not here) ∙ apart))

other_place : (c i d j k n : ℕ) → (c == k) && (i == n) ≡ true → nat_lt c d || ((c == d) && nat_lt i j) ≡ true
    → not ((d == k) && (j == n)) ≡ true
other_place c i d j k n here before = grind (arith, nat_tests)

registered_once : (conn : ConnId) (name : Name16) (reg other : Registration)
    → is_for conn name reg ≡ true → regs_apart reg other ≡ true → not (is_for conn name other) ≡ true
registered_once conn name reg other here apart = grind (arith, and_parts, other_name, false≢true, nat_tests)

-- ---- every history leaves rows and registrations in order

pub orderly-kept : (form : StrForm) → IsKept cache_meaning form IsOrderly
orderly-kept form = record {
  empty = orderly-content form.caps no_content (content-nothing form.caps);
  done = λ caps content by command none is.
      subst (λ (refused : Option Refusal). IsOrderly (unless_refused refused content
      (done caps content by command)).state) none (orderly-deed form.vector content (Calls caps by command) is);
  leave = λ content conn keep is. orderly-deed form.vector content (Leaves conn) is;
  back = λ content conn is. is;
  forget = λ content is. orderly-deed form.vector content Forgets is;
}

pub orderly_replay : (form : StrForm) (history : CacheHistory) → IsOrderly (content_after form history)
orderly_replay form history = kept-replay altered_caches form refl (λ content. IsOrderly (cache_in content))
    (kept-seen altered_caches cache_meaning form (cache_seen form) IsOrderly (orderly-kept form)) history

pub unique-content : (content : Content) → IsOrderly content → IsUnique content
unique-content content is = grind (arith, one_passes, other_name, other_place, registered_once)

pub unique : (form : StrForm) (history : CacheHistory) → IsUnique (content_after form history)
unique form history = unique-content (content_after form history) (orderly_replay form history)

-- ---- limits, and the capacity of its instances

abbrev IsContentAt : Shape → Caps → Content → Type 0
IsContentAt shape caps content = IsContent caps content

-- a command leaves a content within its limits
altered_done : (shape : Shape) (caps : Caps) (content : AlterContent Content) (by : ConnId) (cmd : AlterCmd CacheCmd)
    → IsTrue (is_cache shape.kind) → IsAltered IsContentAt shape caps content
    → altered_caches.cause shape caps content by cmd ≡ None
    → IsAltered IsContentAt shape caps (altered_caches.done shape caps content by cmd).state
altered_done = altered-done cache_meaning is_cache IsContentAt
    (λ shape caps content by cmd kind is none. content-done shape.vector caps content by cmd is none) content-at

-- what a cache promises of its contents, and of what they need
promised : ContentLaws altered_caches is_cache (IsAltered IsContentAt)
promised = record {
  content_empty = λ shape caps. altered-empty cache_meaning is_cache IsContentAt shape caps
      no_content (content-nothing caps);
  items_empty = λ shape. refl;
  content_done = altered_done;
  content_leave = λ shape caps content conn keep is. inner-altered cache_meaning is_cache IsContentAt shape caps content
      _ is (leave-content (caps_or content.limits caps) content.inner conn is.inner);
  content_back = λ shape caps content conn is. is;
  content_moved = λ shape caps other content kind is fits. altered-empty cache_meaning is_cache IsContentAt shape other
      _ (content-moved shape (caps_or content.limits caps) other content.inner kind is.inner fits);
  need_first = need-front;
  need_leave = λ shape caps content conn keep kind is. need-leave shape.kind content.inner conn;
}

-- after every history neither the limits nor the target take more units than the capacity, and a content is within the
-- limits
pub altered_within : (form : StrForm) → IsTrue (is_cache form.kind) → (history : CacheHistory)
    → IsAltered IsContentAt (shape_of form) (capacity_after form history) (replay altered_caches form history).content
altered_within form kind history =
    (held-replay altered_caches is_cache (IsAltered IsContentAt) promised form kind history).content

pub content_within : (form : StrForm) (history : CacheHistory) → IsWithin form history
content_within form history kind = (altered_within form kind history).inner
