-- Waiters that are granted one after another.
use Rattle.lock_core.proofs.Imports.{arith, ◌≡◌, ◌+◌, Bool, true, false, cond, ◌∷◌, [], List, Option, Some, None, length, filter, find, refl, sym, ap, ◌∙◌, subst, ◌≤◌, Resource, Part, same_part, same_part-eq, same_part-refl, length-filter-le, sum_by-filter-le, ConnId, Waiter, IsQueue, waiters_without_conn, is_on, waiter_of, first_of, waiters_without, may_own, Content, records_of, records_waiting, settlement_of, with_letters_before, grants, grant, held_by, content_granted, granted_letter, waiters_of-first, if_grantable, next_of, append-nil, waiters_without-last}
use Rattle.cf_lists.proofs.KeyLaws as keys

abbrev part_of : Waiter → Part
part_of w = (w.r, w.conn)

-- ---- one that waits, and the others

pub length-waits : (w : Waiter) (waiters : List Waiter) → IsQueue waiters → waiter_of w.r w.conn waiters ≡ Some w
    → length (waiters_without w.r w.conn waiters) + 1 ≡ length waiters
length-waits w waiters is h =
    keys.length_without part_of same_part same_part-eq same_part-refl (part_of w) waiters w is.one_each h

pub records-waits : (w : Waiter) (waiters : List Waiter) → IsQueue waiters → waiter_of w.r w.conn waiters ≡ Some w
    → records_waiting (waiters_without w.r w.conn waiters) + records_of w.rec ≡ records_waiting waiters
records-waits w waiters is h = keys.sum_by_without part_of same_part
    same_part-eq same_part-refl (λ (v : Waiter). records_of v.rec) (part_of w) waiters w is.one_each h

-- the first that passes, and the others that do
pub record IsHead {X : Type 0} (x : X) (xs : List X) : Type 0 where
  pub rest : List X
  pub is : xs ≡ x ∷ rest

head_of : {X : Type 0} (p : X → Bool) (xs : List X) (y : X) → find p xs ≡ Some y → IsHead y (filter p xs)
head_of p [] y h = absurd (cc)
head_of p (x ∷ xs) y h = grind (arith, head_of p xs y)

nil_of : {X : Type 0} (p : X → Bool) (xs : List X) → find p xs ≡ None → filter p xs ≡ []
nil_of p [] h = refl
nil_of p (x ∷ xs) h = grind (arith, nil_of p xs)

-- ---- the next one that is granted

pub record IsNext (r : Resource) (content : Content) (w : Waiter) : Type 0 where
  pub first : first_of r content.waiters ≡ Some w
  pub may : may_own (held_by w) content.interests ≡ true

pub next-is : (content : Content) (r : Resource) (w : Waiter) → next_of r content ≡ Some w → IsNext r content w
next-is content r w h = grind arith

pub next-waits : (content : Content) (r : Resource) (w : Waiter)
    → IsQueue content.waiters → next_of r content ≡ Some w → waiter_of w.r w.conn content.waiters ≡ Some w
next-waits content r w is h =
    let head = head_of (is_on r) content.waiters w (next-is content r w h).first in
    (subst (λ (l : List Waiter). keys.AllFound part_of same_part same_part-eq same_part-refl l content.waiters)
    head.is (keys.found_filter part_of same_part same_part-eq same_part-refl (is_on r) content.waiters is.one_each)).0

-- it is granted, and then the others are
pub grant-next : (content : Content) (r : Resource) (w : Waiter) → IsQueue content.waiters → next_of r content ≡ Some
    w → grant r content ≡ with_letters_before (granted_letter w ∷ []) (grant r (content_granted w content))
grant-next content r w is h =
    let next = next-is content r w h in
    let head = head_of (is_on r) content.waiters w next.first in
    ap (λ (l : List Waiter). grants l content) head.is ∙ (grind arith)
    ∙ ap (λ (l : List Waiter). with_letters_before (granted_letter w ∷ []) (grants l (content_granted w content)))
    (sym (waiters_of-first r w content.waiters head.rest is head.is))

none_step : (content : Content) (r : Resource) (o : Option Waiter) → first_of r content.waiters ≡ o
    → if_grantable content.interests o ≡ None → grant r content ≡ settlement_of content
none_step content r None e h = ap (λ (l : List Waiter). grants l content) (nil_of (is_on r) content.waiters e)
none_step content r (Some v) e h = go (may_own (held_by v) content.interests) refl h
  where
    go : (t : Bool) → may_own (held_by v) content.interests ≡ t → cond t (Some v) None ≡ None
        → grant r content ≡ settlement_of content
    go true f g = absurd (cc)
    go false f g =
        let head = head_of (is_on r) content.waiters v e in
        ap (λ (l : List Waiter). grants l content) head.is ∙ rw f refl

-- none is granted any more
pub grant-none : (content : Content) (r : Resource) → next_of r content ≡ None → grant r content ≡ settlement_of content
grant-none content r h = none_step content r (first_of r content.waiters) refl h

-- ---- those that are left are no more

pub fewer-left : (conn : ConnId) (waiters : List Waiter) → (length (waiters_without_conn conn waiters) ≤ length
    waiters) × (records_waiting (waiters_without_conn conn waiters) ≤ records_waiting waiters)
fewer-left conn waiters = grind (arith, length-filter-le, sum_by-filter-le)

pub ruleset grant_told = (grant-next, grant-none, append-nil)

pub ruleset waits_told = (length-waits, records-waits, waiters_without-last)
