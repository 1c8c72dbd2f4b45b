-- Items that come and go one after another: what a content is meanwhile, and where the one that is added or taken
-- away stands.
use Rattle.lock_model.proofs.Imports.{◌≡◌, ◌+◌, ◌-◌, Bool, true, not, cond, List, [], ◌∷◌, ◌++◌, append-nil, append_assoc, Some, length, filter, map, take, refl, sym, ap, ◌∙◌, subst, arith, list_all, slice_get, and_parts, and_from, take-append-drop, take_all, take_more, filter-append, list_all-append, sum_by-append, get_or_from_slice_get, is_lock, Caps, Resource, same_part, same_part-eq, same_part-refl, FrontLaws, fronts, pairwise, insertion, filter_all, filter_swap, all_from_none, pairwise-filter, pairwise_front, Waiter, is_on, is_waiter, waiters_of, waiters_without, waiters_with, stands_before, are_apart, IsQueue, LockItem, Owner, Waits, Interest, AreInterests, is_of, interests_with, interests_without, stands_up_to, parts_apart, Content, IsContent, owner, items, content_with, content_without_last, without_last, lock_meaning, insertion_behind}
use Rattle.cf_lists.proofs.KeyLaws as keys
use Rattle.lock_model.proofs.EngineLaws.{behind_owners, behind_items, nobody, content-nothing, made-items, content-moved, items-place, unplace-place}
use Rattle.lock_model.proofs.{InterestLaws.part_of, GrantLaws.waiter_part}

-- ---- the first items of a content

pub front-interests : (caps : Caps) (whole : Content) (interests more : List Interest) → IsContent caps whole
    → whole.interests ≡ interests ++ more → IsContent caps (record { interests = interests; waiters = [] })
front-interests caps whole interests more is e = grind (arith, pairwise_front, sum_by-append)

pub front-waiters : (caps : Caps) (whole : Content) (waiters more : List Waiter) → IsContent caps whole
    → whole.waiters ≡ waiters ++ more → IsContent caps (record { interests = whole.interests; waiters = waiters })
front-waiters caps whole waiters more is e = grind (arith, pairwise_front, and_parts, list_all-append, sum_by-append)

without_last_of : (caps : Caps) (interests : List Interest) (waiters : List Waiter)
    → IsContent caps (record { interests = interests; waiters = waiters })
    → IsContent caps (content_without_last (record { interests = interests; waiters = waiters }))
without_last_of caps interests [] is =
    front-interests caps _ _ _ is (sym (take-append-drop (length interests - 1) interests))
without_last_of caps interests (w ∷ ws) is =
    front-waiters caps _ _ _ is (sym (take-append-drop (length (w ∷ ws) - 1) (w ∷ ws)))

-- without its last item
pub content-without_last : (caps : Caps) (content : Content) → IsContent caps content
    → IsContent caps (content_without_last content)
content-without_last caps content is = without_last_of caps content.interests content.waiters is

-- ---- the interests and the waiters among items

abbrev pub owners_among : List LockItem → List Interest
owners_among [] = []
owners_among (Owner held rec ∷ xs) = record { held = held; rec = rec } ∷ owners_among xs
owners_among (Waits w ∷ xs) = owners_among xs

abbrev pub waiters_among : List LockItem → List Waiter
waiters_among [] = []
waiters_among (Owner held rec ∷ xs) = waiters_among xs
waiters_among (Waits w ∷ xs) = w ∷ waiters_among xs

owners_among-append : (xs ys : List LockItem) → owners_among (xs ++ ys) ≡ owners_among xs ++ owners_among ys
owners_among-append [] ys = refl
owners_among-append (Owner held rec ∷ xs) ys =
    ap (λ (l : List Interest). record { held = held; rec = rec } ∷ l) (owners_among-append xs ys)
owners_among-append (Waits w ∷ xs) ys = owners_among-append xs ys

waiters_among-append : (xs ys : List LockItem) → waiters_among (xs ++ ys) ≡ waiters_among xs ++ waiters_among ys
waiters_among-append [] ys = refl
waiters_among-append (Owner held rec ∷ xs) ys = waiters_among-append xs ys
waiters_among-append (Waits w ∷ xs) ys = ap (λ (l : List Waiter). w ∷ l) (waiters_among-append xs ys)

no_owners : (waiters : List Waiter) → owners_among (map Waits waiters) ≡ []
no_owners [] = refl
no_owners (w ∷ ws) = no_owners ws

all_waiters : (waiters : List Waiter) → waiters_among (map Waits waiters) ≡ waiters
all_waiters [] = refl
all_waiters (w ∷ ws) = ap (λ (l : List Waiter). w ∷ l) (all_waiters ws)

owners_of_items : (interests : List Interest) (waiters : List Waiter)
    → owners_among (map owner interests ++ map Waits waiters) ≡ interests
owners_of_items [] ws = no_owners ws
owners_of_items (x ∷ xs) ws = ap (λ (l : List Interest). x ∷ l) (owners_of_items xs ws)

waiters_of_items : (interests : List Interest) (waiters : List Waiter)
    → waiters_among (map owner interests ++ map Waits waiters) ≡ waiters
waiters_of_items [] ws = all_waiters ws
waiters_of_items (x ∷ xs) ws = waiters_of_items xs ws

-- what comes first among them comes first in the content
front_owners : (whole : Content) (interests : List Interest) (waiters : List Waiter) (others : List LockItem) → items
    whole ≡ (map owner interests ++ map Waits waiters) ++ others → whole.interests ≡ interests ++ owners_among others
front_owners whole interests waiters others e = sym (owners_of_items whole.interests whole.waiters)
    ∙ ap owners_among e ∙ owners_among-append (map owner interests ++ map Waits waiters) others
    ∙ ap (λ (l : List Interest). l ++ owners_among others) (owners_of_items interests waiters)

front_waiters : (whole : Content) (interests : List Interest) (waiters : List Waiter) (others : List LockItem) → items
    whole ≡ (map owner interests ++ map Waits waiters) ++ others → whole.waiters ≡ waiters ++ waiters_among others
front_waiters whole interests waiters others e = sym (waiters_of_items whole.interests whole.waiters)
    ∙ ap waiters_among e ∙ waiters_among-append (map owner interests ++ map Waits waiters) others
    ∙ ap (λ (l : List Waiter). l ++ waiters_among others) (waiters_of_items interests waiters)

behind_at : (interests : List Interest) (waiters : List Waiter) (w : Waiter) (others : List LockItem) → behind_owners
    ((map owner interests ++ map Waits waiters) ++ Waits w ∷ others) ≡ map Waits waiters ++ Waits w ∷ others
behind_at [] [] w others = refl
behind_at [] (v ∷ vs) w others = refl
behind_at (x ∷ xs) ws w others = behind_at xs ws w others

no_more_owners : (whole : Content) (interests : List Interest) (waiters : List Waiter) (w : Waiter)
    (others : List LockItem)
    → items whole ≡ (map owner interests ++ map Waits waiters) ++ Waits w ∷ others → owners_among others ≡ []
no_more_owners whole interests waiters w others e = ap (λ (l : List Interest). l ++ owners_among others)
    (sym (no_owners waiters)) ∙ sym (owners_among-append (map Waits waiters) (Waits w ∷ others))
    ∙ ap owners_among (sym (behind_at interests waiters w others)
    ∙ sym (ap behind_owners e) ∙ behind_items whole.interests whole.waiters) ∙ no_owners whole.waiters

-- ---- one item more

next_owner : (caps : Caps) (whole : Content) (interests : List Interest) (waiters : List Waiter) (x : Interest)
    (more : List Interest) → IsContent caps whole → waiters ≡ [] → whole.interests ≡ interests ++ x ∷ more
    → IsContent caps (record { interests = interests ++ x ∷ []; waiters = waiters })
next_owner caps whole interests [] x more is none e =
    front-interests caps whole (interests ++ x ∷ []) more is (e ∙ sym (append_assoc interests (x ∷ []) more))
next_owner caps whole interests (w ∷ ws) x more is none e = absurd (cc)

next_waiter : (caps : Caps) (whole : Content) (interests : List Interest) (waiters : List Waiter) (w : Waiter)
    (more : List Waiter) → IsContent caps whole → whole.interests ≡ interests → whole.waiters ≡ waiters ++ w ∷ more
    → IsContent caps (record { interests = interests; waiters = waiters ++ w ∷ [] })
next_waiter caps whole interests waiters w more is same e =
    subst (λ (l : List Interest). IsContent caps (record { interests = l; waiters = waiters ++ w ∷ [] })) same
    (front-waiters caps whole (waiters ++ w ∷ []) more is (e ∙ sym (append_assoc waiters (w ∷ []) more)))

-- one more of the items of a content
pub content-next : (caps : Caps) (content whole : Content) (item : LockItem) (others : List LockItem)
    → IsContent caps whole → items whole ≡ items content ++ item ∷ others → IsContent caps (content_with content item)
content-next caps content whole (Owner held rec) others is e =
    let x : Interest = record { held = held; rec = rec } in
    next_owner caps whole content.interests content.waiters x (owners_among others) is (nobody whole content.interests
    content.waiters x others e) (front_owners whole content.interests content.waiters (owner x ∷ others) e)
content-next caps content whole (Waits w) others is e = next_waiter caps whole content.interests content.waiters
    w (waiters_among others) is (front_owners whole content.interests content.waiters (Waits w ∷ others) e ∙ ap
    (λ (l : List Interest). content.interests ++ l) (no_more_owners whole content.interests content.waiters w others
    e) ∙ append-nil content.interests) (front_waiters whole content.interests content.waiters (Waits w ∷ others) e)

-- ---- what the first items make

pub lock-fronts : FrontLaws lock_meaning is_lock (λ shape caps content. IsContent caps content)
lock-fronts = fronts lock_meaning is_lock (λ shape caps content. IsContent caps content) (record {
  content_empty = λ shape caps. content-nothing caps;
  items_empty = λ shape. refl;
  made_again = λ shape caps content is. made-items content;
  content_moved = λ shape caps other content kind is fits. content-moved shape caps other content is fits;
  content_place = λ shape caps content item is next.
      content-next caps content next.whole item next.others next.content next.first;
  items_place = λ shape caps content item is next. items-place content next.whole item next.others next.first;
  unplace_place = λ shape caps content item is next. unplace-place content next.whole item next.others next.first;
})

-- ---- where items stand

-- each of the first ones is related to the next one
before_next : {X : Type 0} (relation : X → X → Bool) (xs more : List X) (x : X)
    → pairwise relation (xs ++ x ∷ more) ≡ true → list_all (λ y. relation y x) xs ≡ true
before_next relation [] more x h = refl
before_next relation (y ∷ ys) more x h =
    let parts = and_parts (list_all (relation y) (ys ++ x ∷ more)) (pairwise relation (ys ++ x ∷ more)) h in
    let split = and_parts (list_all (relation y) ys) (list_all (relation y) (x ∷ more))
    (sym (list_all-append (relation y) ys (x ∷ more)) ∙ parts.0) in
    and_from (relation y x) (list_all (λ z. relation z x) ys)
    (and_parts (relation y x) (list_all (relation y) more) split.1).0 (before_next relation ys more x parts.1)

-- the next interest of a content is the last of its resource, and the next waiter too
pub interests_with-next : (interests more : List Interest) (x : Interest) → AreInterests (interests ++ x ∷ more)
    → interests_with x interests ≡ interests ++ x ∷ []
interests_with-next interests more x are =
    let same : interests_without x.held.r x.held.conn interests ≡ interests = filter_all
    (λ y. not (is_of x.held.r x.held.conn y)) interests (before_next parts_apart interests more x are.one_each) in
    ap (λ (l : List Interest). insertion (λ other. stands_up_to other x) x l) same ∙ insertion_behind
    (λ other. stands_up_to other x) x interests (before_next stands_up_to interests more x are.ordered)

pub waiters_with-next : (waiters more : List Waiter) (w : Waiter) → IsQueue (waiters ++ w ∷ more)
    → waiters_with w waiters ≡ waiters ++ w ∷ []
waiters_with-next waiters more w is =
    let same : waiters_without w.r w.conn waiters ≡ waiters =
    filter_all (λ v. not (is_waiter w.r w.conn v)) waiters (before_next are_apart waiters more w is.one_each) in
    ap (λ (l : List Waiter). insertion (λ other. stands_before other w) w l) same
    ∙ insertion_behind (λ other. stands_before other w) w waiters (before_next stands_before waiters more w is.ordered)

-- what a content with the next item is, by the commands' own words
pub owner-next : (caps : Caps) (content whole : Content) (x : Interest) (others : List LockItem)
    → IsContent caps whole → items whole ≡ items content ++ owner x ∷ others
    → content_with content (owner x) ≡ record content { interests = interests_with x content.interests }
owner-next caps content whole x others is e =
    let are = rw (front_owners whole content.interests content.waiters (owner x ∷ others) e) at is.owners in
    ap (λ (l : List Interest). record content { interests = l }) (sym (interests_with-next _ _ x are))

pub waiter-next : (caps : Caps) (content whole : Content) (w : Waiter) (others : List LockItem) → IsContent caps whole
    → items whole ≡ items content ++ Waits w ∷ others
    → content_with content (Waits w) ≡ record content { waiters = waiters_with w content.waiters }
waiter-next caps content whole w others is e =
    let queue = rw (front_waiters whole content.interests content.waiters (Waits w ∷ others) e) at is.queue in
    ap (λ (l : List Waiter). record content { waiters = l }) (sym (waiters_with-next _ _ w queue))

-- ---- the last one goes

-- the last element, behind the others
last_behind : {X : Type 0} (xs : List X) (x : X) → slice_get xs (length xs - 1) ≡ Some x
    → xs ≡ without_last xs ++ x ∷ []
last_behind [] x h = absurd (cc)
last_behind {X} (y ∷ ys) x h =
    let i = length (y ∷ ys) - 1 in
    sym (take_all (i + 1) (y ∷ ys) (omega arith)) ∙ take_more (y ∷ ys) i x (omega arith)
    ∙ ap (λ (z : X). take i (y ∷ ys) ++ z ∷ []) (get_or_from_slice_get (y ∷ ys) i x x h)

-- those of other keys are all but the last
without_keyed_last : {X K : Type 0} (key : X → K) (same : K → K → Bool) → ((k : K) → same k k ≡ true)
    → (xs : List X) (x : X) → pairwise (λ y z. not (same (key y) (key z))) (xs ++ x ∷ []) ≡ true
    → filter (λ y. not (same (key y) (key x))) (xs ++ x ∷ []) ≡ xs
without_keyed_last {X} key same same-refl xs x u = grind (arith, filter_all, before_next, filter-append, append-nil)

pub waiters_without-last : (waiters : List Waiter) (w : Waiter) → IsQueue waiters
    → slice_get waiters (length waiters - 1) ≡ Some w → waiters_without w.r w.conn waiters ≡ without_last waiters
waiters_without-last waiters w is h =
    let e = last_behind waiters w h in
    let u = subst (λ (l : List Waiter). pairwise are_apart l ≡ true) e is.one_each in
    ap (λ (l : List Waiter). waiters_without w.r w.conn l) e
    ∙ without_keyed_last waiter_part same_part same_part-refl (without_last waiters) w u

pub interests_without-last : (interests : List Interest) (x : Interest) → AreInterests interests → slice_get interests
    (length interests - 1) ≡ Some x → interests_without x.held.r x.held.conn interests ≡ without_last interests
interests_without-last interests x are h =
    let e = last_behind interests x h in
    let u = subst (λ (l : List Interest). pairwise parts_apart l ≡ true) e are.one_each in
    ap (λ (l : List Interest). interests_without x.held.r x.held.conn l) e
    ∙ without_keyed_last part_of same_part same_part-refl (without_last interests) x u

-- ---- the first waiter of a resource goes

pub waiters_of-first : (r : Resource) (w : Waiter) (waiters rest : List Waiter) → IsQueue waiters
    → waiters_of r waiters ≡ w ∷ rest → waiters_of r (waiters_without w.r w.conn waiters) ≡ rest
waiters_of-first r w waiters rest is e =
    let q : Waiter → Bool = λ v. not (is_waiter w.r w.conn v) in
    let u : pairwise are_apart (w ∷ rest) ≡ true = subst (λ (l : List Waiter). pairwise are_apart l ≡ true)
    e (pairwise-filter are_apart (is_on r) waiters is.one_each) in
    let none = keys.none_later waiter_part same_part same_part-eq same_part-refl w rest u in
    filter_swap (is_on r) q waiters ∙ ap (λ (l : List Waiter). filter q l) e
    ∙ ap (λ (b : Bool). cond (not b) (w ∷ filter q rest) (filter q rest)) (same_part-refl (waiter_part w))
    ∙ filter_all q rest (all_from_none (is_waiter w.r w.conn) rest none)
