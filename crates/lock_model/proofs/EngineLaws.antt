-- The laws of the engine's meaning.
use Rattle.lock_model.proofs.Imports.{◌≡◌, ◌-◌, ◌≤◌, Bool, true, false, List, [], ◌∷◌, ◌++◌, append-nil, append_assoc, length, length-append, fold, map, sum_by, refl, sym, ap, ◌∙◌, arith, list_any, or_right, false≢true, map-append, take_at, list_any-append, sum_by-append, sum_by-cons, Caps, Kind, ConnId, is_lock, Shape, Fits, IsNoMore, IsNoMoreOf, Waiter, LockItem, Owner, Waits, Interest, Content, IsContent, no_content, records_in, owner, items, content_with, content_without_last, without_last, entries_of_item, records_of_item, need_of, with_returned, lock_meaning, ℕ}
use Rattle.lock_model.proofs.DepartureLaws as departures

pub content-nothing : (caps : Caps) → IsContent caps no_content
content-nothing caps = grind arith

pub leave-content : (shape : Shape) (caps : Caps) (content : Content) (conn : ConnId) (keep : Bool)
    → IsContent caps content → IsContent caps (lock_meaning.leave shape content conn keep).state
leave-content shape caps content conn keep is = (departures.led_departed caps conn keep content is).content

pub back-content : (caps : Caps) (content : Content) (conn : ConnId) → IsContent caps content
    → IsContent caps (with_returned conn content)
back-content caps content conn is = departures.content-returned caps conn content is

-- ---- items

made-interests : (content : Content) (interests : List Interest)
    → fold content_with content (map owner interests) ≡ record content { interests = content.interests ++ interests }
made-interests content [] = grind (arith, append-nil)
made-interests content (x ∷ xs) = grind (arith, append_assoc, made-interests (content_with content (owner x)) xs)

made-waiters : (content : Content) (waiters : List Waiter)
    → fold content_with content (map Waits waiters) ≡ record content { waiters = content.waiters ++ waiters }
made-waiters content [] = ap (λ (l : List Waiter). record content { waiters = l }) (sym (append-nil content.waiters))
made-waiters content (w ∷ ws) = grind (arith, append_assoc, made-waiters (content_with content (Waits w)) ws)

made-append : (content : Content) (xs ys : List LockItem)
    → fold content_with content (xs ++ ys) ≡ fold content_with (fold content_with content xs) ys
made-append content [] ys = refl
made-append content (x ∷ xs) ys = made-append (content_with content x) xs ys

pub made-items : (content : Content) → fold content_with no_content (items content) ≡ content
made-items content = grind (arith, made-append, made-interests, made-waiters)

-- ---- an owner doesn't come behind a waiter

abbrev pub is_owner : LockItem → Bool
is_owner (Owner held rec) = true
is_owner (Waits w) = false

-- without the owners that come first
abbrev pub behind_owners : List LockItem → List LockItem
behind_owners [] = []
behind_owners (Owner held rec ∷ xs) = behind_owners xs
behind_owners (Waits w ∷ xs) = Waits w ∷ xs

pub behind_items : (interests : List Interest) (waiters : List Waiter)
    → behind_owners (map owner interests ++ map Waits waiters) ≡ map Waits waiters
behind_items [] [] = refl
behind_items [] (w ∷ ws) = refl
behind_items (x ∷ xs) ws = behind_items xs ws

behind_more : (interests : List Interest) (w : Waiter) (ys zs : List LockItem)
    → behind_owners ((map owner interests ++ Waits w ∷ ys) ++ zs) ≡ (Waits w ∷ ys) ++ zs
behind_more [] w ys zs = refl
behind_more (x ∷ xs) w ys zs = behind_more xs w ys zs

no_owner : (waiters : List Waiter) → list_any is_owner (map Waits waiters) ≡ false
no_owner [] = refl
no_owner (w ∷ ws) = no_owner ws

-- so nobody waits yet where the next item is an owner
pub nobody : (whole : Content) (interests : List Interest) (waiters : List Waiter) (x : Interest)
    (others : List LockItem)
    → items whole ≡ (map owner interests ++ map Waits waiters) ++ owner x ∷ others → waiters ≡ []
nobody whole interests [] x others e = refl
nobody whole interests (w ∷ ws) x others e = absurd (false≢true (sym (no_owner whole.waiters) ∙ ap
    (λ (l : List LockItem). list_any is_owner l) (sym (behind_items whole.interests whole.waiters) ∙ ap behind_owners
    e ∙ behind_more interests w (map Waits ws) (owner x ∷ others)) ∙ (grind (arith, list_any-append, or_right))))

owner_placed : (interests : List Interest) (waiters : List Waiter) (x : Interest) → waiters ≡ [] → map
    owner (interests ++ x ∷ []) ++ map Waits waiters ≡ (map owner interests ++ map Waits waiters) ++ owner x ∷ []
owner_placed interests waiters x e = grind (arith, append-nil, map-append)

waiter_placed : (interests : List Interest) (waiters : List Waiter) (w : Waiter) → map owner
    interests ++ map Waits (waiters ++ w ∷ []) ≡ (map owner interests ++ map Waits waiters) ++ Waits w ∷ []
waiter_placed interests waiters w = grind (arith, map-append, append_assoc)

pub items-place : (content whole : Content) (item : LockItem) (others : List LockItem)
    → items whole ≡ items content ++ item ∷ others → items (content_with content item) ≡ items content ++ item ∷ []
items-place content whole (Owner held rec) others first =
    let x : Interest = record { held = held; rec = rec } in
    owner_placed content.interests content.waiters x (nobody whole content.interests content.waiters x others first)
items-place content whole (Waits w) others first = waiter_placed content.interests content.waiters w

-- ---- without the last item

last-away : {X : Type 0} (xs : List X) (x : X) → without_last (xs ++ x ∷ []) ≡ xs
last-away xs x = take_at xs (x ∷ []) (length (xs ++ x ∷ []) - 1) (omega (arith, length-append xs (x ∷ [])))

waiter_away : (interests : List Interest) (waiters : List Waiter) (w : Waiter) → content_without_last (record
    { interests = interests; waiters = waiters ++ w ∷ [] }) ≡ record { interests = interests; waiters = waiters }
waiter_away interests [] w = refl
waiter_away interests (v ∷ vs) w = ap (λ l. record { interests = interests; waiters = l }) (last-away _ w)

owner_away : (interests : List Interest) (waiters : List Waiter) (x : Interest) → waiters ≡ []
    → content_without_last (record { interests = interests ++ x ∷ []; waiters = waiters }) ≡ record
    { interests = interests; waiters = waiters }
owner_away interests waiters x e = grind (arith, last-away)

pub unplace-place : (content whole : Content) (item : LockItem) (others : List LockItem)
    → items whole ≡ items content ++ item ∷ others → content_without_last (content_with content item) ≡ content
unplace-place content whole (Owner held rec) others first =
    let x : Interest = record { held = held; rec = rec } in
    owner_away content.interests content.waiters x (nobody whole content.interests content.waiters x others first)
unplace-place content whole (Waits w) others first = waiter_away content.interests content.waiters w

-- ---- what items need

pub need-front : (xs others : List LockItem) → IsNoMore (need_of xs) (need_of (xs ++ others))
need-front xs others = grind (arith, sum_by-append)

sum_by-map : {X : Type 0} (size : LockItem → ℕ) (f : X → LockItem) (xs : List X)
    → sum_by size (map f xs) ≡ sum_by (λ x. size (f x)) xs
sum_by-map size f [] = refl
sum_by-map size f (x ∷ xs) =
    omega (arith, sum_by-cons size (f x) (map f xs), sum_by-cons (λ y. size (f y)) x xs, sum_by-map size f xs)

entries_owners : (interests : List Interest) → sum_by entries_of_item (map owner interests) ≡ length interests
entries_owners [] = refl
entries_owners (x ∷ xs) = omega (arith, entries_owners xs, sum_by-cons entries_of_item (owner x) (map owner xs))

entries_waiters : (waiters : List Waiter) → sum_by entries_of_item (map Waits waiters) ≡ 0
entries_waiters [] = refl
entries_waiters (w ∷ ws) = omega (arith, entries_waiters ws, sum_by-cons entries_of_item (Waits w) (map Waits ws))

-- the record data of the items are those of the content, and the entries are its interests
pub elements-items : (content : Content) → (need_of (items content)).elements ≡ records_in content
elements-items content = omega (
  arith,
  sum_by-append records_of_item (map owner content.interests) (map Waits content.waiters),
  sum_by-map records_of_item owner content.interests,
  sum_by-map records_of_item Waits content.waiters,
)

pub entries-items : (content : Content) → (need_of (items content)).entries ≡ length content.interests
entries-items content = grind (arith, sum_by-append, entries_owners, entries_waiters)

-- of a lock structure the elements decide
no_more_of : (of : Kind) (need other : Caps) → is_lock of ≡ true → need.elements ≤ other.elements
    → IsNoMoreOf of need other
no_more_of Kind.Cache need other h less = absurd (false≢true h)
no_more_of (Kind.List headers locks refs) need other h less = absurd (false≢true h)
no_more_of Kind.Lock need other h less = less

pub need-leave : (shape : Shape) (caps : Caps) (content : Content) (conn : ConnId) (keep : Bool)
    → is_lock shape.kind ≡ true → IsContent caps content → IsNoMoreOf
    shape.kind (need_of (items (lock_meaning.leave shape content conn keep).state)) (need_of (items content))
need-leave shape caps content conn keep lock is =
    let left = (lock_meaning.leave shape content conn keep).state in
    let led = departures.led_departed caps conn keep content is in
    no_more_of _ _ _ lock (omega (arith, led.records, elements-items left, elements-items content))

pub content-moved : (shape : Shape) (caps other : Caps) (content : Content) → IsContent caps content
    → Fits shape.kind (need_of (items content)) other → IsContent other content
content-moved shape caps other content is fits = grind (arith, elements-items)
