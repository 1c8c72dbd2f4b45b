-- Lists of records for each header: a record more, one taken out, one changed.
use Rattle.list_model.proofs.Imports.{drop, take, list_all-append, position_or_len, find_at, pairwise_middle, split_next, append-nil, ◌≡◌, ℕ, zero, suc, ◌+◌, ◌<◌, ◌&&◌, Bool, true, List, [], ◌∷◌, ◌++◌, Some, length, length-append, find, map, slice_get, sum_by, refl, sym, ap, ◌∙◌, append_assoc, arith, list_all, and_parts, and_from, map-append, filter-append, sum_by-cons, sum_by-append, EntryId, insertion, pairwise, list_all_weaker, Record, Lists, records_of, with_records, all_records, records_without, lists_without}

-- ---- a list with one more element somewhere

pub record IsWith {X : Type 0} (x : X) (xs ys : List X) : Type 0 where
  pub front : List X
  pub back : List X
  pub was : xs ≡ front ++ back
  pub is : ys ≡ front ++ x ∷ back

with_later : {X : Type 0} (x y : X) (xs ys : List X) → IsWith x xs ys → IsWith x (y ∷ xs) (y ∷ ys)
with_later x y xs ys w = record { front = y ∷ w.front; back = w.back; was = grind arith; is = ap (λ l. y ∷ l) w.is }

pub with-insertion : {X : Type 0} (before : X → Bool) (x : X) (xs : List X) → IsWith x xs (insertion before x xs)
with-insertion before x [] = record { front = []; back = []; was = refl; is = refl }
with-insertion before x (y ∷ ys) = grind (arith, with_later, with-insertion before x ys)

pub with-push : {X : Type 0} (x : X) (xs : List X) → IsWith x xs (xs ++ x ∷ [])
with-push x xs = record { front = xs; back = []; was = grind (arith, append-nil); is = refl }

with_behind : {X : Type 0} (x : X) (zs xs ys : List X) → IsWith x xs ys → IsWith x (zs ++ xs) (zs ++ ys)
with_behind x zs xs ys w =
    record { front = zs ++ w.front; back = w.back; was = grind (arith, append_assoc); is = grind (arith, append_assoc) }

with_before : {X : Type 0} (x : X) (xs ys zs : List X) → IsWith x xs ys → IsWith x (xs ++ zs) (ys ++ zs)
with_before x xs ys zs w = grind (arith, append_assoc)

pub with-map : {X Y : Type 0} (f : X → Y) (x : X) (xs ys : List X) → IsWith x xs ys
    → IsWith (f x) (map f xs) (map f ys)
with-map f x xs ys w = grind (arith, map-append)

pub all-with : {X : Type 0} (p : X → Bool) (x : X) (xs ys : List X)
    → IsWith x xs ys → p x ≡ true → list_all p xs ≡ true → list_all p ys ≡ true
all-with p x xs ys w e h = grind (arith, list_all-append)

pub length-with : {X : Type 0} (x : X) (xs ys : List X) → IsWith x xs ys → length ys ≡ length xs + 1
length-with x xs ys w = grind (arith, length-append)

pub sum-with : {X : Type 0} (f : X → ℕ) (x : X) (xs ys : List X) → IsWith x xs ys → sum_by f ys ≡ sum_by f xs + f x
sum-with f x xs ys w = grind (arith, sum_by-append, sum_by-cons)

-- one that is related to all others both ways may stand anywhere
pub pairwise-with : {X : Type 0} (relation : X → X → Bool) (x : X) (xs ys : List X) → IsWith x xs ys → pairwise
    relation xs ≡ true → list_all (λ y. relation x y && relation y x) xs ≡ true → pairwise relation ys ≡ true
pairwise-with relation x xs ys w h e = grind (arith, pairwise_middle)

-- ---- and back: the one is taken out

pub with-all : {X : Type 0} (p : X → Bool) (x : X) (xs ys : List X) → IsWith x xs ys → list_all p ys ≡ true
    → p x ≡ true
with-all p x xs ys w h = grind (arith, list_all-append)

front_pair : {X : Type 0} (relation : X → X → Bool) → ((x y : X) → relation x y ≡ relation y x)
    → (x : X) (front back : List X) → pairwise relation (front ++ x ∷ back) ≡ true
    → list_all (λ y. relation x y && relation y x) (front ++ back) ≡ true
front_pair relation turns x [] back h = grind (arith, list_all_weaker, and_from, and_parts)
front_pair relation turns x (y ∷ front) back h =
    grind (arith, list_all-append, turns, front_pair relation turns x front back)

pub with-pairwise : {X : Type 0} (relation : X → X → Bool) → ((x y : X) → relation x y ≡ relation y x)
    → (x : X) (xs ys : List X)
    → IsWith x xs ys → pairwise relation ys ≡ true → list_all (λ y. relation x y && relation y x) xs ≡ true
with-pairwise relation turns x xs ys w h = grind (arith, front_pair)

-- ---- an element of a list

pub record IsIn {X : Type 0} (x : X) (ys : List X) : Type 0 where
  pub others : List X
  pub with_it : IsWith x others ys

in_behind : {X : Type 0} (x : X) (zs xs : List X) → IsIn x xs → IsIn x (zs ++ xs)
in_behind x zs xs i = record { others = zs ++ i.others; with_it = with_behind x zs i.others xs i.with_it }

in_before : {X : Type 0} (x : X) (xs zs : List X) → IsIn x xs → IsIn x (xs ++ zs)
in_before x xs zs i = record { others = i.others ++ zs; with_it = with_before x i.others xs zs i.with_it }

pub in-place : {X : Type 0} (ys : List X) (i : ℕ) (x : X) → slice_get ys i ≡ Some x → IsIn x ys
in-place ys i x h = record {
  others = take i ys ++ drop (i + 1) ys;
  with_it = record { front = take i ys; back = drop (i + 1) ys; was = refl; is = split_next ys i x h };
}

pub in-found : {X : Type 0} (p : X → Bool) (ys : List X) (x : X) → find p ys ≡ Some x → IsIn x ys
in-found p ys x h = in-place ys (position_or_len p ys) x (sym (find_at p ys) ∙ h)

-- a record of a header is one of all records
pub in-header : (rec : Record) (lists : Lists) (header : ℕ) → IsIn rec (records_of lists header)
    → IsIn rec (all_records lists)
in-header rec [] header i = i
in-header rec (records ∷ lists) zero i = in_before rec records (all_records lists) i
in-header rec (records ∷ lists) (suc header) i =
    in_behind rec records (all_records lists) (in-header rec lists header i)

-- ---- a header's records replaced by these with one more

pub with-records : (rec : Record) (lists : Lists) (header : ℕ) (records : List Record) → header < length lists
    → IsWith rec (records_of lists header) records
    → IsWith rec (all_records lists) (all_records (with_records lists header records))
with-records rec [] header records within w = absurd (omega arith)
with-records rec (first ∷ lists) zero records within w = with_before rec first records (all_records lists) w
with-records rec (first ∷ lists) (suc header) records within w =
    grind (arith, with_behind, with-records rec lists header records (omega arith))

-- what all lists have, and the new one has
pub each-records : (p : List Record → Bool) (lists : Lists) (header : ℕ) (records : List Record)
    → p records ≡ true → list_all p lists ≡ true → list_all p (with_records lists header records) ≡ true
each-records p [] header records e h = refl
each-records p (first ∷ lists) zero records e h = grind (arith, and_parts)
each-records p (first ∷ lists) (suc header) records e h =
    grind (arith, and_parts, each-records p lists header records)

-- what all lists have one header's has, if no records have it
pub one-records : (p : List Record → Bool) (lists : Lists) (header : ℕ) → p [] ≡ true → list_all p lists ≡ true
    → p (records_of lists header) ≡ true
one-records p [] header e h = e
one-records p (first ∷ lists) zero e h = grind (arith, and_parts)
one-records p (first ∷ lists) (suc header) e h = grind (arith, and_parts, one-records p lists header)

-- ---- all lists filtered, or mapped

pub all-without : (id : EntryId) (lists : Lists)
    → all_records (lists_without id lists) ≡ records_without id (all_records lists)
all-without id [] = refl
all-without id (records ∷ lists) = grind (arith, filter-append, all-without id lists)

pub all-map : (f : Record → Record) (lists : Lists)
    → all_records (map (λ records. map f records) lists) ≡ map f (all_records lists)
all-map f [] = refl
all-map f (records ∷ lists) = grind (arith, map-append, all-map f lists)
