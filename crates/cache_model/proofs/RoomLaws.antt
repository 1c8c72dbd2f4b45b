-- The rows that are reclaimed, and what room they leave.
use Rattle.cache_model.proofs.Imports.{arith, ◌≡◌, ◌+◌, Bool, true, false, not, List, None, length, filter, sym, ◌∙◌, subst, list_all, and_parts, and_from, list_all-append, Caps, Name16, same_name, pairwise, shortest_prefix, list_any-map, list_all-filter, list_all_weaker, list_all-filter_same, none_from_all, any_is_found, filter-filter, pairwise-filter, pairwise_split, list_all-shortest_prefix, pairwise-shortest_prefix, shortest_prefix-enough, AllFound, found_filter, found_append, found_prefix, sum_by_spared, length_spared, find-spared, apart_sym, same_name-eq, same_name-refl, CacheItem, Request, is_row_of, is_changed, has_storage, elements_in, row_of, has_row, names_apart, IsDirectory, is_among, rows_spared, is_reclaimable, reclaim_order, has_room, victims, room_refusal}
use Rattle.cache_model.proofs.RowLaws.{name_of, size}

-- the rows that go
abbrev pub gone : Caps → Request → List CacheItem → List CacheItem
gone caps request rows = shortest_prefix (has_room caps request rows) (reclaim_order request rows)

abbrev pub OnesFound : List CacheItem → List CacheItem → Type 0
OnesFound = AllFound name_of same_name same_name-eq same_name-refl

order_found : (request : Request) (rows : List CacheItem) → IsDirectory rows → OnesFound (reclaim_order request rows)
    rows
order_found request rows is =
    let reclaimable = filter (is_reclaimable request.name) rows in
    let first = subst (λ l. OnesFound l rows) (sym (filter-filter (has_storage request.stg) (is_reclaimable
    request.name) rows)) (found_filter name_of same_name same_name-eq same_name-refl _ rows is.one_for_name) in
    let others = subst (λ l. OnesFound l rows)
    (sym (filter-filter (λ row. not (has_storage request.stg row)) (is_reclaimable request.name) rows))
    (found_filter name_of same_name same_name-eq same_name-refl _ rows is.one_for_name) in
    found_append name_of same_name same_name-eq same_name-refl _
    (filter (λ row. not (has_storage request.stg row)) reclaimable) rows first others

order_apart : (request : Request) (rows : List CacheItem) → IsDirectory rows → pairwise names_apart
    (reclaim_order request rows) ≡ true
order_apart request rows is = pairwise_split names_apart (apart_sym name_of same_name same_name-eq same_name-refl)
    (has_storage request.stg) (filter (is_reclaimable request.name) rows) (grind (arith, pairwise-filter))

-- what holds of all reclaimable rows holds of the order
order_all : (p : CacheItem → Bool) (request : Request) (rows : List CacheItem) → ((row : CacheItem)
    → is_reclaimable request.name row ≡ true → p row ≡ true) → list_all p (reclaim_order request rows) ≡ true
order_all p request rows h =
    let reclaimable = filter (is_reclaimable request.name) rows in
    let each = list_all_weaker (is_reclaimable request.name) p h reclaimable
    (list_all-filter_same (is_reclaimable request.name) rows) in
    list_all-append p _ _ ∙ and_from (list_all p (filter (has_storage request.stg) reclaimable)) (list_all
    p (filter (λ row. not (has_storage request.stg row)) reclaimable)) (list_all-filter p (has_storage request.stg)
    reclaimable each) (list_all-filter p (λ row. not (has_storage request.stg row)) reclaimable each)

-- the rows that go are apart, each is the one of its name, and none has the command's name
pub record Goes (caps : Caps) (request : Request) (rows : List CacheItem) : Type 0 where
  pub found : OnesFound (gone caps request rows) rows
  pub apart : pairwise names_apart (gone caps request rows) ≡ true
  pub other : list_all (λ row. not (is_row_of request.name row)) (gone caps request rows) ≡ true
  pub unchanged : list_all (λ row. not (is_changed row)) (gone caps request rows) ≡ true

pub goes : (caps : Caps) (request : Request) (rows : List CacheItem) → IsDirectory rows → Goes caps request rows
goes caps request rows is = record {
  found = found_prefix name_of same_name same_name-eq same_name-refl
      (has_room caps request rows) (reclaim_order request rows) rows (order_found request rows is);
  apart = pairwise-shortest_prefix names_apart (has_room caps request rows) (reclaim_order request rows)
      (order_apart request rows is);
  other = grind (arith, list_all-shortest_prefix, order_all, and_parts);
  unchanged = grind (arith, list_all-shortest_prefix, order_all, and_parts);
}

-- the command's name isn't among them
pub request_spared : (caps : Caps) (request : Request) (rows : List CacheItem) → IsDirectory rows
    → is_among (victims caps request rows) request.name ≡ false
request_spared caps request rows is = list_any-map (λ other. same_name other request.name) name_of
    (gone caps request rows) ∙ none_from_all (is_row_of request.name) (gone caps request rows) (goes _ _ _ is).other

pub length-spared : (caps : Caps) (request : Request) (rows : List CacheItem) → IsDirectory rows
    → length (rows_spared (victims caps request rows) rows) + length (gone caps request rows) ≡ length rows
length-spared caps request rows is =
    let g = goes caps request rows is in
    length_spared name_of same_name same_name-eq same_name-refl _ rows is.one_for_name g.apart g.found

pub elements-spared : (caps : Caps) (request : Request) (rows : List CacheItem) → IsDirectory rows → elements_in
    (rows_spared (victims caps request rows) rows) + elements_in (gone caps request rows) ≡ elements_in rows
elements-spared caps request rows is =
    let g = goes caps request rows is in
    sum_by_spared name_of same_name same_name-eq same_name-refl size (gone caps request rows) rows is.one_for_name
    g.apart g.found

-- a row whose name isn't among them stays
pub row_of-spared : (name : Name16) (names : List Name16) (rows : List CacheItem) → is_among names name ≡ false
    → row_of name (rows_spared names rows) ≡ row_of name rows
row_of-spared name names rows h = find-spared name_of same_name same_name-eq same_name-refl name names rows h

pub has_row-spared : (name : Name16) (names : List Name16) (rows : List CacheItem) → is_among names name ≡ false
    → has_row name (rows_spared names rows) ≡ has_row name rows
has_row-spared name names rows h = grind (arith, any_is_found, row_of-spared)

-- ---- room

-- where there is no want of room, the rows that go leave room
pub room_left : (caps : Caps) (request : Request) (rows : List CacheItem) → room_refusal caps request rows ≡ None
    → has_room caps request rows (gone caps request rows) ≡ true
room_left caps request rows h = grind (arith, shortest_prefix-enough)
