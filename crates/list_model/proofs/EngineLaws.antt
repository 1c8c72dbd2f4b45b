-- The laws of the engine's meaning.
use Rattle.list_model.proofs.Imports.{◌≡◌, ℕ, zero, suc, ◌+◌, ◌-◌, ◌<◌, ◌≤◌, IsTrue, ◌==◌, Bool, true, false, not, List, [], ◌∷◌, ◌++◌, Option, None, is_some, length, length-append, length-take, map, take, drop, take-append-drop, replicate, sum_by, ◌⊎◌, inl, inr, refl, sym, ap, ◌∙◌, append_assoc, arith, list_all, list_any, and_parts, nat_tests, length-replicate, sum_by-cons, sum_by-append, slice_get_within, is_list, Caps, Kind, ConnId, Key16, Name16, EntryId, Shape, Fits, IsNoMore, IsNoMoreOf, IsNextItem, content_of_items, FrontLaws, pairwise, pairwise_front, take_next, none_from_all, list_all_weaker, Record, Lists, all_records, count_of, ids_apart, records_of, with_records, is_id, ListItem, Row, elements_in, may_precede, first_records, Content, IsContent, no_content, headers_of, locks_of, content_without, has_controls, controls_of, row_of, rows_from, items_of, content_with, content_without_last, entries_for, elements_for, need_of, list_meaning}
use Rattle.engine_api.proofs.FrontLaws as front
use Rattle.list_model.proofs.ItemLaws.{next-row, record_in, header_in, content_front, controls_in, items-front, made-again, place-next, take_append, controls-placed, first-none, first-first, first-all, count-first, length-rows, ComesFirst, ComesNext, item-comes}
use Rattle.list_model.proofs.ListLaws.{with-push, with-records, with-pairwise}
use Rattle.list_model.proofs.{RecordLaws.ids_apart-sym, ContentLaws.size}
use Rattle.list_model.proofs.ContentLaws as laws

-- ---- an empty content

no_lists : (n : ℕ) → all_records {X = Record} (replicate n []) ≡ []
no_lists zero = refl
no_lists (suc n) = no_lists n

no_rows : (n header : ℕ) → rows_from header (replicate n []) ≡ []
no_rows zero header = refl
no_rows (suc n) header = no_rows n (header + 1)

pub all_ordered : (n : ℕ) → list_all (pairwise may_precede) (replicate n []) ≡ true
all_ordered zero = refl
all_ordered (suc n) = all_ordered n

pub content-nothing : (shape : Shape) (caps : Caps) → IsContent shape caps (no_content shape)
content-nothing shape caps = grind (arith, no_lists, length-replicate, all_ordered)

no_limits : (k n : ℕ) → list_any (λ limit. not (limit == n)) (replicate k n) ≡ false
no_limits zero n = refl
no_limits (suc k) n = grind (arith, nat_tests, no_limits k n)

no_holders : (k : ℕ) → list_any is_some (replicate k (let nobody : Option ConnId = None in nobody)) ≡ false
no_holders zero = refl
no_holders (suc k) = no_holders k

pub no-controls : (shape : Shape) → has_controls shape (no_content shape) ≡ false
no-controls shape = rw (no_limits (headers_of shape.kind) shape.caps.entries, no_holders (locks_of shape.kind)) refl

pub items-nothing : (shape : Shape) → items_of shape (no_content shape) ≡ []
items-nothing shape = grind (arith, no-controls, no_rows)

-- ---- departures

pub leave-content : (shape : Shape) (caps : Caps) (content : Content) (conn : ConnId) (keep : Bool)
    → IsContent shape caps content → IsContent shape caps (content_without content conn keep)
leave-content shape caps content conn keep is = laws.content-leave shape caps content conn keep is

-- ---- items

pub made-items : (shape : Shape) (caps : Caps) (content : Content) → IsContent shape caps content
    → content_of_items list_meaning shape (items_of shape content) ≡ content
made-items shape caps content is = made-again shape caps content is

-- where the item comes
pub next-comes : (shape : Shape) (state : Content) (item : ListItem) → (next : IsNextItem list_meaning
    IsContent shape state item) → ComesFirst shape next.whole state item ⊎ ComesNext shape next.whole state item
next-comes shape state item next = item-comes shape next.at
    next.whole state item (items_of shape state) next.others next.content next.first next.alone

comes_first : (shape : Shape) (caps : Caps) (whole state : Content) (item : ListItem) → IsContent shape caps whole
    → ComesFirst shape whole state item → content_with state item ≡ content_front 0 whole
comes_first shape caps whole state item is first = (grind arith) ∙ controls-placed shape caps whole is

comes_next : (shape : Shape) (whole state : Content) (item : ListItem) (next : ComesNext shape whole state item)
    → content_with state item ≡ content_front (next.count + 1) whole
comes_next shape whole state item next = grind (arith, place-next)

place_items : (shape : Shape) (caps : Caps) (whole state : Content) (item : ListItem) → IsContent shape caps whole
    → ComesFirst shape whole state item ⊎ ComesNext shape whole state item
    → items_of shape (content_with state item) ≡ items_of shape state ++ item ∷ []
place_items shape caps whole state item is (inl first) = rw (
  comes_first shape caps whole state item is first,
  items-front shape whole 0,
  first.there,
  first.start,
  items-nothing shape,
  first.controls,
) refl
place_items shape caps whole state item is (inr next) = rw (
  comes_next shape whole state item next,
  items-front shape whole (next.count + 1),
  next.front,
  items-front shape whole next.count,
  take_next (rows_from 0 whole.lists) next.count item next.row,
) (sym (append_assoc (controls_in shape whole) (take next.count (rows_from 0 whole.lists)) (item ∷ [])))

pub items-place : (shape : Shape) (state : Content) (item : ListItem) → IsNextItem list_meaning
    IsContent shape state item → items_of shape (content_with state item) ≡ items_of shape state ++ item ∷ []
items-place shape state item next =
    place_items shape next.at next.whole state item next.content (next-comes shape state item next)

without_none : (shape : Shape) (content : Content) → count_of content.lists ≡ 0
    → content_without_last shape content ≡ record (no_content shape) { lists = content.lists }
without_none shape content h = grind (arith, nat_tests)

without_one : (shape : Shape) (content : Content) (n : ℕ) → count_of content.lists ≡ n + 1
    → content_without_last shape content ≡ record content { lists = first_records n content.lists }
without_one shape content n h = grind (arith, nat_tests)

place_back : (shape : Shape) (caps : Caps) (whole state : Content) (item : ListItem) → IsContent shape caps whole
    → ComesFirst shape whole state item ⊎ ComesNext shape whole state item
    → content_without_last shape (content_with state item) ≡ state
place_back shape caps whole state item is (inl first) = ap (λ (c : Content). content_without_last shape c)
    (comes_first shape caps whole state item is first) ∙ without_none shape (content_front 0 whole)
    (omega (arith, count-first 0 whole.lists)) ∙ ap (λ (l : Lists). record (no_content shape) { lists = l })
    (first-none whole.lists ∙ ap (λ (k : ℕ). replicate k []) is.headers) ∙ sym first.start
place_back shape caps whole state item is (inr next) =
    let rows = rows_from 0 whole.lists in
    let within : next.count < length rows = slice_get_within rows next.count item next.row in
    ap (λ (c : Content). content_without_last shape c) (comes_next shape whole state item next)
    ∙ without_one shape (content_front (next.count + 1) whole) next.count
    (omega (arith, count-first (next.count + 1) whole.lists, length-rows 0 whole.lists, within))
    ∙ ap (λ (l : Lists). record whole { lists = l }) (grind (arith, first-first)) ∙ sym next.front

pub unplace-place : (shape : Shape) (state : Content) (item : ListItem) → IsNextItem list_meaning
    IsContent shape state item → content_without_last shape (content_with state item) ≡ state
unplace-place shape state item next =
    place_back shape next.at next.whole state item next.content (next-comes shape state item next)

-- ---- need

pub need-front : (items others : List ListItem) → IsNoMore (need_of items) (need_of (items ++ others))
need-front items others = grind (arith, sum_by-append)

entries_of_map : (header : ℕ) (records : List Record)
    → sum_by entries_for (map (row_of header) records) ≡ length records
entries_of_map header [] = refl
entries_of_map header (rec ∷ records) = omega (
  arith,
  sum_by-cons entries_for (row_of header rec) (map (row_of header) records),
  entries_of_map header records,
)

elements_of_map : (header : ℕ) (records : List Record)
    → sum_by elements_for (map (row_of header) records) ≡ elements_in records
elements_of_map header [] = refl
elements_of_map header (rec ∷ records) = omega (
  arith,
  sum_by-cons elements_for (row_of header rec) (map (row_of header) records),
  sum_by-cons size rec records,
  elements_of_map header records,
)

entries_of_rows : (header : ℕ) (lists : Lists) → sum_by entries_for (rows_from header lists) ≡ count_of lists
entries_of_rows header [] = refl
entries_of_rows header (records ∷ lists) =
    grind (arith, sum_by-append, entries_of_map, length-append, entries_of_rows (header + 1) lists)

elements_of_rows : (header : ℕ) (lists : Lists)
    → sum_by elements_for (rows_from header lists) ≡ elements_in (all_records lists)
elements_of_rows header [] = refl
elements_of_rows header (records ∷ lists) =
    grind (arith, sum_by-append, elements_of_map, size, elements_of_rows (header + 1) lists)

-- the items of a content need as much as its records
pub need-items : (shape : Shape) (content : Content) → need_of (items_of shape content) ≡ record {
  entries = count_of content.lists;
  elements = elements_in (all_records content.lists);
}
need-items shape content = grind (arith, sum_by-cons, entries_of_rows, elements_of_rows)

same_need : (kind : Kind) (need other : Caps) → need ≡ other → IsNoMoreOf kind need other
same_need Kind.Cache need other e = grind arith
same_need (Kind.List headers locks refs) need other e = grind arith
same_need Kind.Lock need other e = grind arith

pub need-leave : (shape : Shape) (content : Content) (conn : ConnId) (keep : Bool) → IsNoMoreOf
    shape.kind (need_of (items_of shape (content_without content conn keep))) (need_of (items_of shape content))
need-leave shape content conn keep = grind (arith, same_need, need-items)

-- a content whose items fit another capacity is one there
fits_both : (kind : Kind) (need caps : Caps) → IsTrue (is_list kind) → Fits kind need caps
    → (need.entries ≤ caps.entries) × (need.elements ≤ caps.elements)
fits_both (Kind.List headers locks refs) need caps is fits = fits
fits_both _ need caps is fits = absurd cc

pub content-moved : (shape : Shape) (caps other : Caps) (content : Content) → IsTrue (is_list shape.kind) → IsContent
    shape caps content → Fits shape.kind (need_of (items_of shape content)) other → IsContent shape other content
content-moved shape caps other content kind is fits = grind (arith, fits_both, need-items)

-- ---- a front of the records

pub records-first : (n : ℕ) (lists : Lists) → all_records (first_records n lists) ≡ take n (all_records lists)
records-first zero [] = refl
records-first (suc n) [] = refl
records-first n (records ∷ lists) = grind (arith, take_append, records-first (n - length records) lists)

length_first : (n : ℕ) (lists : Lists) → length (first_records n lists) ≡ length lists
length_first n [] = refl
length_first n (records ∷ lists) = ap (λ (k : ℕ). suc k) (length_first (n - length records) lists)

all_taken : {X : Type 0} (p : X → Bool) (n : ℕ) (xs : List X) → list_all p xs ≡ true → list_all p (take n xs) ≡ true
all_taken p zero xs h = refl
all_taken p (suc n) [] h = refl
all_taken p (suc n) (x ∷ xs) h = grind (arith, and_parts, all_taken p n xs)

pair_taken : {X : Type 0} (relation : X → X → Bool) (n : ℕ) (xs : List X) → pairwise relation xs ≡ true
    → pairwise relation (take n xs) ≡ true
pair_taken relation n xs h = pairwise_front relation (take n xs) (drop n xs) (grind (arith, take-append-drop))

first_ordered : (n : ℕ) (lists : Lists) → list_all (pairwise may_precede) lists ≡ true
    → list_all (pairwise may_precede) (first_records n lists) ≡ true
first_ordered n [] h = refl
first_ordered n (records ∷ lists) h = grind (arith, and_parts, pair_taken, first_ordered (n - length records) lists)

sum_taken : (n : ℕ) (records : List Record) → elements_in (take n records) ≤ elements_in records
sum_taken n records = omega (
  arith,
  sum_by-append size (take n records) (drop n records),
  ap (λ (l : List Record). sum_by size l) (take-append-drop n records),
)

-- the first records of a content are a content
pub content-front : (shape : Shape) (caps : Caps) (content : Content) (n : ℕ) → IsContent shape caps content
    → IsContent shape caps (content_front n content)
content-front shape caps content n is =
    grind (arith, records-first, length_first, pair_taken, all_taken, first_ordered, length-take, sum_taken)

place_content : (shape : Shape) (caps : Caps) (whole state : Content) (item : ListItem) → IsContent shape caps whole
    → ComesFirst shape whole state item ⊎ ComesNext shape whole state item
    → IsContent shape caps (content_with state item)
place_content shape caps whole state item is (inl first) =
    rw (comes_first shape caps whole state item is first) (content-front shape caps whole 0 is)
place_content shape caps whole state item is (inr next) =
    rw (comes_next shape whole state item next) (content-front shape caps whole (next.count + 1) is)

-- with an item more
pub content-place : (shape : Shape) (state : Content) (item : ListItem)
    → (next : IsNextItem list_meaning IsContent shape state item) → IsContent shape next.at (content_with state item)
content-place shape state item next =
    place_content shape next.at next.whole state item next.content (next-comes shape state item next)

-- ---- what the first items make

abbrev next_at : (shape : Shape) (caps : Caps) (state : Content) (item : ListItem) → front.ComesNext
    list_meaning is_list IsContent shape caps state item → IsNextItem list_meaning IsContent shape state item
next_at shape caps state item next = record {
  at = caps;
  whole = next.whole;
  others = next.others;
  content = next.content;
  first = next.first;
  alone = next.alone;
}

pub list-fronts : FrontLaws list_meaning is_list IsContent
list-fronts = front.fronts list_meaning is_list IsContent (record {
  content_empty = content-nothing;
  items_empty = items-nothing;
  made_again = made-items;
  content_moved = content-moved;
  content_place = λ shape caps state item is next. content-place shape state item (grind arith);
  items_place = λ shape caps state item is next. items-place shape state item (next_at shape caps state item next);
  unplace_place = λ shape caps state item is next. unplace-place shape state item
      (next_at shape caps state item next);
})

-- a record that comes next has a header that is there, and an id and a name of its own
pub record FitsIn (content : Content) (item : ListItem) : Type 0 where
  pub header : header_in item < length content.lists
  pub alone : list_any (is_id (record_in item).id) (all_records content.lists) ≡ false

fits_next : (shape : Shape) (caps : Caps) (whole state : Content) (item : ListItem) → IsContent shape caps whole
    → (next : ComesNext shape whole state item) → IsContent shape caps (content_with state item) → FitsIn state item
fits_next shape caps whole state item is next placed =
    let row = next-row 0 next.count whole.lists item next.row in
    let at : header_in item ≡ row.place = grind arith in
    let few = length_first next.count whole.lists in
    let header : header_in item < length state.lists = grind arith in
    let rec = record_in item in
    let records = records_of state.lists (header_in item) ++ rec ∷ [] in
    let placed_so : content_with state item ≡ record state { lists = with_records state.lists (header_in item) records }
    = grind arith in
    let w = with-records rec state.lists (header_in item) records header (with-push rec _) in
    let apart = with-pairwise ids_apart ids_apart-sym rec _ _ w (grind arith) in
    record { header = header; alone = grind (arith, none_from_all, list_all_weaker, and_parts) }

fits : (shape : Shape) (caps : Caps) (whole state : Content) (header : ℕ) (id : EntryId) (version : ℕ)
    (name : Option Name16) (key : Option Key16) (body adj : Option (List ℕ)) → IsContent shape caps whole
    → ComesFirst shape whole state (Row header id version name key body adj) ⊎ ComesNext shape
    whole state (Row header id version name key body adj) → FitsIn state (Row header id version name key body adj)
fits shape caps whole state header id version name key body adj is (inl first) =
    let same : Row header id version name key body adj ≡ controls_of whole = first.controls in absurd (cc)
fits shape caps whole state header id version name key body adj is (inr next) =
    fits_next shape caps whole state _ is next (place_content shape caps whole state _ is (inr next))

pub next-fits : (shape : Shape) (state : Content) (header : ℕ) (id : EntryId) (version : ℕ)
    (name : Option Name16) (key : Option Key16) (body adj : Option (List ℕ)) → IsNextItem list_meaning IsContent
    shape state (Row header id version name key body adj) → FitsIn state (Row header id version name key body adj)
next-fits shape state header id version name key body adj next = fits shape next.at next.whole state header
    id version name key body adj next.content (next-comes shape state (Row header id version name key body adj) next)

without_step : (shape : Shape) (caps : Caps) (content : Content) → IsContent shape caps content
    → (n : ℕ) → count_of content.lists ≡ n → IsContent shape caps (content_without_last shape content)
without_step shape caps content is zero h = rw (
  without_none shape content h,
  sym (first-all 0 content.lists (omega (arith, h))),
  first-none content.lists,
  is.headers,
) (content-nothing shape caps)
without_step shape caps content is (suc n) h =
    rw (without_one shape content n (omega (arith, h))) (content-front shape caps content n is)

-- without the last item
pub content-unplace : (shape : Shape) (caps : Caps) (content : Content) → IsContent shape caps content
    → IsContent shape caps (content_without_last shape content)
content-unplace shape caps content is = without_step shape caps content is (count_of content.lists) refl
