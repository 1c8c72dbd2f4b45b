-- The items of a content, and the content that the first of them make.
use Rattle.list_model.proofs.Imports.{◌≡◌, ℕ, zero, suc, ◌+◌, ◌-◌, ◌<◌, ◌≤◌, ◌==◌, Bool, true, false, not, cond, min, List, [], ◌∷◌, ◌++◌, Option, Some, None, is_some, option_map, length, length-append, length-take, map, nat_lt, take, replicate, slice_get, fold, ◌⊎◌, inr, refl, sym, ap, ◌∙◌, subst, arith, list_any, or_parts, false≢true, nat_tests, length-map, take_all, take-take, take-map, fold-append, slice_get-map, Caps, ConnId, Shape, take_next, Record, Lists, records_of, with_records, count_of, Monitor, ListItem, Controls, Row, no_record, first_records, Content, IsContent, no_content, headers_of, triple_of, monitor_of, has_controls, controls_of, row_of, rows_from, items_of, content_with}

-- ---- lists

none_less : (n : ℕ) → 0 - n ≡ 0
none_less n = omega arith

suc_less : (n m : ℕ) → suc n - suc m ≡ n - m
suc_less n m = omega arith

less_none : (n : ℕ) → n - 0 ≡ n
less_none n = omega arith

take_none : {X : Type 0} (n : ℕ) → take {A = X} n [] ≡ []
take_none zero = refl
take_none (suc n) = refl

pub take_append : {X : Type 0} (n : ℕ) (xs ys : List X) → take n (xs ++ ys) ≡ take n xs ++ take (n - length xs) ys
take_append zero xs ys = rw (none_less (length xs)) refl
take_append (suc n) [] ys = rw (less_none (suc n)) refl
take_append (suc n) (x ∷ xs) ys = grind (arith, suc_less, take_append n xs ys)

slice_left : {X : Type 0} (xs ys : List X) (n : ℕ) → n < length xs → slice_get (xs ++ ys) n ≡ slice_get xs n
slice_left [] ys n h = absurd (omega arith)
slice_left (x ∷ xs) ys zero h = refl
slice_left (x ∷ xs) ys (suc n) h = slice_left xs ys n (omega arith)

slice_right : {X : Type 0} (xs ys : List X) (n : ℕ) → length xs ≤ n
    → slice_get (xs ++ ys) n ≡ slice_get ys (n - length xs)
slice_right [] ys n h = rw (less_none n) refl
slice_right (x ∷ xs) ys zero h = absurd (omega arith)
slice_right (x ∷ xs) ys (suc n) h = grind (arith, suc_less, slice_right xs ys n (omega arith))

slice_seam : {X : Type 0} (xs : List X) (x : X) (ys : List X) → slice_get (xs ++ x ∷ ys) (length xs) ≡ Some x
slice_seam xs x ys = grind (arith, slice_right)

take_seam : {X : Type 0} (xs ys : List X) → take (length xs) (xs ++ ys) ≡ xs
take_seam [] ys = refl
take_seam (x ∷ xs) ys = ap (λ l. x ∷ l) (take_seam xs ys)

-- ---- the first records

pub length-rows : (header : ℕ) (lists : Lists) → length (rows_from header lists) ≡ count_of lists
length-rows header [] = refl
length-rows header (records ∷ lists) = grind (arith, length-append, length-map, length-rows (header + 1) lists)

-- the rows of the first records are the first rows
pub rows-first : (header n : ℕ) (lists : Lists)
    → rows_from header (first_records n lists) ≡ take n (rows_from header lists)
rows-first header n [] = sym (take_none n)
rows-first header n (records ∷ lists) =
    grind (arith, take-map, length-map, take_append, rows-first (header + 1) (n - length records) lists)

pub count-first : (n : ℕ) (lists : Lists) → count_of (first_records n lists) ≡ min n (count_of lists)
count-first n [] = omega arith
count-first n (records ∷ lists) = grind (arith, length-append, length-take, count-first (n - length records) lists)

pub first-all : (n : ℕ) (lists : Lists) → count_of lists ≤ n → first_records n lists ≡ lists
first-all n [] h = refl
first-all n (records ∷ lists) h = grind (arith, length-append, take_all, first-all (n - length records) lists)

pub first-none : (lists : Lists) → first_records 0 lists ≡ replicate (length lists) []
first-none [] = refl
first-none (records ∷ lists) = grind (arith, none_less, first-none lists)

pub first-first : (n m : ℕ) (lists : Lists) → n ≤ m → first_records n (first_records m lists) ≡ first_records n lists
first-first n m [] h = refl
first-first n m (records ∷ lists) h =
    grind (arith, length-take, take-take, first-first (n - length records) (m - length records) lists)

-- ---- one row more

abbrev pub record_in : ListItem → Record
record_in (Controls next limits locks watches) = no_record
record_in (Row header id version name key body adj) =
    record { id = id; version = version; name = name; key = key; body = body; adj = adj }

abbrev pub header_in : ListItem → ℕ
header_in (Controls next limits locks watches) = 0
header_in (Row header id version name key body adj) = header

-- the n-th row is put last in its header
pub record IsNext (header n : ℕ) (lists : Lists) (item : ListItem) : Type 0 where
  pub place : ℕ
  pub within : place < length lists
  pub is_row : item ≡ row_of (header + place) (record_in item)
  pub placed : with_records (first_records n lists)
      place (records_of (first_records n lists) place ++ record_in item ∷ []) ≡ first_records (n + 1) lists

next_here : (header n : ℕ) (records : List Record) (lists : Lists) (item : ListItem) → n < length records
    → slice_get (rows_from header (records ∷ lists)) n ≡ Some item → IsNext header n (records ∷ lists) item
next_here header n records lists item within h = grind (arith, length-map, slice_get-map, slice_left, take_next)

next_later : (header n : ℕ) (records : List Record) (lists : Lists) (item : ListItem) → length records ≤ n
    → IsNext (header + 1) (n - length records) lists item → IsNext header n (records ∷ lists) item
next_later header n records lists item past next =
    let at : (header + 1) + next.place ≡ header + suc next.place = omega arith in
    let less : (n - length records) + 1 ≡ (n + 1) - length records = omega (arith, past) in
    record {
      place = suc next.place;
      within = omega (arith, next.within);
      is_row = rw (← at) next.is_row;
      placed = grind (arith, take_all);
    }

-- the n-th row of headers from this one on is one of this header's records, or a row of the later headers
pub row-here : (header n : ℕ) (records : List Record) (lists : Lists) → n < length records
    → slice_get (rows_from header (records ∷ lists)) n ≡ option_map (row_of header) (slice_get records n)
row-here header n records lists within = grind (arith, slice_left, length-map, slice_get-map)

pub row-later : (header n : ℕ) (records : List Record) (lists : Lists) → length records ≤ n
    → slice_get (rows_from header (records ∷ lists)) n ≡ slice_get (rows_from (header + 1) lists) (n - length records)
row-later header n records lists past = grind (arith, length-map, slice_right)

next_step : (header n : ℕ) (records : List Record) (lists : Lists) (item : ListItem)
    → slice_get (rows_from header (records ∷ lists)) n ≡ Some item → (slice_get (rows_from (header + 1) lists)
    (n - length records) ≡ Some item → IsNext (header + 1) (n - length records) lists item)
    → (b : Bool) → nat_lt n (length records) ≡ b → IsNext header n (records ∷ lists) item
next_step header n records lists item h ih true e = grind (arith, next_here, nat_tests)
next_step header n records lists item h ih false e = grind (arith, nat_tests, next_later, row-later)

pub next-row : (header n : ℕ) (lists : Lists) (item : ListItem) → slice_get (rows_from header lists) n ≡ Some item
    → IsNext header n lists item
next-row header n [] item h = absurd (cc)
next-row header n (records ∷ lists) item h =
    grind (arith, next_step, next-row (header + 1) (n - length records) lists item)

-- ---- the content of the first records

-- with the first n records alone
abbrev pub content_front : ℕ → Content → Content
content_front n content = record content { lists = first_records n content.lists }

pub place-next : (n : ℕ) (content : Content) (item : ListItem) → slice_get (rows_from 0 content.lists) n ≡ Some item
    → content_with (content_front n content) item ≡ content_front (n + 1) content
place-next n content item h =
    let next = next-row 0 n content.lists item h in grind arith

made_step : (n : ℕ) (content : Content) → n < length (rows_from 0 content.lists)
    → fold content_with (content_front 0 content) (take n (rows_from 0 content.lists)) ≡ content_front n content
    → (o : Option ListItem) → slice_get (rows_from 0 content.lists) n ≡ o → fold content_with
    (content_front 0 content) (take (n + 1) (rows_from 0 content.lists)) ≡ content_front (n + 1) content
made_step n content within ih None e = absurd (missing (rows_from 0 content.lists) n within e)
  where
    missing : (xs : List ListItem) (i : ℕ) → i < length xs → slice_get xs i ≡ None → ⊥
    missing [] i h k = omega arith
    missing (x ∷ xs) zero h k = cc
    missing (x ∷ xs) (suc i) h k = missing xs i (omega arith) k
made_step n content within ih (Some item) e =
    let rows = rows_from 0 content.lists in
    ap (λ (l : List ListItem). fold content_with (content_front 0 content) l) (take_next rows n item e)
    ∙ fold-append content_with (content_front 0 content) (take n rows) (item ∷ [])
    ∙ ap (λ (c : Content). content_with c item) ih ∙ place-next n content item e

-- the first n rows make it
pub made-front : (content : Content) (n : ℕ) → n ≤ length (rows_from 0 content.lists)
    → fold content_with (content_front 0 content) (take n (rows_from 0 content.lists)) ≡ content_front n content
made-front content zero h = refl
made-front content (suc n) h =
    let e : n + 1 ≡ suc n = omega arith in
    subst (λ (k : ℕ). fold content_with (content_front 0 content)
    (take k (rows_from 0 content.lists)) ≡ content_front k content) e (made_step n content
    (omega (arith, h)) (made-front content n (omega (arith, h))) (slice_get (rows_from 0 content.lists) n) refl)

-- ---- the controls

same_monitors : (monitors : List Monitor) → map monitor_of (map triple_of monitors) ≡ monitors
same_monitors [] = refl
same_monitors (monitor ∷ monitors) = ap (λ (l : List Monitor). monitor ∷ l) (same_monitors monitors)

no_records : (shape : Shape) (caps : Caps) (content : Content) → IsContent shape caps content
    → replicate (headers_of shape.kind) [] ≡ first_records 0 content.lists
no_records shape caps content is = sym (first-none content.lists ∙ ap (λ (k : ℕ). replicate k []) is.headers)

-- the controls alone make the content without its records
pub controls-placed : (shape : Shape) (caps : Caps) (content : Content) → IsContent shape caps content
    → content_with (no_content shape) (controls_of content) ≡ content_front 0 content
controls-placed shape caps content is =
    let put : Lists → List Monitor → Content =
    λ lists monitors. record content { lists = lists; monitors = monitors } in
    ap (λ (l : Lists). put l (map monitor_of (map triple_of content.monitors))) (no_records shape caps content is)
    ∙ ap (λ (m : List Monitor). put (first_records 0 content.lists) m) (same_monitors content.monitors)

all_limits : (n : ℕ) (limits : List ℕ) → list_any (λ limit. not (limit == n)) limits ≡ false
    → limits ≡ replicate (length limits) n
all_limits n [] h = refl
all_limits n (limit ∷ limits) h = grind (arith, nat_tests, or_parts, all_limits n limits)

all_free : (locks : List (Option ConnId)) → list_any is_some locks ≡ false → locks ≡ replicate (length locks) None
all_free [] h = refl
all_free (None ∷ locks) h = grind (arith, all_free locks)
all_free (Some conn ∷ locks) h = absurd (false≢true (sym h))

none_left : (monitors : List Monitor) → not (length monitors == 0) ≡ false → monitors ≡ []
none_left [] h = refl
none_left (monitor ∷ monitors) h = grind (arith, false≢true, nat_tests)

is_it : (n m : ℕ) → not (n == m) ≡ false → n ≡ m
is_it n m h = grind (arith, nat_tests)

-- where nothing of the controls differs
pub controls-absent : (shape : Shape) (caps : Caps) (content : Content) → IsContent shape caps content
    → has_controls shape content ≡ false → no_content shape ≡ content_front 0 content
controls-absent shape caps content is h =
    let first = or_parts _ (not (length content.monitors == 0)) h in
    let second = or_parts _ (list_any is_some content.locks) first.0 in
    let third = or_parts (not (content.next == 1)) _ second.0 in
    let limits = all_limits shape.caps.entries content.limits third.1 in
    let locks = all_free content.locks second.1 in
    let monitors = none_left content.monitors first.1 in
    let next = is_it content.next 1 third.0 in
    let lists = no_records shape caps content is in
    cc (limits, locks, monitors, next, lists, is.headers, is.limits, is.locks)

-- ---- items

-- the controls, where they differ
abbrev pub controls_in : Shape → Content → List ListItem
controls_in shape content = cond (has_controls shape content) (controls_of content ∷ []) []

pub items-split : (shape : Shape) (content : Content)
    → items_of shape content ≡ controls_in shape content ++ rows_from 0 content.lists
items-split shape content = grind arith

made_controls_step : (shape : Shape) (caps : Caps) (content : Content) → IsContent shape caps content → (b : Bool)
    → has_controls shape content ≡ b
    → fold content_with (no_content shape) (cond b (controls_of content ∷ []) []) ≡ content_front 0 content
made_controls_step shape caps content is true e = controls-placed shape caps content is
made_controls_step shape caps content is false e = controls-absent shape caps content is e

pub made-controls : (shape : Shape) (caps : Caps) (content : Content) → IsContent shape caps content
    → fold content_with (no_content shape) (controls_in shape content) ≡ content_front 0 content
made-controls shape caps content is = made_controls_step shape caps content is (has_controls shape content) refl

-- the controls and the first n rows make the content of the first n records
pub made-first : (shape : Shape) (caps : Caps) (content : Content) (n : ℕ)
    → IsContent shape caps content → n ≤ length (rows_from 0 content.lists) → fold content_with
    (no_content shape) (controls_in shape content ++ take n (rows_from 0 content.lists)) ≡ content_front n content
made-first shape caps content n is h = fold-append content_with (no_content shape)
    (controls_in shape content) (take n (rows_from 0 content.lists)) ∙ ap (λ (c : Content). fold content_with
    c (take n (rows_from 0 content.lists))) (made-controls shape caps content is) ∙ made-front content n h

-- the items of a content make it again
pub made-again : (shape : Shape) (caps : Caps) (content : Content) → IsContent shape caps content
    → fold content_with (no_content shape) (items_of shape content) ≡ content
made-again shape caps content is =
    let rows = rows_from 0 content.lists in
    let whole = take_all (length rows) rows (omega arith) in
    let made = made-first shape caps content (length rows) is (omega arith) in
    grind (arith, items-split, first-all, length-rows)

-- the items of the content of the first n records
pub items-front : (shape : Shape) (content : Content) (n : ℕ)
    → items_of shape (content_front n content) ≡ controls_in shape content ++ take n (rows_from 0 content.lists)
items-front shape content n = grind (arith, items-split, rows-first)

-- how many items there are
pub length-items : (shape : Shape) (content : Content)
    → length (items_of shape content) ≡ cond (has_controls shape content) 1 0 + count_of content.lists
length-items shape content = grind (arith, length-rows)

-- ---- one item more

-- the first items are those of the first records and the item is the next row, or there are none and the item is the
-- controls
pub record ComesNext (shape : Shape) (whole state : Content) (item : ListItem) : Type 0 where
  pub count : ℕ
  pub front : state ≡ content_front count whole
  pub row : slice_get (rows_from 0 whole.lists) count ≡ Some item

pub record ComesFirst (shape : Shape) (whole state : Content) (item : ListItem) : Type 0 where
  pub start : state ≡ no_content shape
  pub there : has_controls shape whole ≡ true
  pub controls : item ≡ controls_of whole

row_comes : (shape : Shape) (caps : Caps) (whole state : Content)
    (item : ListItem) (controls rows others : List ListItem) → IsContent shape caps whole
    → controls ≡ controls_in shape whole → rows_from 0 whole.lists ≡ rows ++ item ∷ others
    → fold content_with (no_content shape) (controls ++ rows) ≡ state → ComesNext shape whole state item
row_comes shape caps whole state item controls rows others is e split made =
    let first = made-first shape caps whole (length rows) is (grind (arith, length-append)) in record {
      count = length rows;
      front = grind (arith, take_seam);
      row = rw split (slice_seam rows item others);
    }

comes : (shape : Shape) (caps : Caps) (whole state : Content) (item : ListItem) (items others : List ListItem)
    → IsContent shape caps whole → (b : Bool) → has_controls shape whole ≡ b → cond b (controls_of
    whole ∷ rows_from 0 whole.lists) (rows_from 0 whole.lists) ≡ items ++ item ∷ others → fold content_with
    (no_content shape) items ≡ state → ComesFirst shape whole state item ⊎ ComesNext shape whole state item
comes shape caps whole state item [] others is true e split made = grind arith
comes shape caps whole state item (first ∷ items) others is true e split made =
    let same : controls_of whole ≡ first = cc in
    let rest : rows_from 0 whole.lists ≡ items ++ item ∷ others = cc in
    inr (row_comes shape caps whole state item (first ∷ []) items others is (grind arith) rest made)
comes shape caps whole state item items others is false e split made = inr (row_comes shape caps
    whole state item [] items others is (ap (λ (b : Bool). cond b (controls_of whole ∷ []) []) (sym e)) split made)

pub item-comes : (shape : Shape) (caps : Caps)
    (whole state : Content) (item : ListItem) (items others : List ListItem) → IsContent shape caps whole
    → items_of shape whole ≡ items ++ item ∷ others → fold content_with (no_content shape) items ≡ state
    → ComesFirst shape whole state item ⊎ ComesNext shape whole state item
item-comes shape caps whole state item items others is split made =
    comes shape caps whole state item items others is (has_controls shape whole) refl split made
