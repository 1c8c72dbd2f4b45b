-- The laws of the engine's meaning.
use Rattle.cache_model.proofs.Imports.{◌≡◌, ◌+◌, ◌-◌, Bool, IsTrue, true, false, not, ◌&&◌, List, [], ◌∷◌, ◌++◌, append-nil, append_assoc, Option, None, Some, length, length-append, filter, take, drop, slice_get, fold, ⊎_elim, refl, sym, ap, ◌∙◌, arith, list_all, and_parts, or_from, or_left, or_cases, not-true, false≢true, same_name, Name16, filter_all, list_all_weaker, list_all_both, list_all-filter, list_all-filter_same, split_next, length-map, take_all, take_at, take-append-drop, drop_all, slice_get_cases, list_all-append, list_any-append, sum_by-append, is_cache, Caps, Kind, ConnId, Shape, Fits, IsNoMore, IsNoMoreOf, FrontLaws, fronts, pairwise, pairwise_front, Registration, regs_for_others, same_name-eq, same_name-sym, registry-filter, CacheItem, has_row, names_apart, Content, IsContent, no_content, content_without, content_forgotten, content_with, content_without_last, regs_without_row, need_of, cache_meaning}
use Rattle.cache_model.proofs.RowLaws.{size, elements-without_hold}
use Rattle.cache_model.proofs.ContentLaws as laws

pub content-nothing : (caps : Caps) → IsContent caps no_content
content-nothing caps = grind arith

pub leave-content : (caps : Caps) (content : Content) (conn : ConnId) → IsContent caps content
    → IsContent caps (content_without conn content)
leave-content caps content conn is = laws.content-without caps content conn is

-- ---- items

made-from : (content : Content) (items : List CacheItem) → fold content_with content items ≡ record content
    { rows = content.rows ++ items }
made-from content [] = ap (λ (l : List CacheItem). record content { rows = l }) (sym (append-nil content.rows))
made-from content (item ∷ items) = grind (arith, append_assoc, made-from (content_with content item) items)

pub made-items : (rows : List CacheItem) → fold content_with no_content rows ≡ record { rows = rows; regs = [] }
made-items rows = made-from no_content rows

pub need-front : (items others : List CacheItem) → IsNoMore (need_of items) (need_of (items ++ others))
need-front items others = (omega (arith, length-append items others), omega (arith, sum_by-append size items others))

pub need-leave : (kind : Kind) (content : Content) (conn : ConnId)
    → IsNoMoreOf kind (need_of (content_without conn content).rows) (need_of content.rows)
need-leave kind content conn = grind (arith, length-map, elements-without_hold)

pub content-moved : (shape : Shape) (caps other : Caps) (content : Content) → IsTrue (is_cache shape.kind) → IsContent
    caps content → Fits shape.kind (need_of content.rows) other → IsContent other (content_forgotten content)
content-moved shape caps other content kind is fits = grind arith

-- ---- a content is within its capacity, and is one at each other that it is within

pub content-fits : (shape : Shape) (caps : Caps) (content : Content) → IsTrue (is_cache shape.kind)
    → IsContent caps content → Fits shape.kind (need_of content.rows) caps
content-fits shape caps content kind is = grind arith

pub content-at : (shape : Shape) (caps other : Caps) (content : Content) → IsTrue (is_cache shape.kind)
    → IsContent caps content → Fits shape.kind (need_of content.rows) other → IsContent other content
content-at shape caps other content kind is fits = grind arith

-- ---- a front of the rows

-- the first rows of a content, with no registrations, are a content
pub content-front : (caps : Caps) (whole : Content) (rows others : List CacheItem)
    → IsContent caps whole → whole.rows ≡ rows ++ others → IsContent caps (record { rows = rows; regs = [] })
content-front caps whole rows others is e =
    grind (arith, pairwise_front, and_parts, list_all-append, length-append, sum_by-append, size)

-- one more of the rows of a content has a name of its own
pub alone-next : (rows others : List CacheItem) (item : CacheItem) → pairwise names_apart (rows ++ item ∷ others) ≡
    true → has_row item.name rows ≡ false
alone-next [] others item h = refl
alone-next (row ∷ rows) others item h =
    let parts = and_parts (list_all (names_apart row) (rows ++ item ∷ others))
    (pairwise names_apart (rows ++ item ∷ others)) h in
    let split = and_parts (list_all (names_apart row) rows) (list_all (names_apart row) (item ∷ others))
    (sym (list_all-append (names_apart row) rows (item ∷ others)) ∙ parts.0) in
    let first = and_parts (names_apart row item) (list_all (names_apart row) others) split.1 in
    or_from (same_name row.name item.name) (has_row item.name rows) (not-true (same_name row.name item.name) first.0)
    (alone-next rows others item parts.1)

-- one more of the rows of a content, within the capacity
pub content-next : (caps : Caps) (content whole : Content) (item : CacheItem) (others : List CacheItem)
    → IsContent caps content → IsContent caps whole
    → whole.rows ≡ content.rows ++ item ∷ others → IsContent caps (content_with content item)
content-next caps content whole item others is all e =
    let front = content-front _ _ _ _ all (e ∙ sym (append_assoc content.rows (item ∷ []) others)) in
    record {
      directory = front.directory;
      entries = front.entries;
      elements = front.elements;
      registry = is.registry;
      row_each = grind (arith, list_all_weaker, list_any-append, or_left);
    }

-- ---- without the last row

-- who is registered for another name than the last row's has a row in front of it
row_in_front : (row : CacheItem) (front : List CacheItem) (reg : Registration)
    → has_row reg.name (front ++ row ∷ []) && not (same_name reg.name row.name) ≡ true → has_row reg.name front ≡ true
row_in_front row front reg h = grind (arith, and_parts, or_cases, list_any-append, false≢true, same_name-sym, or_from)

-- the last row of a content goes, with its registrations
without_last : (caps : Caps) (content : Content) → IsContent caps content
    → (row : Option CacheItem) → slice_get content.rows (length content.rows - 1) ≡ row → IsContent caps (record {
      rows = take (length content.rows - 1) content.rows;
      regs = regs_without_row row content.regs;
    })
without_last caps content is None at =
    grind (arith, content-front, take-append-drop, take_all, ⊎_elim, slice_get_cases)
without_last caps content is (Some row) at =
    let rows = content.rows in
    let last = length rows - 1 in
    let front = content-front caps content (take last rows) (drop last rows) is (sym (take-append-drop last rows)) in
    let split : rows ≡ take last rows ++ row ∷ [] = split_next rows last row at
    ∙ ap (λ (l : List CacheItem). take last rows ++ row ∷ l) (drop_all (last + 1) rows (omega arith)) in
    let others = λ (reg : Registration). not (same_name reg.name row.name) in
    record {
      directory = front.directory;
      entries = front.entries;
      elements = front.elements;
      registry = registry-filter others content.regs is.registry;
      row_each = list_all_weaker (λ reg. has_row reg.name (take last rows ++ row ∷ []) && others reg)
          (λ reg. has_row reg.name (take last rows)) (row_in_front row (take last rows))
          (filter others content.regs) (list_all_both (λ reg. has_row reg.name (take last rows ++ row ∷ [])) others
          (filter others content.regs) (grind (arith, list_all-filter)) (list_all-filter_same others content.regs));
    }

pub content-without_last : (caps : Caps) (content : Content) → IsContent caps content
    → IsContent caps (content_without_last content)
content-without_last caps content is =
    without_last caps content is (slice_get content.rows (length content.rows - 1)) refl

last_of : (rows : List CacheItem) (item : CacheItem) → slice_get (rows ++ item ∷ []) (length rows) ≡ Some item
last_of [] item = refl
last_of (row ∷ rows) item = last_of rows item

-- nobody is registered for a name that has no row
no_regs_for : (name : Name16) (content : Content) → has_row name content.rows ≡ false → list_all
    (λ reg. has_row reg.name content.rows) content.regs ≡ true → regs_for_others name content.regs ≡ content.regs
no_regs_for name content none each = grind (arith, filter_all, list_all_weaker, apart)
  where
    apart : (reg : Registration) (named : Bool) → same_name reg.name name ≡ named
        → has_row reg.name content.rows ≡ true → not (same_name reg.name name) ≡ true
    apart reg true is there = absurd (false≢true
        (sym none ∙ ap (λ (n : Name16). has_row n content.rows) (sym (same_name-eq reg.name name is)) ∙ there))
    apart reg false is there = ap not is

-- the next row of a content goes again as it came
pub unplace-place : (caps : Caps) (content whole : Content) (item : CacheItem) (others : List CacheItem)
    → IsContent caps content → IsContent caps whole → whole.rows ≡ content.rows ++ item ∷ others
    → content_without_last (content_with content item) ≡ content
unplace-place caps content whole item others is all split =
    grind (arith, length-append, last_of, take_at, no_regs_for, alone-next)

-- ---- what the first rows make

pub cache-fronts : FrontLaws cache_meaning is_cache (λ shape caps content. IsContent caps content)
cache-fronts = fronts _ _ (λ shape caps content. IsContent caps content) (record {
  content_empty = λ shape caps. content-nothing _;
  items_empty = λ shape. refl;
  made_again = λ shape caps content is. made-items _;
  content_moved = content-moved;
  content_place = λ shape caps content item is next. content-next _ _ _ _ _ is next.content next.first;
  items_place = λ shape caps content item is next. refl;
  unplace_place = λ shape caps content item is next. unplace-place _ _ _ _ _ is next.content next.first;
})
