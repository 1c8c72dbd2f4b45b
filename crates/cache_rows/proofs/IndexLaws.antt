-- The indexes stay those of the rows.
use Rattle.cache_rows.proofs.Imports.{◌≡◌, ℕ, ◌≤◌, Bool, true, false, not, ◌&&◌, cond, List, [], ◌∷◌, ◌++◌, append-nil, Option, Some, None, is_some, unwrap_or, filter, map, refl, sym, ap, ◌∙◌, arith, list_all, and_parts, or_left, or_right, false≢true, map-append, filter-append, Name16, ConnId, name_before, pairwise, insertion, filter_swap, filter_none, none_from_all, list_all_weaker, list_all_always, filter-insertion_out, pairwise-insertion, pairwise_push, Changed, names_without, names_with, names_set, room_taken, order_without, same_name-refl, CacheItem, is_changed, has_row, rows_without, stands_before, rows_with, may_precede, names_apart, without_hold, without-absent, alone-next, changed_of, classes_of, order_of, order_with, changed_first, insertion_behind}

-- ---- filters of maps

map_step : {X Y : Type 0} (f : X → Y) (b : Bool) (x : X) (xs : List X) (ys : List Y) → ys ≡ map f xs
    → cond b (f x ∷ ys) ys ≡ map f (cond b (x ∷ xs) xs)
map_step f true x xs ys e = ap (λ l. f x ∷ l) e
map_step f false x xs ys e = e

pub filter-map : {X Y : Type 0} (p : Y → Bool) (f : X → Y) (xs : List X)
    → filter p (map f xs) ≡ map f (filter (λ x. p (f x)) xs)
filter-map p f [] = refl
filter-map p f (x ∷ xs) = map_step f (p (f x)) x (filter (λ y. p (f y)) xs) (filter p (map f xs)) (filter-map p f xs)

-- ---- a row is taken out

pub classes-without : (name : Name16) (rows : List CacheItem)
    → names_without name (classes_of rows) ≡ classes_of (rows_without name rows)
classes-without name rows = grind (arith, filter-map, filter_swap)

pub order-without : (name : Name16) (rows : List CacheItem)
    → order_without name (order_of rows) ≡ order_of (rows_without name rows)
order-without name rows = grind (arith, filter-map, filter_swap)

-- ---- a row is put in its place

-- where one is unchanged, so are those behind it
pub unchanged_behind : (y : CacheItem) (ys : List CacheItem)
    → is_changed y ≡ false → list_all (changed_first y) ys ≡ true → filter is_changed ys ≡ []
unchanged_behind y ys e h = grind (arith, filter_none, none_from_all, list_all_weaker, false≢true)

placed : (a n : Bool) (row y : CacheItem) (ys zs : List CacheItem) → is_changed row ≡ true
    → is_changed y ≡ a → (a ≡ false → filter is_changed ys ≡ [])
    → classes_of zs ≡ names_with (changed_of row) (classes_of ys) → n ≡ name_before y.name row.name
    → classes_of (cond (a && n) (y ∷ zs) (row ∷ y ∷ ys)) ≡ names_with (changed_of row) (classes_of (y ∷ ys))
placed true true row y ys zs e f none ih same = rw (f, ← same) (ap (λ (l : List Changed). changed_of y ∷ l) ih)
placed true false row y ys zs e f none ih same = rw (e, f, ← same) refl
placed false n row y ys zs e f none ih same = rw (e, f, none refl) refl

classes-insertion : (row : CacheItem) (rows : List CacheItem) → is_changed row ≡ true → pairwise changed_first
    rows ≡ true → classes_of (insertion (stands_before row) row rows) ≡ names_with (changed_of row) (classes_of rows)
classes-insertion row [] e h = rw e refl
classes-insertion row (y ∷ ys) e h =
    let parts = and_parts (list_all (changed_first y) ys) (pairwise changed_first ys) h in
    placed _ _ _ y _ _ e refl (λ f. unchanged_behind y _ f parts.0) (classes-insertion row ys e parts.1) refl

classes-last : (b : Bool) (row : CacheItem) (rows : List CacheItem) → is_changed row ≡ b
    → classes_of (rows ++ row ∷ []) ≡ classes_of rows ++ cond b (changed_of row ∷ []) []
classes-last b row rows e = grind (arith, filter-append, map-append)

-- the name's class, where it had none
set-absent : (name : Name16) (class : Option ℕ) (names : List Changed) → names_without name names ≡ names
    → names_set name class names
    ≡ cond (is_some class) (names_with (record { name = name; class = unwrap_or class 0 }) names) names
set-absent name None names h = h
set-absent name (Some class) names h = grind arith

pub classes-put : (row : CacheItem) (rows : List CacheItem) → has_row row.name rows ≡ false → pairwise
    changed_first rows ≡ true → names_set row.name row.class (classes_of rows) ≡ classes_of (rows_with row rows)
classes-put row rows absent h = set-absent row.name row.class
    (classes_of rows) (grind (arith, classes-without, without-absent)) ∙ go (is_changed row) refl
  where
    go : (b : Bool) → is_changed row ≡ b → cond b (names_with (changed_of row) (classes_of rows))
        (classes_of rows) ≡ classes_of (cond b (insertion (stands_before row) row rows) (rows ++ row ∷ []))
    go true e = sym (classes-insertion row rows e h)
    go false e = sym (classes-last false row rows e ∙ append-nil (classes_of rows))

pub order-put : (row : CacheItem) (rows : List CacheItem) → has_row row.name rows ≡ false
    → order_with row (order_of rows) ≡ order_of (rows_with row rows)
order-put row rows absent =
    grind (arith, filter-insertion_out, append-nil, order-without, without-absent, filter-append, map-append)

pub front-put : (row : CacheItem) (rows : List CacheItem) → pairwise changed_first rows ≡ true
    → pairwise changed_first (rows_with row rows) ≡ true
front-put row rows h = go (is_changed row) refl
  where
    go : (b : Bool) → is_changed row ≡ b → pairwise changed_first
        (cond b (insertion (stands_before row) row rows) (rows ++ row ∷ [])) ≡ true
    go true e = pairwise-insertion changed_first (stands_before row) (λ other. true) row rows
        (grind (arith, or_left, and_parts)) (list_all_always (λ (other : CacheItem). true) (λ other. refl) rows) h
    go false e = grind (arith, pairwise_push, list_all_always, or_right)

-- ---- a row is put behind the others, where it has its place

last_step : (a b n : Bool) → b ≡ true → cond a (cond b n true) (not b) ≡ true → a && n ≡ true
last_step true true n e h = h
last_step false true n e h = absurd (false≢true h)
last_step a false n e h = absurd (false≢true e)

-- a row that may follow all others has its place behind them
pub with-last : (row : CacheItem) (rows : List CacheItem) → list_all (λ other. may_precede other row) rows ≡ true
    → rows_with row rows ≡ rows ++ row ∷ []
with-last row rows last = grind (arith, insertion_behind, list_all_weaker, last_step)

-- ---- castout locks are released

pub map_same : {X Y Z : Type 0} (f : Y → Z) (g : X → Y) (h : X → Z) → ((x : X) → f (g x) ≡ h x) → (xs : List X)
    → map f (map g xs) ≡ map h xs
map_same f g h e [] = refl
map_same f g h e (x ∷ xs) = rw (e x) (ap (λ l. h x ∷ l) (map_same f g h e xs))

pub classes-released : (conn : ConnId) (rows : List CacheItem)
    → classes_of (map (without_hold conn) rows) ≡ classes_of rows
classes-released conn rows = grind (arith, filter-map, map_same)

pub order-released : (conn : ConnId) (rows : List CacheItem) → order_of (map (without_hold conn) rows) ≡ order_of rows
order-released conn rows = grind (arith, filter-map, map_same)

-- ---- the last row goes

pub without-last : (row : CacheItem) (rows : List CacheItem) → pairwise names_apart (rows ++ row ∷ []) ≡ true
    → rows_without row.name (rows ++ row ∷ []) ≡ rows
without-last row rows h =
    grind (arith, filter-append, same_name-refl, append-nil, without-absent, alone-next, false≢true)

-- ---- how many

pub room_taken-le : (class : Option ℕ) → room_taken class ≤ 1
room_taken-le None = omega arith
room_taken-le (Some class) = omega arith
