-- Registrations, listed by index and counted by connector.
use Rattle.cache_regs.proofs.Imports.{◌≡◌, ℕ, ◌+◌, Bool, true, false, not, ◌&&◌, ◌==◌, nat_lt, cond, List, [], ◌∷◌, ◌++◌, Option, Some, None, option_map, length, filter, find, map, append-nil, refl, sym, ap, ◌∙◌, arith, list_any, list_all, and_parts, nat_tests, filter_agree, length-filter_both, Name16, ConnId, pairwise, filter-filter, filter_none, filter_nothing, none_from_all, list_all_weaker, all_from_none, any_is_found, Registration, is_of, is_at, is_for, registered_at, stands_before, names_apart, ends_with_name, named_at, is_below, ends_of, ends_below, spares}
use Rattle.cache_regs.proofs.RegLaws.{one_for_name}
use Rattle.cache_regs.proofs.EndLaws.{filter_within, any_counted, of_spare, name_first, below_first}

-- an index with the name there
abbrev pub listed : Registration → ℕ × Name16
listed reg = (reg.index, reg.name)

none_at : (conn : ConnId) (index : ℕ) (xs : List Registration) → registered_at xs conn index ≡ None
    → list_any (is_at conn index) xs ≡ false
none_at conn index xs h = grind (arith, any_is_found)

pub listed_none : (conn : ConnId) (index : ℕ) (xs : List Registration) → registered_at xs conn index ≡ None
    → filter (is_below conn (index + 1)) xs ≡ filter (is_below conn index) xs
listed_none conn index xs h = filter_within (λ x. not (is_at conn index x)) (is_below conn (index + 1))
    (is_below conn index) xs (all_from_none (is_at conn index) xs (none_at conn index xs h)) (grind (arith, step))
  where
    step : (b : Bool) (j k : ℕ) → not (b && (j == k)) ≡ true → b && nat_lt j (k + 1) ≡ b && nat_lt j k
    step b j k e = grind (arith, nat_tests)

none_below : (conn : ConnId) (index : ℕ) (x : Registration) (xs : List Registration) → is_at conn index x ≡ true
    → list_all (stands_before x) xs ≡ true → filter (is_below conn (index + 1)) xs ≡ []
none_below conn index x xs here all = grind (arith, filter_none, none_from_all, list_all_weaker, nat_tests)

fewer_below : (conn : ConnId) (index : ℕ) (xs : List Registration) → filter (is_below conn (index + 1)) xs ≡ []
    → filter (is_below conn index) xs ≡ []
fewer_below conn index xs h = filter_agree (is_below conn index)
    (λ x. is_below conn (index + 1) x && is_below conn index x) (λ x. step (is_of conn x) x.index index) xs
    ∙ sym (filter-filter (is_below conn index) (is_below conn (index + 1)) xs) ∙ ap (filter (is_below conn index)) h
  where
    step : (b : Bool) (j k : ℕ) → b && nat_lt j k ≡ (b && nat_lt j (k + 1)) && (b && nat_lt j k)
    step b j k = grind (arith, nat_tests)

there_same : (b : Bool) (j k : ℕ) → b && (j == k) ≡ false → b && nat_lt j (k + 1) ≡ b && nat_lt j k
there_same b j k h = grind (arith, nat_tests)

-- the one at an index comes behind those below it
pub listed_some : (conn : ConnId) (index : ℕ) (name : Name16) (xs : List Registration)
    → pairwise stands_before xs ≡ true → registered_at xs conn index ≡ Some name → map listed
    (filter (is_below conn (index + 1)) xs) ≡ map listed (filter (is_below conn index) xs) ++ (index, name) ∷ []
listed_some conn index name [] h e = absurd (cc)
listed_some conn index name (x ∷ xs) h e =
    let parts = and_parts (list_all (stands_before x) xs) (pairwise stands_before xs) h in
    go (is_at conn index x) refl parts.0 e (listed_some conn index name xs parts.1)
  where
    past : (b : Bool) → is_below conn (index + 1) x ≡ b → is_below conn index x ≡ b → map listed
        (filter (is_below conn (index + 1)) xs) ≡ map listed (filter (is_below conn index) xs) ++ (index, name) ∷ []
        → map listed (filter (is_below conn (index + 1)) (x ∷ xs)) ≡ map
        listed (filter (is_below conn index) (x ∷ xs)) ++ (index, name) ∷ []
    past true f g ih = rw (f, g) (ap (λ l. listed x ∷ l) ih)
    past false f g ih = rw (f, g) ih

    go : (b : Bool) → is_at conn index x ≡ b → list_all (stands_before x) xs ≡ true
        → option_map (λ reg. reg.name) (cond b (Some x) (find (is_at conn index) xs)) ≡ Some name
        → (registered_at xs conn index ≡ Some name → map listed (filter (is_below conn (index + 1)) xs) ≡ map listed
        (filter (is_below conn index) xs) ++ (index, name) ∷ []) → map listed (filter (is_below conn (index + 1))
        (x ∷ xs)) ≡ map listed (filter (is_below conn index) (x ∷ xs)) ++ (index, name) ∷ []
    go true f all e ih = grind (arith, none_below, fewer_below, nat_tests)
    go false f all e ih = past (is_below conn index x) (there_same (is_of conn x) x.index index f) refl (ih e)

-- ---- counts

pub count_more : (name : Name16) (spare : Option ConnId) (k : ℕ) (xs : List Registration)
    → length (filter (ends_below name spare (k + 1)) xs) ≡ length (filter (ends_below name spare k) xs) + length
    (filter (ends_of name spare (record { 0 = k })) xs)
count_more name spare k xs =
    let next = ends_below name spare (k + 1) in
    let now = ends_below name spare k in
    let parts = length-filter_both now (λ x. not (now x)) (λ _. refl) (filter next xs) in
    let left = ap length (filter-filter now next xs
    ∙ filter_agree (λ x. next x && now x) now (λ x. kept (ends_with_name name spare x) x.conn.0 k) xs) in
    let right = ap length (filter-filter (λ x. not (now x)) next xs
    ∙ filter_agree (λ x. next x && not (now x)) (ends_of name spare (record { 0 = k })) (grind (arith, added)) xs) in
    omega (arith, parts, left, right)
  where
    kept : (b : Bool) (j k : ℕ) → (b && nat_lt j (k + 1)) && (b && nat_lt j k) ≡ b && nat_lt j k
    kept b j k = grind (arith, nat_tests)

    added : (b : Bool) (j k : ℕ) → (b && nat_lt j (k + 1)) && not (b && nat_lt j k) ≡ b && (j == k)
    added b j k = grind (arith, nat_tests)

pub count_spared : (name : Name16) (spare : Option ConnId) (conn : ConnId) (xs : List Registration)
    → spares spare conn ≡ true → 0 ≡ length (filter (ends_of name spare conn) xs)
count_spared name spare conn xs e = sym (ap length
    (filter_agree (ends_of name spare conn) (λ x. false) (of_spare name spare conn true e) xs ∙ filter_nothing xs))

pub count_absent : (name : Name16) (spare : Option ConnId) (conn : ConnId) (xs : List Registration) → spares
    spare conn ≡ false → list_any (is_for conn name) xs ≡ false → 0 ≡ length (filter (ends_of name spare conn) xs)
count_absent name spare conn xs e none = sym (ap length (filter_agree (ends_of name spare conn)
    (is_for conn name) (of_spare name spare conn false e) xs ∙ filter_none (is_for conn name) xs none))

pub count_one : (name : Name16) (spare : Option ConnId) (conn : ConnId) (xs : List Registration)
    → spares spare conn ≡ false → pairwise names_apart xs ≡ true → list_any (is_for conn name) xs ≡ true
    → 1 ≡ length (filter (ends_of name spare conn) xs)
count_one name spare conn xs e apart some =
    let most = one_for_name conn name xs apart in
    let least = any_counted (is_for conn name) xs some in
    let same = ap length (filter_agree (ends_of name spare conn) (is_for conn name) (grind (arith, of_spare)) xs) in
    omega (arith, most, least, same)

pub count_all : (name : Name16) (spare : Option ConnId) (k : ℕ) (xs : List Registration) → list_all
    (λ x. nat_lt x.conn.0 k) xs ≡ true → filter (ends_below name spare k) xs ≡ filter (ends_with_name name spare) xs
count_all name spare k xs all = grind (arith, filter_within)

pub count_first : (name : Name16) (spare : Option ConnId) (xs : List Registration)
    → 0 ≡ length (filter (ends_below name spare 0) xs)
count_first name spare xs =
    sym (ap length (filter_agree (ends_below name spare 0) (λ x. false) (name_first name spare) xs ∙ filter_nothing xs))

-- ---- the list of a connector

pub listed_first : (conn : ConnId) (xs : List Registration) → [] ≡ map listed (filter (is_below conn 0) xs)
listed_first conn xs =
    sym (ap (map listed) (filter_agree (is_below conn 0) (λ x. false) (below_first conn) xs ∙ filter_nothing xs))

pub listed_more : (conn : ConnId) (index : ℕ) (xs : List Registration) → pairwise stands_before xs ≡ true
    → map listed (filter (is_below conn index) xs) ++ named_at index (registered_at xs conn index)
    ≡ map listed (filter (is_below conn (index + 1)) xs)
listed_more conn index xs h = grind (arith, append-nil, listed_none, listed_some)

pub listed_all : (conn : ConnId) (len : ℕ) (xs : List Registration) → list_all (λ x. nat_lt x.index len) xs ≡ true
    → map listed (filter (is_below conn len) xs) ≡ map listed (filter (is_of conn) xs)
listed_all conn len xs all = grind (arith, filter_within)
