-- What is read of the owners of one resource, and of the resources of one connector; and what a departure leaves.
use Rattle.lock_interests.proofs.Imports.{◌≡◌, ℕ, zero, suc, ◌+◌, ◌<◌, ◌++◌, arith, length, drop, get_or, Bool, true, false, not, ◌&&◌, ◌||◌, ◌==◌, cond, if◌then◌else◌, List, [], ◌∷◌, Option, Some, None, is_some, option_map, filter, find, map, refl, sym, ap, ◌∙◌, subst, option_to_list, list_any, list_all, filter_map, cons_option, append_assoc, filter_agree, and_parts, and_from, eqb-true, false≢true, ConnId, Resource, Part, same_part, same_resource, same_part-eq, same_part-refl, same_resource_comm, pairwise, any_is_found, all_found, found_passes, filter_swap, filter_absorbed, none_later, later_apart, AllFound, found_filter, Held, is_on, is_by, is_interest, has_interest, owners_of, owners_retained, owners_without_active, in_retention, in_retention_of, are_apart, resource_of, Record, is_record, is_of, has_record, record_of, Interest, stays, with_record, interests_of, letters_told, record_read, records_read, held_read, read_in, is_held_retained, retained_at, retained_all, AreOwned, length-filter-le, both_implied}
use Rattle.std.proofs.Common.{slice_get}
use Rattle.lock_model.specs.Interests as interests
use Rattle.lock_model.specs.Commands.Decide as decide
use Rattle.lock_model.specs.Commands.RtRead as rt_read
use Rattle.lock_model.specs.Commands.RtDelete as rt_delete
use Rattle.lock_interests.proofs.CountLaws.{has_is_some, some_mapped, part_of, datum_part, has-joined}
use Rattle.lock_interests.proofs.ReadLaws.{recorded-joined, any_recorded-joined, told-joined, part-joined, manager-joined, read-joined}

-- ---- the interest of a connector among the owners of a resource

find_step : (s t : Bool) (x : Held) (o u : Option Held) (p : Held → Bool) (xs : List Held) → p x ≡ t → find p xs ≡ o
    → o ≡ u → find p (cond s (x ∷ xs) xs) ≡ cond (s && t) (Some x) u
find_step true true x o u p xs e f g = rw e refl
find_step true false x o u p xs e f g = rw e (f ∙ g)
find_step false t x o u p xs e f g = f ∙ g

pub find_both : (r : Resource) (conn : ConnId) (owners : List Held)
    → find (λ held. held.conn.0 == conn.0) (filter (is_on r) owners) ≡ find (is_interest r conn) owners
find_both r conn [] = refl
find_both r conn (x ∷ xs) = grind (arith, find_step, find_both r conn xs)

retained_step : (a b c : Bool) (o : Option Held) (x : Held) → x.retained ≡ b → (a ≡ true → c ≡ false)
    → c ≡ is_held_retained o → (a && b) || c ≡ is_held_retained (cond a (Some x) o)
retained_step true true c o x e f g = sym e
retained_step true false c o x e f g = f refl ∙ sym e
retained_step false b c o x e f g = g

none_retained : (r : Resource) (conn : ConnId) (xs : List Held) → list_any (is_interest r conn) xs ≡ false
    → list_any (λ held. is_interest r conn held && held.retained) xs ≡ false
none_retained r conn [] h = refl
none_retained r conn (x ∷ xs) h = grind (arith, false≢true, none_retained r conn xs)

pub retained-found : (r : Resource) (conn : ConnId) (owners : List Held) → pairwise are_apart owners ≡ true
    → is_held_retained (find (is_interest r conn) owners)
    ≡ list_any (λ held. is_interest r conn held && held.retained) owners
retained-found r conn [] u = refl
retained-found r conn (x ∷ xs) u = sym (retained_step (is_interest r conn x)
    x.retained (list_any (λ held. is_interest r conn held && held.retained) xs) (find (is_interest r conn) xs) x
    refl (λ e. none_retained r conn xs (subst (λ (p : Part). list_any (λ held. same_part (part_of held) p) xs ≡ false)
    (same_part-eq (part_of x) (r, conn) e) (none_later part_of same_part same_part-eq same_part-refl x xs u)))
    (sym (retained-found r conn xs (later_apart part_of same_part same_part-eq same_part-refl x xs u))))

-- something passes where what was found of it is some
pub found_any : {X Y : Type 0} (f : X → Y) (p : Y → Bool) (o : Option X) (ys : List Y) → option_map f o ≡ find p ys
    → is_some o ≡ list_any p ys
found_any f p o ys e = sym (some_mapped f o) ∙ ap is_some e ∙ sym (any_is_found p ys)

pub record_some : {X : Type 0} (f : X → List ℕ) (o : Option X) (r : Resource) (conn : ConnId) (records : List Record)
    → option_map f o ≡ record_of r conn records → is_some o ≡ has_record r conn records
record_some f o r conn records e = grind (arith, some_mapped, any_is_found)

-- ---- record data of a part, where each is of an owner

any_of : {X : Type 0} (p q : X → Bool) (xs : List X) (y : X) → find p xs ≡ Some y → q y ≡ true → list_any q xs ≡ true
any_of p q [] y f h = absurd (let gone : None ≡ Some y = f in cc)
any_of p q (x ∷ xs) y f h = grind (arith, false≢true, any_of p q xs y)

found_one : {X : Type 0} (p : X → Bool) (xs : List X) → list_any p xs ≡ true → (y : X) × (find p xs ≡ Some y)
found_one p xs any = grind (arith, false≢true, any_is_found)

-- one of a part among the owners
recorded_both : (r : Resource) (conn : ConnId) (owners : List Held) (records : List Record)
    → list_any (λ held. is_interest r conn held && is_some (record_of held.r held.conn records)) owners
    ≡ has_interest r conn owners && has_record r conn records
recorded_both r conn [] records = refl
recorded_both r conn (x ∷ xs) records = step (is_interest r conn x) refl (recorded_both r conn xs records)
  where
    grouped : (a b : Bool) → a || (b && a) ≡ a
    grouped true b = refl
    grouped false true = refl
    grouped false false = refl

    step : (a : Bool) → is_interest r conn x ≡ a
        → list_any (λ held. is_interest r conn held && is_some (record_of held.r held.conn records))
        xs ≡ has_interest r conn xs && has_record r conn records → (a && is_some (record_of x.r x.conn records))
        || list_any (λ held. is_interest r conn held && is_some (record_of held.r held.conn records)) xs
        ≡ (a || has_interest r conn xs) && has_record r conn records
    step false e ih = ih
    step true e ih =
        let mine : is_some (record_of x.r x.conn records) ≡ has_record r conn records =
        has_is_some records x ∙ ap (λ (p : Part). has_record p.0 p.1 records) (same_part-eq (part_of x) (r, conn) e) in
        rw (mine, ih) (grouped (has_record r conn records) (has_interest r conn xs))

owned_part : (r : Resource) (conn : ConnId) (owners : List Held) (records : List Record) → AreOwned owners records
    → has_record r conn records ≡ true → has_interest r conn owners ≡ true
owned_part r conn owners records owned has =
    let found = found_one (is_record r conn) records has in
    subst (λ (p : Part). has_interest p.0 p.1 owners ≡ true)
    (same_part-eq (datum_part found.0) (r, conn) (found_passes (is_record r conn) records found.0 found.1))
    (all_found (is_record r conn) (λ (x : Record). has_interest x.r x.conn owners) records found.0 owned found.1)

pub record-found : (r : Resource) (conn : ConnId) (owners : List Held) (records : List Record) → AreOwned owners records
    → has_record r conn records ≡ list_any (rt_delete.is_recorded r conn) (interests_of owners records)
record-found r conn owners records owned = sym (sym (recorded-joined r conn owners records)
    ∙ recorded_both r conn owners records ∙ go (has_record r conn records) refl)
  where
    go : (b : Bool) → has_record r conn records ≡ b → has_interest r conn owners && b ≡ b
    go true e = rw (owned_part r conn owners records owned e) refl
    go false e = none (has_interest r conn owners)
      where
        none : (a : Bool) → a && false ≡ false
        none true = refl
        none false = refl

same_conn : (a c : ConnId) → a.0 ≡ c.0 → a ≡ c
same_conn a c e = let of : ℕ → ConnId = λ n. record { 0 = n } in ap of e

pub any_record-found : (conn : ConnId) (owners : List Held) (records : List Record) → AreOwned owners records
    → list_any (is_of conn) records ≡ list_any (rt_read.is_recorded conn) (interests_of owners records)
any_record-found conn owners records owned = grind (arith, both_implied, there, back, any_recorded-joined)
  where
    there : list_any (is_of conn) records ≡ true
        → list_any (λ held. (held.conn.0 == conn.0) && is_some (record_of held.r held.conn records)) owners ≡ true
    there any =
        let datum = found_one (is_of conn) records any in
        let mine = found_passes (is_of conn) records datum.0 datum.1 in
        let owner = found_one (is_interest datum.0.r datum.0.conn) owners
        (all_found (is_of conn) (λ (x : Record). has_interest x.r x.conn owners) records datum.0 owned datum.1) in
        let same = same_part-eq (part_of owner.0) (datum_part datum.0)
        (found_passes (is_interest datum.0.r datum.0.conn) owners owner.0 owner.1) in
        let has : has_record owner.0.r owner.0.conn records ≡ true =
        subst (λ (p : Part). has_record p.0 p.1 records ≡ true) (sym same) (any_of (is_of conn)
        (is_record datum.0.r datum.0.conn) records datum.0 datum.1 (same_part-refl (datum_part datum.0))) in
        any_of (is_interest datum.0.r datum.0.conn)
        (λ held. (held.conn.0 == conn.0) && is_some (record_of held.r held.conn records)) owners owner.0 owner.1
        (and_from (owner.0.conn.0 == conn.0) (is_some (record_of owner.0.r owner.0.conn records))
        (subst (λ (p : Part). (p.1.0 == conn.0) ≡ true) (sym same) mine) (has_is_some records owner.0 ∙ has))

    back : list_any (λ held. (held.conn.0 == conn.0) && is_some (record_of held.r held.conn records)) owners ≡ true
        → list_any (is_of conn) records ≡ true
    back any = grind (arith, found_one, and_parts, found_passes, has_is_some, same_part-eq, any_of)

-- ---- the owners of a resource are told

told_on : (r : Resource) (conn : ConnId) (x : Held)
    → (is_on r x && not x.retained) && not (x.conn.0 == conn.0) ≡ true → is_on r x ≡ true
told_on r conn x e = grind (arith, and_parts)

pub told_of : (r : Resource) (conn : ConnId) (owners : List Held)
    → letters_told r conn (owners_of r owners) ≡ letters_told r conn owners
told_of r conn owners = grind (arith, filter_swap, filter_absorbed, told_on)

pub told_left : (r : Resource) (conn : ConnId) (owners : List Held) (records : List Record) (xs : List Held)
    → xs ≡ owners_of r owners → letters_told r conn xs ≡ decide.notify_letters r conn (interests_of owners records)
told_left r conn owners records xs e = grind (arith, told_of, told-joined)

-- ---- the resources of a connector's interests

pub keys-joined : (owners : List Held) (records : List Record)
    → map resource_of owners ≡ map (λ (i : Interest). i.held.r) (interests_of owners records)
keys-joined [] records = refl
keys-joined (x ∷ xs) records = ap (λ l. x.r ∷ l) (keys-joined xs records)

pub keys_by-joined : (conn : ConnId) (owners : List Held) (records : List Record)
    → map resource_of (filter (is_by conn) owners)
    ≡ map (λ (i : Interest). i.held.r) (filter (interests.is_by conn) (interests_of owners records))
keys_by-joined conn [] records = refl
keys_by-joined conn (x ∷ xs) records = grind (arith, keys_by-joined conn xs records)

read_own : (conn : ConnId) (records : List Record) (owners vs : List Held) → list_all (is_by conn) vs ≡ true
    → AllFound part_of same_part same_part-eq same_part-refl vs owners → filter_map (read_in conn records owners)
    (map resource_of vs) ≡ filter_map (λ held. record_read held (record_of held.r held.conn records)) vs
read_own conn records owners [] by h = refl
read_own conn records owners (v ∷ vs) by h =
    let parts = and_parts (is_by conn v) (list_all (is_by conn) vs) by in
    let same : v.conn ≡ conn = same_conn v.conn conn (eqb-true v.conn.0 conn.0 parts.0) in
    let found : find (λ held. held.conn.0 == conn.0) (filter (is_on v.r) owners) ≡ Some v =
    find_both v.r conn owners ∙ subst (λ (c : ConnId). find (is_interest v.r c) owners ≡ Some v) same h.0 in
    ap (λ o. cons_option (held_read records o) (filter_map (read_in conn records owners) (map resource_of vs))) found
    ∙ ap (λ l. cons_option (record_read v (record_of v.r v.conn records)) l)
    (read_own conn records owners vs parts.1 h.1)

all_by : (conn : ConnId) (owners : List Held) → list_all (is_by conn) (filter (is_by conn) owners) ≡ true
all_by conn [] = refl
all_by conn (x ∷ xs) = grind (arith, and_from, all_by conn xs)

pub read_each : (conn : ConnId) (records : List Record) (owners : List Held) → pairwise are_apart owners ≡ true
    → filter_map (read_in conn records owners) (map resource_of (filter (is_by conn) owners))
    ≡ records_read conn records owners
read_each conn records owners u = read_own conn records owners (filter (is_by conn) owners)
    (all_by conn owners) (found_filter part_of same_part same_part-eq same_part-refl (is_by conn) owners u)

-- ---- a departure: what has record data is retained, and what isn't retained goes

abbrev marked : ConnId → (Held → Bool) → Held → Held
marked conn s held = record held { retained = if is_by conn held then s held else held.retained }

left_step : (conn : ConnId) (s : Held → Bool) (b t : Bool) (x : Held) (xs ys : List Held) → is_by conn x ≡ b → s x ≡ t
    → filter (λ held. not (is_by conn held && not held.retained)) xs ≡ map (in_retention_of conn true) ys
    → filter (λ held. not (is_by conn held && not held.retained)) (marked conn s x ∷ xs)
    ≡ map (in_retention_of conn true) (cond (not b || t) (x ∷ ys) ys)
left_step conn s true true x xs ys e f ih = grind arith
left_step conn s true false x xs ys e f ih = rw (e, f) ih
left_step conn s false t x xs ys e f ih = rw e (ap (λ l. x ∷ l) ih)

left_marked : (conn : ConnId) (s : Held → Bool) (owners : List Held) → owners_without_active conn (map (marked conn s)
    owners) ≡ map (in_retention_of conn true) (filter (λ held. not (is_by conn held) || s held) owners)
left_marked conn s [] = refl
left_marked conn s (x ∷ xs) = grind (arith, left_step, left_marked conn s xs)

pub left_all : (conn : ConnId) (owners : List Held) (records : List Record)
    → owners_without_active conn (map (in_retention_of conn false) owners)
    ≡ map (in_retention_of conn true) (filter (λ held. stays conn false (with_record records held)) owners)
left_all conn owners records = left_marked conn (λ held. false) owners

-- whether one of these is of the interest
abbrev is_listed : List Record → Held → Bool
is_listed records held = list_any (is_record held.r held.conn) records

mark_bits : (b c s l m : Bool) → (if b then (if s && c then true else (if c then l else m))
    else (if c then l else m)) ≡ (if c then (s && b) || l else m)
mark_bits true true true l m = refl
mark_bits true true false l m = refl
mark_bits true false true l m = refl
mark_bits true false false l m = refl
mark_bits false true true l m = refl
mark_bits false true false l m = refl
mark_bits false false true l m = refl
mark_bits false false false l m = refl

own_part : (conn : ConnId) (x : Record) (held : Held) → is_by conn held ≡ true
    → same_resource held.r x.r && is_of conn x ≡ is_record held.r held.conn x
own_part conn x held e = grind (arith, eqb-true, same_resource_comm)

mark_retained : (conn : ConnId) (x : Record) (p : Held → Bool) (held : Held) (c : Bool) → is_by conn held ≡ c
    → (if c then (same_resource held.r x.r && is_of conn x) || p held else held.retained)
    ≡ (if c then is_record held.r held.conn x || p held else held.retained)
mark_retained conn x p held true e = ap (λ t. t || p held) (own_part conn x held e)
mark_retained conn x p held false e = refl

mark_one : (conn : ConnId) (x : Record) (p : Held → Bool) (held : Held) (b : Bool) → is_of conn x ≡ b
    → (if b then in_retention x.r conn true (marked conn p held) else marked conn p held)
    ≡ marked conn (λ h. is_record h.r h.conn x || p h) held
mark_one conn x p held b e = grind (arith, split, mark_bits, mark_retained)
  where
    split : (b : Bool) → (if b then in_retention x.r conn true (marked conn p held) else marked conn p held)
        ≡ record held {
          retained = if b then (if same_resource held.r x.r && is_by conn held then true else (if is_by
              conn held then p held else held.retained)) else (if is_by conn held then p held else held.retained);
        }
    split true = refl
    split false = refl

one_marked : (conn : ConnId) (x : Record) (p : Held → Bool) (owners : List Held) (b : Bool) → is_of conn x ≡ b
    → (if b then owners_retained x.r conn true (map (marked conn p) owners) else map (marked conn p) owners)
    ≡ map (marked conn (λ h. is_record h.r h.conn x || p h)) owners
one_marked conn x p [] true e = refl
one_marked conn x p [] false e = refl
one_marked conn x p (y ∷ ys) true e = ap (λ l. in_retention x.r conn true (marked conn p y) ∷ l) (one_marked conn x p
    ys true e) ∙ ap (λ h. h ∷ map (marked conn (λ h. is_record h.r h.conn x || p h)) ys) (mark_one conn x p y true e)
one_marked conn x p (y ∷ ys) false e = grind (arith, mark_one, one_marked conn x p ys false e)

marked_same : (conn : ConnId) (p q : Held → Bool) → ((h : Held) → p h ≡ q h) → (owners : List Held)
    → map (marked conn p) owners ≡ map (marked conn q) owners
marked_same conn p q same [] = refl
marked_same conn p q same (y ∷ ys) = grind (arith, marked_same conn p q same ys)

moved : (a b c : Bool) → a || (b || c) ≡ (b || a) || c
moved true true c = refl
moved true false c = refl
moved false true c = refl
moved false false c = refl

all_marked : (conn : ConnId) (records : List Record) (p : Held → Bool) (owners : List Held) → retained_all
    conn records (map (marked conn p) owners) ≡ map (marked conn (λ h. is_listed records h || p h)) owners
all_marked conn [] p owners = refl
all_marked conn (x ∷ xs) p owners = ap (retained_all conn xs) (one_marked conn x p owners (is_of conn x) refl)
    ∙ all_marked conn xs (λ h. is_record h.r h.conn x || p h) owners
    ∙ marked_same conn (λ h. is_listed xs h || (is_record h.r h.conn x || p h))
    (λ h. is_listed (x ∷ xs) h || p h) (λ h. moved (is_listed xs h) (is_record h.r h.conn x) (p h)) owners

or_false : (a : Bool) → a || false ≡ a
or_false true = refl
or_false false = refl

-- the entries of a map are those that are seen, in whatever order
pub left_recorded : (conn : ConnId) (owners : List Held) (records entries : List Record)
    → ((p : Record → Bool) → list_any p entries ≡ list_any p records)
    → owners_without_active conn (retained_all conn entries (map (in_retention_of conn false) owners))
    ≡ map (in_retention_of conn true) (filter (λ held. stays conn true (with_record records held)) owners)
left_recorded conn owners records entries alike = ap (owners_without_active conn)
    (all_marked conn entries (λ h. false) owners) ∙ left_marked conn (λ h. is_listed entries h || false) owners
    ∙ ap (map (in_retention_of conn true)) (filter_agree (λ h. not (is_by conn h) || (is_listed entries h || false))
    (λ h. stays conn true (with_record records h)) (λ h. ap (λ t. not (is_by conn h) || t)
    (or_false (is_listed entries h) ∙ alike (is_record h.r h.conn) ∙ sym (has_is_some records h))) owners)

-- one entry after another
pub retained_next : (conn : ConnId) (entries : List Record) (k : ℕ) (owners : List Held) → k < length entries
    → retained_all conn (drop (k + 1) entries) (retained_at conn (option_map datum_part (slice_get entries k)) owners)
    ≡ retained_all conn (drop k entries) owners
retained_next conn [] k owners less = absurd (omega (arith, less))
retained_next conn (x ∷ xs) zero owners less = refl
retained_next conn (x ∷ xs) (suc k) owners less = grind (arith, retained_next conn xs k owners (omega (arith, less)))

-- ---- a resource after another is read

next_read : (f : Resource → Option (Resource × Bool × List ℕ)) (rs : List Resource) (i : ℕ) (d : Resource)
    → i < length rs → filter_map f (drop i rs) ≡ option_to_list (f (get_or rs i d)) ++ filter_map f (drop (i + 1) rs)
next_read f [] i d h = absurd (omega (arith, h))
next_read f (r ∷ rs) zero d h = grind arith
next_read f (r ∷ rs) (suc i) d h = grind (arith, next_read f rs i d (omega (arith, h)))

pub read_more : (f : Resource → Option (Resource × Bool × List ℕ)) (rs : List Resource) (i : ℕ)
    (d : Resource) (list new all : List (Resource × Bool × List ℕ)) → i < length rs → new ≡ list ++ option_to_list
    (f (get_or rs i d)) → list ++ filter_map f (drop i rs) ≡ all → new ++ filter_map f (drop (i + 1) rs) ≡ all
read_more f rs i d list new all within put h = ap (λ l. l ++ filter_map f (drop (i + 1) rs)) put
    ∙ append_assoc list (option_to_list (f (get_or rs i d))) (filter_map f (drop (i + 1) rs))
    ∙ ap (λ l. list ++ l) (sym (next_read f rs i d within)) ∙ h

-- what is read of owners and record data is read of interests
pub ruleset reads_told = (keys-joined, keys_by-joined, manager-joined, part-joined, read-joined, has-joined)

pub ruleset records_told = (record-found, any_record-found)

pub ruleset letters_fewer = (told_left, length-filter-le)
