-- Record data are as many as the interests that have them, where each is of an owner.
use Rattle.lock_interests.proofs.Imports.{◌≡◌, ℕ, suc, ◌+◌, Bool, true, false, not, ◌&&◌, ◌||◌, cond, List, [], ◌∷◌, Option, Some, None, is_some, option_map, filter, find, map, length, refl, sym, ap, ◌∙◌, subst, arith, list_any, list_all, and_parts, and_from, false≢true, filter_agree, length-filter_both, ConnId, Resource, Part, same_part, same_part-eq, same_part-refl, same_part_comm, filter_nothing, any_is_found, find-filter, list_any-map, list_all_weaker, list_all-filter, list_all-insertion, list_any-insertion, length-insertion, none_later, length_without, Held, is_interest, has_interest, owners_with, owners_without, in_state, in_retention_of, IsOwners, owners-with, owners-in_state, Waiter, Record, is_record, record_of, has_record, records_with, records_without, records_without_conn, AreRecords, records-filter, records-with, Interest, interests_with, interests_changed, records_of, records_owned, stays, with_alteration, with_record, interests_of, records_put, records_given, AreOwned}
use Rattle.lock_model.specs.Interests as interests
use Rattle.lock_interests.proofs.{JoinLaws.joined-with, JoinLaws.joined-changed, ReadLaws.records-joined}
use Rattle.lock_interests.proofs.JoinLaws.{joined-without, joined-unrecorded}

-- whose an interest is, and whose record data are
abbrev pub part_of : Held → Part
part_of held = (held.r, held.conn)

abbrev pub datum_part : Record → Part
datum_part recorded = (recorded.r, recorded.conn)

-- ---- as many as those that have one

either_step : {X : Type 0} (a b : Bool) (x : X) (us vs ws : List X) → (a ≡ true → b ≡ false) → length us ≡ length
    vs + length ws → length (cond (a || b) (x ∷ us) us) ≡ length (cond a (x ∷ vs) vs) + length (cond b (x ∷ ws) ws)
either_step true true x us vs ws h e = absurd (false≢true (sym (h refl)))
either_step true false x us vs ws h e = omega (arith, e)
either_step false true x us vs ws h e = omega (arith, e)
either_step false false x us vs ws h e = e

count_either : {X : Type 0} (a b : X → Bool) → ((x : X) → a x ≡ true → b x ≡ false) → (xs : List X)
    → length (filter (λ x. a x || b x) xs) ≡ length (filter a xs) + length (filter b xs)
count_either a b h [] = refl
count_either a b h (x ∷ xs) = grind (arith, either_step, count_either a b h xs)

some_found : {X : Type 0} (o : Option X) → is_some o ≡ true → (x : X) × (o ≡ Some x)
some_found None e = absurd (false≢true e)
some_found (Some x) e = (x, refl)

one_owner : (p : Part) (owners : List Held) → IsOwners owners → has_interest p.0 p.1 owners ≡ true
    → length (filter (is_interest p.0 p.1) owners) ≡ 1
one_owner p owners are any =
    let found = some_found (find (is_interest p.0 p.1) owners) (sym (any_is_found (is_interest p.0 p.1) owners) ∙ any)
    in
    let fewer = length_without part_of same_part same_part-eq same_part-refl p owners found.0 are.one_each found.1 in
    let both = length-filter_both (is_interest p.0 p.1) (λ held. not (is_interest p.0 p.1 held)) (λ held. refl) owners
    in
    omega (arith, fewer, both)

pub some_mapped : {X Y : Type 0} (f : X → Y) (o : Option X) → is_some (option_map f o) ≡ is_some o
some_mapped f None = refl
some_mapped f (Some x) = refl

pub has_is_some : (records : List Record) (held : Held)
    → is_some (record_of held.r held.conn records) ≡ has_record held.r held.conn records
has_is_some records held = grind (arith, some_mapped, any_is_found)

counted_once : (owners : List Held) (records : List Record) → IsOwners owners → AreRecords records
    → AreOwned owners records → length (filter (λ held. has_record held.r held.conn records) owners) ≡ length records
counted_once owners [] are kept owned = ap length (filter_nothing owners)
counted_once owners (x ∷ xs) are kept owned =
    let here = and_parts _ _ owned in
    let split = count_either _ _ (λ held e. subst (λ (p : Part). has_record p.0 p.1 xs ≡ false) (grind
    (arith, same_part-eq)) (none_later datum_part same_part same_part-eq same_part-refl x xs kept.one_each)) owners in
    let mine =
    ap length (filter_agree _ _ (λ held. same_part_comm _ (part_of held)) owners) ∙ one_owner _ owners are here.0 in
    let rest = counted_once owners xs are (later kept) here.1 in
    split ∙ finish _ _ mine rest
  where
    finish : (m n : ℕ) → m ≡ 1 → n ≡ length xs → m + n ≡ suc (length xs)
    finish m n e f = omega (arith, e, f)

    later : AreRecords (x ∷ xs) → AreRecords xs
    later both = grind (arith, and_parts)

pub records_counted : (owners : List Held) (records : List Record) → IsOwners owners → AreRecords records
    → AreOwned owners records → length records ≡ records_owned (interests_of owners records)
records_counted owners records are kept owned = sym (counted_once _ _ are kept owned) ∙ ap length
    (grind (arith, filter_agree, has_is_some)) ∙ records-joined owners _

-- ---- each is of an owner, as owners and record data come, change and go

-- what holds of the elements that a filter keeps
filtered_step : {X : Type 0} (p : X → Bool) (b : Bool) (x : X) (xs : List X) → (b ≡ true → p x ≡ true)
    → list_all p xs ≡ true → list_all p (cond b (x ∷ xs) xs) ≡ true
filtered_step p true x xs h e = and_from (p x) (list_all p xs) (h refl) e
filtered_step p false x xs h e = e

all_filtered : {X : Type 0} (p r q : X → Bool) → ((x : X) → q x ≡ true → p x ≡ true → r x ≡ true) → (xs : List X)
    → list_all p xs ≡ true → list_all r (filter q xs) ≡ true
all_filtered p r q h [] e = refl
all_filtered p r q h (x ∷ xs) e =
    let parts = and_parts (p x) (list_all p xs) e in
    filtered_step r (q x) x (filter q xs) (λ keeps. h x keeps parts.0) (all_filtered p r q h xs parts.1)

-- an owner that a filter keeps is found there
found_kept : (r : Resource) (conn : ConnId) (q : Held → Bool) (owners : List Held)
    → ((held : Held) → is_interest r conn held ≡ true → q held ≡ true)
    → has_interest r conn owners ≡ true → has_interest r conn (filter q owners) ≡ true
found_kept r conn q owners keeps has = grind (arith, any_is_found, find-filter)

-- what is of another part than this one
others_part : (r : Resource) (conn : ConnId) (x : Record) → not (is_record r conn x) ≡ true → (held : Held)
    → is_interest x.r x.conn held ≡ true → not (is_interest r conn held) ≡ true
others_part r conn x other held same = subst (λ (p : Part). not (same_part p (r, conn)) ≡ true)
    (sym (same_part-eq (part_of held) (datum_part x) same)) other

-- fewer record data
pub owned-unrecorded : (r : Resource) (conn : ConnId) (owners : List Held) (records : List Record)
    → AreOwned owners records → AreOwned owners (records_without r conn records)
owned-unrecorded r conn owners records owned = grind (arith, list_all-filter)

-- a part goes, on both sides
pub owned-without : (r : Resource) (conn : ConnId) (owners : List Held) (records : List Record)
    → AreOwned owners records → AreOwned (owners_without r conn owners) (records_without r conn records)
owned-without r conn owners records owned = grind (arith, all_filtered, found_kept, others_part)

or_right : (a b : Bool) → b ≡ true → a || b ≡ true
or_right true b e = refl
or_right false b e = e

or_left : (a b : Bool) → a ≡ true → a || b ≡ true
or_left true b e = refl
or_left false b e = absurd (false≢true e)

-- an owner more
owned-added : (held : Held) (owners : List Held) (records : List Record)
    → AreOwned (owners_without held.r held.conn owners) records → AreOwned (owners_with held owners) records
owned-added held owners records owned = grind (arith, list_all_weaker, list_any-insertion, or_right)

-- record data more, of an owner
owned-recorded : (new : Record) (owners : List Held) (records : List Record) → has_interest new.r new.conn owners
    ≡ true → AreOwned owners (records_without new.r new.conn records) → AreOwned owners (records_with new records)
owned-recorded new owners records has owned = grind (arith, list_all-insertion, and_from)

owned_put : (held : Held) (rec : Option (List ℕ)) (owners : List Held) (records : List Record)
    → AreOwned (owners_with held owners) (records_without held.r held.conn records)
    → AreOwned (owners_with held owners) (records_put held.r held.conn rec records)
owned_put held None owners records owned = owned
owned_put held (Some rec) owners records owned = owned-recorded _ (owners_with held owners)
    records (list_any-insertion (is_interest held.r held.conn) _ held (owners_without held.r held.conn owners)
    ∙ or_left (is_interest held.r held.conn held) _ (same_part-refl (part_of held))) owned

pub owned-with : (held : Held) (rec : Option (List ℕ)) (owners : List Held) (records : List Record)
    → AreOwned owners records → AreOwned (owners_with held owners) (records_put held.r held.conn rec records)
owned-with held rec owners records owned = owned_put held rec owners records (owned-added
    held owners (records_without held.r held.conn records) (owned-without held.r held.conn owners records owned))

-- owners that change, and stay whose they are
owned-changed : (f : Held → Held) → ((r : Resource) (conn : ConnId) (held : Held) → is_interest r conn (f held)
    ≡ is_interest r conn held) → (owners : List Held) (records : List Record) → AreOwned owners records
    → AreOwned (map f owners) records
owned-changed f same owners records owned = grind (arith, list_all_weaker, list_any-map)

pub owned-retained : (conn : ConnId) (retained : Bool) (owners : List Held) (records : List Record)
    → AreOwned owners records → AreOwned (map (in_retention_of conn retained) owners) records
owned-retained conn retained owners records owned = grind (arith, owned-changed)

owned_given : (r : Resource) (conn : ConnId) (rec : Option (List ℕ)) (owners : List Held) (records : List Record)
    → has_interest r conn owners ≡ true → AreOwned owners records → AreOwned owners (records_given r conn rec records)
owned_given r conn None owners records has owned = owned
owned_given r conn (Some rec) owners records has owned = owned-recorded
    (record { r = r; conn = conn; rec = rec }) owners records has (owned-unrecorded r conn owners records owned)

-- an interest takes a state, and record data where they are given
pub owned-altered : (r : Resource) (conn : ConnId) (excl : Bool) (rec : Option (List ℕ)) (owners : List Held)
    (records : List Record) → has_interest r conn owners ≡ true → AreOwned owners records
    → AreOwned (map (in_state r conn excl) owners) (records_given r conn rec records)
owned-altered r conn excl rec owners records has owned = grind (arith, owned-changed, owned_given)

-- ---- a connector departs

-- record data are there for whom they are
all_have : (records : List Record) → list_all (λ (x : Record). has_record x.r x.conn records) records ≡ true
all_have [] = refl
all_have (x ∷ xs) = and_from _ _ (or_left _ _ (same_part-refl (datum_part x)))
    (list_all_weaker (λ (y : Record). has_record y.r y.conn xs) (λ (y : Record). has_record y.r y.conn (x ∷ xs))
    (λ y has. or_right (is_record y.r y.conn x) (list_any (is_record y.r y.conn) xs) has) xs (all_have xs))

and_both : {X : Type 0} (p q r : X → Bool) → ((x : X) → p x ≡ true → q x ≡ true → r x ≡ true) → (xs : List X)
    → list_all p xs ≡ true → list_all q xs ≡ true → list_all r xs ≡ true
and_both p q r h [] e f = refl
and_both p q r h (x ∷ xs) e f =
    let left = and_parts _ _ e in
    let right = and_parts _ _ f in
    and_from _ _ (h x left.0 right.0) (and_both p q r h xs left.1 right.1)

pub owned-kept : (conn : ConnId) (owners : List Held) (records : List Record) → AreOwned owners records → AreOwned
    (map (in_retention_of conn true) (filter (λ held. stays conn true (with_record records held)) owners)) records
owned-kept conn owners records owned =
    let left = filter (λ held. stays conn true (with_record records held)) owners in
    owned-retained conn true left _ (and_both _ _ _ (λ x has owns. found_kept x.r x.conn _
    owners (λ held same. or_right _ _ (has_is_some _ held ∙ subst (λ p. has_record p.0 p.1 records ≡ true)
    (sym (same_part-eq _ _ same)) has)) owns) records (all_have records) owned)

pub owned-gone : (conn : ConnId) (owners : List Held) (records : List Record) → AreOwned owners records
    → AreOwned (map (in_retention_of conn true)
    (filter (λ held. stays conn false (with_record records held)) owners)) (records_without_conn conn records)
owned-gone conn owners records owned =
    let left = filter (λ held. stays conn false (with_record records held)) owners in
    owned-retained _ _ _ (records_without_conn conn records) (
    grind (arith, all_filtered, found_kept, or_left, same_part-eq))

-- ---- how many there are after a grant

length_put : (r : Resource) (conn : ConnId) (rec : Option (List ℕ)) (records : List Record)
    → length (records_put r conn rec records) ≡ length (records_without r conn records) + records_of rec
length_put r conn None records = omega arith
length_put r conn (Some rec) records = grind (arith, length-insertion)

records_put-kept : (r : Resource) (conn : ConnId) (rec : Option (List ℕ)) (records : List Record)
    → AreRecords records → AreRecords (records_put r conn rec records)
records_put-kept r conn None records kept = records-filter (λ x. not (is_record r conn x)) records kept
records_put-kept r conn (Some rec) records kept = records-with (record { r = r; conn = conn; rec = rec }) records kept

pub counted-with : (held : Held) (rec : Option (List ℕ)) (owners : List Held) (records : List Record) → IsOwners
    owners → AreRecords records → AreOwned owners records → length (records_without held.r held.conn records) +
    records_of rec ≡ records_owned (interests_with (record { held = held; rec = rec }) (interests_of owners records))
counted-with held rec owners records are kept owned = sym (length_put _ _ rec _)
    ∙ records_counted _ _ (owners-with _ _ are) (records_put-kept _ _ rec _ kept) (owned-with _ rec _ _ owned)
    ∙ ap records_owned (joined-with held rec _ _)

given_kept : (r : Resource) (conn : ConnId) (rec : Option (List ℕ)) (records : List Record)
    → AreRecords records → AreRecords (records_given r conn rec records)
given_kept r conn None records kept = kept
given_kept r conn (Some rec) records kept = records-with (record { r = r; conn = conn; rec = rec }) records kept

-- where there is the interest
pub counted-altered : (w : Waiter) (owners : List Held) (records : List Record) → IsOwners owners → AreRecords records
    → AreOwned owners records → has_interest w.r w.conn owners ≡ true → length (records_given w.r w.conn
    w.rec records) ≡ records_owned (interests_changed w.r w.conn (with_alteration w) (interests_of owners records))
counted-altered w owners records are kept owned has = records_counted _ _ (owners-in_state w.r _ _ _ are)
    (given_kept w.r _ _ _ kept) (owned-altered w.r _ _ _ _ _ has owned) ∙ ap records_owned (joined-changed w owners _)

-- and where there is none
none_step : (b : Bool) (f : Interest → Interest) (x : Interest) (xs ys : List Interest) (c : Bool) → b || c ≡ false
    → (c ≡ false → ys ≡ xs) → cond b (f x) x ∷ ys ≡ x ∷ xs
none_step true f x xs ys c none rest = absurd (false≢true (sym none))
none_step false f x xs ys c none rest = ap (λ (l : List Interest). x ∷ l) (rest none)

pub changed_none : (r : Resource) (conn : ConnId) (f : Interest → Interest) (is : List Interest)
    → interests.has_interest r conn is ≡ false → interests_changed r conn f is ≡ is
changed_none r conn f [] none = refl
changed_none r conn f (x ∷ xs) none = grind (arith, none_step, changed_none r conn f xs)

-- an interest is there where its owner is
pub has-joined : (r : Resource) (conn : ConnId) (owners : List Held) (records : List Record)
    → has_interest r conn owners ≡ interests.has_interest r conn (interests_of owners records)
has-joined r conn owners records = sym (list_any-map (interests.is_of r conn) (with_record records) owners)

length_given : (r : Resource) (conn : ConnId) (rec : Option (List ℕ)) (records : List Record) → is_some rec ≡ true
    → length (records_given r conn rec records) ≡ length (records_without r conn records) + 1
length_given r conn None records given = absurd (false≢true given)
length_given r conn (Some rec) records given = grind (arith, length-insertion)

none_given : (r : Resource) (conn : ConnId) (rec : Option (List ℕ)) (records : List Record) → is_some rec ≡ false
    → records_given r conn rec records ≡ records
none_given r conn None records none = refl
none_given r conn (Some rec) records none = absurd (false≢true (sym none))

without_right : (a b : Bool) → a && b ≡ false → b ≡ true → a ≡ false
without_right true b none here = absurd (false≢true (sym none ∙ here))
without_right false b none here = refl

-- where an interest is given record data, and where it isn't
pub counted-given : (w : Waiter) (owners : List Held) (records : List Record) → IsOwners owners
    → AreRecords records → AreOwned owners records → is_some w.rec && interests.has_interest
    w.r w.conn (interests_of owners records) ≡ true → length (records_without w.r w.conn records)
    + 1 ≡ records_owned (interests_changed w.r w.conn (with_alteration w) (interests_of owners records))
counted-given w owners records are kept owned given =
    grind (arith, and_parts, length_given, counted-altered, has-joined)

pub counted-ungiven : (w : Waiter) (owners : List Held) (records : List Record)
    → IsOwners owners → AreRecords records → AreOwned owners records
    → is_some w.rec && interests.has_interest w.r w.conn (interests_of owners records) ≡ false
    → length records ≡ records_owned (interests_changed w.r w.conn (with_alteration w) (interests_of owners records))
counted-ungiven w owners records are kept owned ungiven =
    grind (arith, none_given, without_right, counted-altered, has-joined, records_counted, changed_none)

-- what a command does to owners and record data it does to interests
pub ruleset changes_told = (joined-with, owned-with, joined-without, owned-without, joined-unrecorded, owned-unrecorded)

pub ruleset counts_told = (counted-given, counted-ungiven)
