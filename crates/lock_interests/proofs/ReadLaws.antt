-- What is read of interests is read of their owners and their record data.
use Rattle.lock_interests.proofs.Imports.{◌≡◌, ℕ, ◌+◌, ◌≤◌, ◌<◌, ◌-◌, get_or, Bool, true, false, not, ◌&&◌, ◌||◌, ◌==◌, cond, List, [], ◌∷◌, Option, Some, None, is_some, option_map, length, filter, find, map, refl, sym, ap, ◌∙◌, arith, list_any, list_all, filter_map, cons_option, slice_get, false≢true, sum_by-cons, length-map, slice_get-map, slice_get-get_or, ConnId, Resource, same_resource_comm, list_any-map, Held, is_interest, owners_of, Record, record_of, Interest, are_compatible, may_own, manager_of, interest_of, records_of, records_owned, Letter, Inside, InterestsView, interests_view, with_record, interests_of, letters_told, record_read, records_read, Event}
use Rattle.lock_model.specs.Interests.{is_by}
use Rattle.lock_model.specs.Commands.RtRead as rt_read
use Rattle.lock_model.specs.Commands.RtDelete as rt_delete
use Rattle.lock_model.specs.Commands.Decide as decide

all_step : (p : Held → Bool) (b : Bool) (x : Held) (xs : List Held) (c : Bool) → list_all p xs ≡ c
    → list_all p (cond b (x ∷ xs) xs) ≡ (not b || p x) && c
all_step p true x xs c e = ap (λ d. p x && d) e
all_step p false x xs c e = e

-- compatible with all other owners of the resource
pub may_own-joined : (held : Held) (owners : List Held) (records : List Record)
    → list_all (are_compatible held) (owners_of held.r owners) ≡ may_own held (interests_of owners records)
may_own-joined held [] records = refl
may_own-joined held (x ∷ xs) records = grind (arith, all_step, same_resource_comm, may_own-joined held xs records)

-- and with those that are left to ask of what is seen of all
pub may_own_beside : (held : Held) (i : Inside) (view : InterestsView) (left : List Held) (all : Bool)
    → interests_view i ≡ view → left ≡ owners_of held.r i.owners.owners
    → all ≡ list_all (are_compatible held) left → all ≡ may_own held view.interests
may_own_beside held i view left all seen is each = grind (arith, may_own-joined)

manager_step : (a b : Bool) (x : Held) (xs : List Held) (o : Option ConnId) (i : Interest) (is : Option Interest) →
    x.retained ≡ b → i.held.conn ≡ x.conn → option_map (λ (h : Held). h.conn) (find (λ (h : Held). not h.retained) xs)
    ≡ option_map (λ (j : Interest). j.held.conn) is → option_map (λ (h : Held). h.conn) (find (λ (h : Held). not
    h.retained) (cond a (x ∷ xs) xs)) ≡ option_map (λ (j : Interest). j.held.conn) (cond (a && not b) (Some i) is)
manager_step true true x xs o i is h c e = rw h e
manager_step true false x xs o i is h c e = rw h (ap (λ (k : ConnId). Some k) (sym c))
manager_step false b x xs o i is h c e = e

-- the first owner that isn't retained
pub manager-joined : (r : Resource) (owners : List Held) (records : List Record)
    → option_map (λ (held : Held). held.conn) (find (λ (held : Held). not held.retained) (owners_of r owners)) ≡
    manager_of r (interests_of owners records)
manager-joined r [] records = refl
manager-joined r (x ∷ xs) records = grind (arith, manager_step, manager-joined r xs records)

found_step : (b : Bool) (x : Held) (rec : Option (List ℕ)) (o : Option Held) (i : Option Interest)
    → o ≡ option_map (λ (j : Interest). j.held) i
    → cond b (Some x) o ≡ option_map (λ (j : Interest). j.held) (cond b (Some (record { held = x; rec = rec })) i)
found_step true x rec o i e = refl
found_step false x rec o i e = e

pub part-joined : (r : Resource) (conn : ConnId) (owners : List Held) (records : List Record)
    → find (is_interest r conn) owners ≡ option_map (λ (i : Interest). i.held)
    (interest_of r conn (interests_of owners records))
part-joined r conn [] records = refl
part-joined r conn (x ∷ xs) records = grind (arith, found_step, part-joined r conn xs records)

pub any_recorded-joined : (conn : ConnId) (owners : List Held) (records : List Record)
    → list_any (λ held. (held.conn.0 == conn.0) && is_some (record_of held.r held.conn records)) owners
    ≡ list_any (rt_read.is_recorded conn) (interests_of owners records)
any_recorded-joined conn owners records = sym (list_any-map (rt_read.is_recorded conn) (with_record records) owners)

pub recorded-joined : (r : Resource) (conn : ConnId) (owners : List Held) (records : List Record)
    → list_any (λ held. is_interest r conn held && is_some (record_of held.r held.conn records)) owners
    ≡ list_any (rt_delete.is_recorded r conn) (interests_of owners records)
recorded-joined r conn owners records = sym (list_any-map (rt_delete.is_recorded r conn) (with_record records) owners)

pub retained-joined : (r : Resource) (conn : ConnId) (owners : List Held) (records : List Record)
    → list_any (λ held. is_interest r conn held && held.retained) owners ≡ rt_delete.is_retained r conn
    (interests_of owners records)
retained-joined r conn owners records = grind (arith, list_any-map)

-- ---- how many have record data

pub one_step : {X : Type 0} (b : Bool) (o : Option (List ℕ)) (x : X) (xs : List X) (n : ℕ)
    → b ≡ is_some o → length xs ≡ n → length (cond b (x ∷ xs) xs) ≡ records_of o + n
one_step true None x xs n h e = absurd (false≢true (sym h))
one_step true (Some rec) x xs n h e = omega (arith, e)
one_step false None x xs n h e = omega (arith, e)
one_step false (Some rec) x xs n h e = absurd (false≢true h)

-- as many as interests of which this is the record data
counted : (f : Held → Option (List ℕ)) (g : Held → Interest) → ((x : Held) → (g x).rec ≡ f x) → (owners : List Held)
    → length (filter (λ x. is_some (f x)) owners) ≡ records_owned (map g owners)
counted f g h [] = refl
counted f g h (x ∷ xs) =
    let same = ap records_of (h x) in
    omega (
      arith,
      one_step _ (f x) x _ _ refl (counted f g h xs),
      sum_by-cons (λ i. records_of i.rec) (g x) (map g xs),
      same,
    )

pub records-joined : (owners : List Held) (records : List Record) → length (filter
    (λ held. is_some (record_of held.r held.conn records)) owners) ≡ records_owned (interests_of owners records)
records-joined owners records = counted _ _ (λ x. refl) owners

pub records_of_within : (rec : Option (List ℕ)) → records_of rec ≤ 1
records_of_within None = omega arith
records_of_within (Some rec) = omega arith

-- ---- what owners are told, and what is read of them

abbrev told : Resource → ConnId → Held → Letter
told r conn held = record { to = held.conn; event = Event.Notify r conn }

told_step : (r : Resource) (conn : ConnId) (b : Bool) (x : Held) (rec : Option (List ℕ)) (xs : List Held)
    (is : List Interest) → map (told r conn) xs ≡ map (decide.notify_letter r conn) is → map (told r conn)
    (cond b (x ∷ xs) xs) ≡ map (decide.notify_letter r conn) (cond b (record { held = x; rec = rec } ∷ is) is)
told_step r conn true x rec xs is e = ap (λ l. told r conn x ∷ l) e
told_step r conn false x rec xs is e = e

pub told-joined : (r : Resource) (conn : ConnId) (owners : List Held) (records : List Record)
    → letters_told r conn owners ≡ decide.notify_letters r conn (interests_of owners records)
told-joined r conn [] records = refl
told-joined r conn (x ∷ xs) records = grind (arith, told_step, told-joined r conn xs records)

read_step : (records : List Record) (b : Bool) (x : Held) (xs : List Held) (is : List Interest)
    → filter_map (λ held. record_read held (record_of held.r held.conn records)) xs ≡ filter_map rt_read.record_in is
    → filter_map (λ held. record_read held (record_of held.r held.conn records)) (cond b (x ∷ xs) xs)
    ≡ filter_map rt_read.record_in (cond b (with_record records x ∷ is) is)
read_step records true x xs is e = ap (λ l. cons_option (record_read x (record_of x.r x.conn records)) l) e
read_step records false x xs is e = e

pub read-joined : (conn : ConnId) (records : List Record) (owners : List Held) → records_read
    conn records owners ≡ filter_map rt_read.record_in (filter (is_by conn) (interests_of owners records))
read-joined conn records [] = refl
read-joined conn records (x ∷ xs) = grind (arith, read_step, read-joined conn records xs)

-- the last interest is that of the last owner
pub last-joined : (owners : List Held) (records : List Record) (last : Held)
    → slice_get owners (length owners - 1) ≡ Some last → slice_get
    (interests_of owners records) (length (interests_of owners records) - 1) ≡ Some (with_record records last)
last-joined owners records last h = grind (arith, length-map, slice_get-map)

pub last_there : (owners : List Held) → 0 < length owners → slice_get owners (length owners - 1) ≡ None → ⊥
last_there [] some h = absurd (omega (arith, some))
last_there (x ∷ xs) some h =
    let there = slice_get-get_or (x ∷ xs) (length (x ∷ xs) - 1) x (omega arith) in
    let gone : None ≡ Some (get_or (x ∷ xs) (length (x ∷ xs) - 1) x) = sym h ∙ there in cc
