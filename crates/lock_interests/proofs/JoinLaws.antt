-- Interests with their record data, as owners and record data come, change and go.
use Rattle.lock_interests.proofs.Imports.{arith, ◌≡◌, ℕ, Bool, true, false, not, ◌&&◌, ◌||◌, cond, List, Option, Some, None, option_map, filter, map, refl, sym, ap, subst, ◌∙◌, option_or, false≢true, ConnId, Resource, Part, same_part, resource_up_to, same_part-eq, same_part-refl, same_part_comm, insertion, find-filter, find_none, none_filtered, find-insertion_past, find-insertion_here, Held, is_interest, owners_with, owners_without, in_state, in_retention_of, Waiter, Record, is_record, record_of, records_with, records_without, records_without_conn, Interest, interests_with, interests_without, interests_changed, with_alteration, stays, with_retained, interests_left, without_record, with_record, interests_of, records_put, records_given, map-filtered, map-insertion, map-either, map-both}

-- ---- record data of one part, and of others

abbrev data_of : Option Record → Option (List ℕ)
data_of found = option_map (λ (recorded : Record). recorded.rec) found

-- what is of one part isn't of another
keys_apart : (r : Resource) (conn : ConnId) (held : Held) → is_interest r conn held ≡ false → (x : Record)
    → is_record held.r held.conn x ≡ true → not (is_record r conn x) ≡ true
keys_apart r conn held h x e = ap not
    (subst (λ (p : Part). same_part p (r, conn) ≡ false) (sym (same_part-eq (x.r, x.conn) (held.r, held.conn) e)) h)

other_without : (r : Resource) (conn : ConnId) (held : Held) (records : List Record) → is_interest r conn held ≡ false
    → record_of held.r held.conn (records_without r conn records) ≡ record_of held.r held.conn records
other_without r conn held records h = grind (arith, find-filter, keys_apart)

own_without : (r : Resource) (conn : ConnId) (records : List Record)
    → record_of r conn (records_without r conn records) ≡ None
own_without r conn records = ap data_of
    (find_none (is_record r conn) (records_without r conn records) (none_filtered (is_record r conn) records))

other_with : (new : Record) (held : Held) (records : List Record) → is_interest new.r new.conn held ≡ false
    → record_of held.r held.conn (records_with new records) ≡ record_of held.r held.conn records
other_with new held records h = ap data_of (find-insertion_past (is_record held.r held.conn)
    _ new _ (same_part_comm (new.r, new.conn) (held.r, held.conn) ∙ h)) ∙ other_without new.r new.conn held records h

own_with : (new : Record) (records : List Record) → record_of new.r new.conn (records_with new records) ≡ Some new.rec
own_with new records = ap data_of (find-insertion_here (is_record new.r new.conn) _ new _
    (same_part-refl (new.r, new.conn)) (none_filtered _ records))

other_put : (r : Resource) (conn : ConnId) (rec : Option (List ℕ)) (held : Held) (records : List Record)
    → is_interest r conn held ≡ false
    → record_of held.r held.conn (records_put r conn rec records) ≡ record_of held.r held.conn records
other_put r conn None held records h = other_without r conn held records h
other_put r conn (Some rec) held records h = other_with (record { r = r; conn = conn; rec = rec }) held records h

own_put : (r : Resource) (conn : ConnId) (rec : Option (List ℕ)) (records : List Record)
    → record_of r conn (records_put r conn rec records) ≡ rec
own_put r conn None records = own_without r conn records
own_put r conn (Some rec) records = own_with (record { r = r; conn = conn; rec = rec }) records

other_given : (r : Resource) (conn : ConnId) (rec : Option (List ℕ)) (held : Held) (records : List Record)
    → is_interest r conn held ≡ false
    → record_of held.r held.conn (records_given r conn rec records) ≡ record_of held.r held.conn records
other_given r conn None held records h = refl
other_given r conn (Some rec) held records h = other_with (record { r = r; conn = conn; rec = rec }) held records h

own_given : (r : Resource) (conn : ConnId) (rec : Option (List ℕ)) (records : List Record)
    → record_of r conn (records_given r conn rec records) ≡ option_or rec (record_of r conn records)
own_given r conn None records = refl
own_given r conn (Some rec) records = own_with (record { r = r; conn = conn; rec = rec }) records

-- ---- interests

abbrev interest : Held → Option (List ℕ) → Interest
interest held rec = record { held = held; rec = rec }

-- a connector's interest in a resource goes, and its record data, in whatever way those of others stay
without_others : (r : Resource) (conn : ConnId) (owners : List Held) (records others : List Record) → ((held : Held)
    → is_interest r conn held ≡ false → record_of held.r held.conn others ≡ record_of held.r held.conn records)
    → interests_of (owners_without r conn owners) others ≡ interests_without r conn (interests_of owners records)
without_others r conn owners records others h = grind (arith, map-filtered, false≢true)

pub joined-without : (r : Resource) (conn : ConnId) (owners : List Held) (records : List Record)
    → interests_of (owners_without r conn owners) (records_without r conn records) ≡ interests_without r conn
    (interests_of owners records)
joined-without r conn owners records = without_others r _ _ _ _ (λ held h. other_without r _ held _ h)

-- one interest more
pub joined-with : (held : Held) (rec : Option (List ℕ)) (owners : List Held) (records : List Record)
    → interests_of (owners_with held owners)
    (records_put held.r held.conn rec records) ≡ interests_with (interest held rec) (interests_of owners records)
joined-with held rec owners records =
    let others = records_put held.r held.conn rec records in
    let ahead : Interest → Bool = λ other. resource_up_to other.held.r held.r in
    map-insertion _ _ ahead held (λ y. refl) _ ∙ ap (λ i. insertion
    ahead i (interests_of (owners_without held.r held.conn owners) others)) (ap (interest held) (own_put _ _ rec _)) ∙
    ap (insertion ahead (interest held rec)) (without_others _ _ _ _ _ (λ other h. other_put held.r _ rec other _ h))

changed_step : (b : Bool) (w : Waiter) (held : Held) (records : List Record) → is_interest w.r w.conn held ≡ b
    → interest (record held { excl = cond b w.excl held.excl }) (record_of held.r held.conn (records_given
    w.r w.conn w.rec records)) ≡ cond b (with_alteration w (with_record records held)) (with_record records held)
changed_step true w held records h =
    let part = h in
    let given = subst (λ p. record_of p.0 p.1 (records_given w.r w.conn w.rec records) ≡ option_or
    w.rec (record_of p.0 p.1 records)) (sym (same_part-eq _ _ part)) (own_given w.r _ _ _) in
    ap (interest (record held { excl = w.excl })) given
changed_step false w held records h = ap (interest held) (other_given w.r w.conn w.rec held records h)

-- an interest takes a state, and record data where they are given
pub joined-changed : (w : Waiter) (owners : List Held) (records : List Record)
    → interests_of (map (in_state w.r w.conn w.excl) owners) (records_given w.r w.conn w.rec records)
    ≡ interests_changed w.r w.conn (with_alteration w) (interests_of owners records)
joined-changed w owners records = grind (arith, map-either, changed_step)

unrecorded_step : (b : Bool) (r : Resource) (conn : ConnId) (held : Held) (records : List Record)
    → is_interest r conn held ≡ b → with_record (records_without r conn records) held ≡ cond
    b (without_record (with_record records held)) (with_record records held)
unrecorded_step true r conn held records h =
    let part = h in
    ap (interest held) (subst (λ p. record_of p.0 p.1 (records_without r conn records) ≡ None)
    (sym (same_part-eq _ _ part)) (own_without r _ _))
unrecorded_step false r conn held records h = ap (interest held) (other_without r conn held records h)

-- the record data of an interest go
pub joined-unrecorded : (r : Resource) (conn : ConnId) (owners : List Held) (records : List Record) → interests_of
    owners (records_without r conn records) ≡ interests_changed r conn without_record (interests_of owners records)
joined-unrecorded r conn owners records = map-both _ _ _ (λ held. unrecorded_step _ r _ _ _ refl) _

-- a connector's interests are retained or not
pub joined-retained : (conn : ConnId) (retained : Bool) (owners : List Held) (records : List Record)
    → interests_of (map (in_retention_of conn retained) owners) records ≡ map (with_retained conn retained)
    (interests_of owners records)
joined-retained conn retained owners records = grind (arith, map-either)

-- a connector departs, and its interests with record data stay
pub joined-kept : (conn : ConnId) (keep : Bool) (owners : List Held) (records : List Record) → interests_of
    (map (in_retention_of conn true) (filter (λ held. stays conn keep (with_record records held)) owners))
    records ≡ interests_left conn keep (interests_of owners records)
joined-kept conn keep owners records = grind (arith, joined-retained, map-filtered)

not_gone : (a b : Bool) → not a || false && b ≡ true → not a ≡ true
not_gone true b h = h
not_gone false b h = refl

other_conn : (conn : ConnId) (held : Held) (records : List Record) → stays conn false (with_record records held)
    ≡ true → record_of held.r held.conn (records_without_conn conn records) ≡ record_of held.r held.conn records
other_conn conn held records h = grind (arith, not_gone, find-filter, same_part-eq)

-- a connector departs, and nothing of it stays
pub joined-gone : (conn : ConnId) (owners : List Held) (records : List Record) → interests_of
    (map (in_retention_of conn true) (filter (λ held. stays conn false (with_record records held)) owners))
    (records_without_conn conn records) ≡ interests_left conn false (interests_of owners records)
joined-gone conn owners records =
    let others = records_without_conn conn records in
    joined-retained _ _ _ _ ∙ ap (map (with_retained conn true)) (map-filtered _ _ (λ held. stays
    conn false (with_record records held)) _ (λ held e. ap (interest held) (other_conn _ held _ e)) (λ held. refl) _)

pub ruleset joined_told = (joined-retained, joined-changed)
