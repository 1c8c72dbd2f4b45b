-- A table entry: its mask, and the place of an interest in it.
use Rattle.lock_table.proofs.Imports.{◌≡◌, ◌≢◌, ℕ, ◌==◌, Bool, true, false, not, ◌&&◌, ◌||◌, if◌then◌else◌, cond, nat_lt, List, [], ◌∷◌, ◌++◌, Some, None, map, filter, position, get_or, set, refl, sym, ap, ◌∙◌, subst, arith, list_any, list_all, remove, and_parts, not-true, eqb-true, eq-eqb, false≢true, lt-ltb, list_any-append, position-Some, SET_NUMBERS, ConnId, Resource, same_part, is_member, with_member, without_member, same_part-eq, same_part-refl, pairwise, filter_all, filter_none, all_from_none, any-filter, list_any-map, list_all_weaker, remove_placed, no_place, any_kept, set_placed, map_placed, Held, is_by, is_interest, are_apart, owners_without, owners_without_active, in_state, in_retention, in_retention_of, part_of, IsMasked}
use Rattle.lock_table.proofs.MaskLaws.{is_member-with_member_same, is_member-with_member_other, is_member-without_member_same, is_member-without_member_other}

or_false : (a : Bool) → a ≡ a || false
or_false true = refl
or_false false = refl

or_true : (a b : Bool) → b ≡ true → true ≡ a || (b || false)
or_true true b e = refl
or_true false b e = sym (rw e refl)

or_none : (a b : Bool) → b ≡ false → a ≡ a || (b || false)
or_none a b e = rw e (or_false a)

apart_from : (m n : ℕ) → (m == n) ≡ false → n ≢ m
apart_from m n e z = false≢true (sym e ∙ eq-eqb m n (sym z))

same_conn : (a c : ConnId) → a.0 ≡ c.0 → a ≡ c
same_conn a c e = let of : ℕ → ConnId = λ n. record { 0 = n } in ap of e

-- one interest more
pub masked_more : (mask : List ConnId) (owners : List Held) (held : Held) → IsMasked mask owners
    → IsMasked (if nat_lt held.conn.0 SET_NUMBERS then with_member held.conn mask else mask) (owners ++ held ∷ [])
masked_more mask owners held h c within = grind (arith, go, list_any-append)
  where
    go : (s t : Bool) → (held.conn.0 == c.0) ≡ s → nat_lt held.conn.0 SET_NUMBERS ≡ t → is_member
        c (cond t (with_member held.conn mask) mask) ≡ list_any (is_by c) owners || ((held.conn.0 == c.0) || false)
    go true true e f = subst (λ a. is_member c (with_member a mask) ≡ true)
        (sym (same_conn held.conn c (eqb-true held.conn.0 c.0 e))) (is_member-with_member_same c mask)
        ∙ or_true (list_any (is_by c) owners) (held.conn.0 == c.0) e
    go true false e f = grind (arith, eqb-true, false≢true, lt-ltb)
    go false true e f = grind (arith, is_member-with_member_other, apart_from, or_none)
    go false false e f = h c within ∙ or_none (list_any (is_by c) owners) (held.conn.0 == c.0) e

by_other : (conn c : ConnId) (x : Held) (t : Bool) → (conn.0 == c.0) ≡ false → is_by c x ≡ true → is_by conn x ≡ t
    → t ≡ false
by_other conn c x true e f g =
    absurd (false≢true (sym e ∙ eq-eqb conn.0 c.0 (sym (eqb-true x.conn.0 conn.0 g) ∙ eqb-true x.conn.0 c.0 f)))
by_other conn c x false e f g = refl

-- interests of a connector go
pub masked_left : (mask : List ConnId) (owners : List Held) (q : Held → Bool) (conn : ConnId)
    → ((x : Held) → is_by conn x ≡ false → q x ≡ true) → IsMasked mask owners → IsMasked (if nat_lt conn.0 SET_NUMBERS
    && not (list_any (is_by conn) (filter q owners)) then without_member conn mask else mask) (filter q owners)
masked_left mask owners q conn stays h c within =
    go (conn.0 == c.0) (nat_lt conn.0 SET_NUMBERS) (list_any (is_by conn) (filter q owners)) refl refl refl
  where
    others : (conn.0 == c.0) ≡ false → list_any (is_by c) owners ≡ list_any (is_by c) (filter q owners)
    others e = sym (any_kept (is_by c) q (λ x f. stays x (by_other conn c x (is_by conn x) e f refl)) owners)

    go : (s t u : Bool) → (conn.0 == c.0) ≡ s → nat_lt conn.0 SET_NUMBERS ≡ t
        → list_any (is_by conn) (filter q owners) ≡ u
        → is_member c (cond (t && not u) (without_member conn mask) mask) ≡ list_any (is_by c) (filter q owners)
    go true false u e f g = grind (arith, eqb-true, false≢true, lt-ltb)
    go true true false e f g =
        let same = same_conn conn c (eqb-true conn.0 c.0 e) in
        subst (λ a. is_member c (without_member a mask) ≡ false) (sym same) (is_member-without_member_same c mask)
        ∙ sym (subst (λ a. list_any (is_by a) (filter q owners) ≡ false) same g)
    go true true true e f g = grind (arith, same_conn, eqb-true, any-filter)
    go false true false e f g =
        is_member-without_member_other conn c mask (apart_from conn.0 c.0 e) ∙ h c within ∙ others e
    go false true true e f g = h c within ∙ others e
    go false false u e f g = h c within ∙ others e

not_part : (s t : Bool) → t ≡ false → not (s && t) ≡ true
not_part true t e = ap not e
not_part false t e = refl

not_active : (t retained : Bool) → t ≡ false → not (t && not retained) ≡ true
not_active true retained e = absurd (false≢true (sym e))
not_active false retained e = refl

pub masked_less : (mask : List ConnId) (owners : List Held) (r : Resource) (conn : ConnId) → IsMasked mask owners
    → IsMasked (if nat_lt conn.0 SET_NUMBERS && not (list_any (is_by conn) (owners_without r conn owners))
    then without_member conn mask else mask) (owners_without r conn owners)
masked_less mask owners r conn h = grind (arith, masked_left, not_part)

pub masked_active : (mask : List ConnId) (owners : List Held) (conn : ConnId) → IsMasked mask owners
    → IsMasked (if nat_lt conn.0 SET_NUMBERS && not (list_any (is_by conn) (owners_without_active conn owners))
    then without_member conn mask else mask) (owners_without_active conn owners)
masked_active mask owners conn h = grind (arith, masked_left, not_active)

-- interests change, and whose they are doesn't
pub masked_same : (mask : List ConnId) (owners : List Held) (f : Held → Held) → ((x : Held) → (f x).conn ≡ x.conn)
    → IsMasked mask owners → IsMasked mask (map f owners)
masked_same mask owners f kept h c within = grind (arith, list_any-map)

-- the mask lacks the connector
interest_none : (r : Resource) (conn : ConnId) (owners : List Held) → list_any (is_by conn) owners ≡ false
    → list_any (is_interest r conn) owners ≡ false
interest_none r conn [] h = refl
interest_none r conn (x ∷ xs) h = grind (arith, false≢true, interest_none r conn xs)

absent_parts : (s t : Bool) → s && not t ≡ true → (s ≡ true) × (t ≡ false)
absent_parts true false h = (refl, refl)
absent_parts true true h = absurd (false≢true h)
absent_parts false t h = absurd (false≢true h)

pub absent : (mask : List ConnId) (owners : List Held) (r : Resource) (conn : ConnId) → IsMasked mask owners
    → nat_lt conn.0 SET_NUMBERS && not (is_member conn mask) ≡ true → None ≡ position (is_interest r conn) owners
absent mask owners r conn h e = grind (arith, absent_parts, no_place, interest_none)

pub cut_out : (r : Resource) (conn : ConnId) (owners : List Held) (i : ℕ) → pairwise are_apart owners ≡ true
    → position (is_interest r conn) owners ≡ Some i → remove owners i ≡ owners_without r conn owners
cut_out r conn owners i u h = remove_placed part_of same_part same_part-eq same_part-refl (r, conn) owners i u h

pub none_out : (r : Resource) (conn : ConnId) (owners : List Held) → list_any (is_interest r conn) owners ≡ false
    → owners ≡ owners_without r conn owners
none_out r conn owners h =
    sym (filter_all (λ held. not (is_interest r conn held)) owners (all_from_none (is_interest r conn) owners h))

-- ---- an interest takes a state, or is retained

module _ (r : Resource) (conn : ConnId) (f : Held → Held)
    (others : (x : Held) → is_interest r conn x ≡ false → f x ≡ x) (owners : List Held) where
  pub changed_put : (g : Held → Held) (new : List Held) (i : ℕ) (d : Held)
      → ((x : Held) → is_interest r conn x ≡ true → g x ≡ f x) → pairwise are_apart owners ≡ true
      → position (is_interest r conn) owners ≡ Some i → new ≡ set owners i (g (get_or owners i d)) → new ≡ map f owners
  changed_put g new i d here u h e =
      e ∙ ap (set owners i) (here (get_or owners i d) (position-Some (is_interest r conn) owners i d h).1)
      ∙ set_placed part_of same_part same_part-eq same_part-refl (r, conn) f d owners i u others h

  pub changed_none : list_any (is_interest r conn) owners ≡ false → owners ≡ map f owners
  changed_none h = map_placed part_of same_part same_part-eq same_part-refl (r, conn) f owners others h

pub state_else : (r : Resource) (conn : ConnId) (excl : Bool) (x : Held) → is_interest r conn x ≡ false
    → in_state r conn excl x ≡ x
state_else r conn excl x e = rw e refl

pub retention_else : (r : Resource) (conn : ConnId) (retained : Bool) (x : Held) → is_interest r conn x ≡ false
    → in_retention r conn retained x ≡ x
retention_else r conn retained x e = rw e refl

pub none_by : (mask : List ConnId) (owners : List Held) (conn : ConnId) → IsMasked mask owners
    → nat_lt conn.0 SET_NUMBERS && not (is_member conn mask) ≡ true → filter (is_by conn) owners ≡ []
none_by mask owners conn h e = grind (arith, absent_parts, filter_none)

-- no interest of the connector is here

not_by : (mask : List ConnId) (owners : List Held) (conn : ConnId) → IsMasked mask owners
    → nat_lt conn.0 SET_NUMBERS && not (is_member conn mask) ≡ true → list_any (is_by conn) owners ≡ false
not_by mask owners conn h e = grind (arith, absent_parts)

pub none_retained : (mask : List ConnId) (owners : List Held) (conn : ConnId) (retained : Bool) → IsMasked mask owners
    → nat_lt conn.0 SET_NUMBERS && not (is_member conn mask) ≡ true
    → owners ≡ map (in_retention_of conn retained) owners
none_retained mask owners conn retained h e =
    unchanged owners (all_from_none (is_by conn) owners (not_by mask owners conn h e))
  where
    unchanged : (xs : List Held) → list_all (λ x. not (is_by conn x)) xs ≡ true
        → xs ≡ map (in_retention_of conn retained) xs
    unchanged [] g = refl
    unchanged (x ∷ xs) g = grind (arith, and_parts, not-true, unchanged xs)

pub none_active : (mask : List ConnId) (owners : List Held) (conn : ConnId) → IsMasked mask owners
    → nat_lt conn.0 SET_NUMBERS && not (is_member conn mask) ≡ true → owners ≡ owners_without_active conn owners
none_active mask owners conn h e =
    sym (filter_all (λ held. not (is_by conn held && not held.retained)) owners (list_all_weaker
    (λ x. not (is_by conn x)) (λ x. not (is_by conn x && not x.retained)) (λ x f. not_active (is_by conn x)
    x.retained (not-true (is_by conn x) f)) owners (all_from_none (is_by conn) owners (not_by mask owners conn h e))))
