-- A record more or less in the slab, the orders and the map at once.
use Rattle.list_store.proofs.Imports.{◌≡◌, ◌≢◌, inl, inr, ℕ, ◌<◌, ◌≤◌, Bool, true, false, cond, ◌==◌, List, [], ◌∷◌, ◌-◌, length, map, set, take, replicate, slice_get, zero, suc, Option, Some, None, is_some, option_map, unwrap_or, refl, sym, ap, ◌∙◌, subst, arith, IsSome, IfSome, IfNone, slice_index_or, list_all, list_any, remove, false≢true, eq-eqb, eqb-true, ltb-true, eqb_tells, length-map, drop_all, append-nil, Slab, get, Updates, pairwise, find_none, all_records, records_of, record_of, lists_with, lists_without, lists_replaced, replaced_by, ids_apart, stands, any_all, list_of-get_or, IsPlaced, record_there, taken_there, without_absent, apart-with, apart-without, apart-changed, gone, placed_at, spot_there, no_spot, header_within, records_of-map, get-map, with-map, removed-map, stands_new, stands_more, stands_either, stands_at, stands_still, stands_before, place_stands, agree, any_stands, any_key, twice, Rec, rec_id, no_rec, rec_at, lists_at, spot_for, Writes, IsHeld, IsFound, IsTied, is_few}
use Rattle.cf_lists.specs.Lists.{is_id, spot_of}
use Rattle.list_store.proofs.VecLaws.{list_all-get_or, all-replicate}

-- the record under a key
pub at_is : (slab : Slab Rec) (k : ℕ) (rec : Rec) → get slab k ≡ Some rec → rec_at slab k ≡ rec
at_is slab k rec e = ap (λ (o : Option Rec). unwrap_or o no_rec) e

one_record : (o : Option Rec) (a b : Rec) → o ≡ Some a → o ≡ Some b → a ≡ b
one_record o a b e f = ap (λ (p : Option Rec). unwrap_or p no_rec) (sym e ∙ f)

no_record : (o : Option Rec) (a : Rec) → o ≡ None → o ≡ Some a → ⊥
no_record o a e f = cc

one_spot : (o : Option (ℕ × ℕ)) (a b : ℕ × ℕ) → o ≡ Some a → o ≡ Some b → a ≡ b
one_spot o a b e f = ap (λ (p : Option (ℕ × ℕ)). unwrap_or p a) (sym e ∙ f)

no_spot_left : (o : Option (ℕ × ℕ)) (a : ℕ × ℕ) → o ≡ None → o ≡ Some a → ⊥
no_spot_left o a e f = cc

module _ (slab : Slab Rec) (orders : List (List ℕ)) (spots : List (ℕ × (ℕ × ℕ))) (t : IsTied slab orders spots) where
  -- what lies under a key that stands
  pub held_at : (h k : ℕ) → stands orders h k ≡ true
      → (rec : Rec) × (get slab k ≡ Some rec) × (spot_for spots rec.id.0 ≡ Some (h, k))
  held_at h k st = let r = t.held h k st in (r.«record», r.there, r.spot)

  -- a key at a place, and its record
  pub key_there : (h p k : ℕ) (rec : Rec) → slice_get (records_of orders h) p ≡ Some k → get slab k ≡ Some rec
      → slice_get (records_of (lists_at slab orders) h) p ≡ Some rec
  key_there h p k rec at e = grind (arith, records_of-map, get-map, at_is)

  pub key_placed : (h p k : ℕ) (rec : Rec) → slice_get (records_of orders h) p ≡ Some k → get slab k ≡ Some rec
      → IsPlaced rec_id rec.id.0 (lists_at slab orders) h p
  key_placed h p k rec at e =
      placed_at rec_id rec.id.0 (lists_at slab orders) h p rec t.apart (key_there h p k rec at e) refl

  pub found_at : (h p k : ℕ) (rec : Rec) → slice_get (records_of orders h) p ≡ Some k → get slab k ≡ Some rec
      → record_of rec_id rec.id.0 (lists_at slab orders) ≡ Some rec
  found_at h p k rec at e =
      record_there rec_id rec.id.0 (lists_at slab orders) h p (key_placed h p k rec at e) ∙ key_there h p k rec at e

  -- ---- a record more
  module _ (slab' : Slab Rec) (spots' : List (ℕ × (ℕ × ℕ)))
      (h p key : ℕ) (rec : Rec) (lt : h < length orders) (within : p ≤ length (records_of orders h)) (alone : list_any
      (is_id rec_id rec.id.0) (all_records (lists_at slab orders)) ≡ false) (vacant : get slab key ≡ None)
      (u : Updates slab slab' key (Some rec)) (w : Writes spots rec.id.0 (Some (h, key)) spots') where
    another : (i k : ℕ) → stands orders i k ≡ true → k ≢ key
    another i k st e = grind (arith, no_record)

    pub put_lists : lists_at slab' (lists_with h p key orders) ≡ lists_with h p rec (lists_at slab orders)
    put_lists = with-map (rec_at slab') h p key orders ∙ ap (λ (r : Rec). lists_with h p r (lists_at slab' orders))
        (at_is slab' key rec u.changed) ∙ ap (λ (l : List (List Rec)). lists_with h p rec l) (agree (rec_at slab')
        (rec_at slab) orders (λ i k st. ap (λ (o : Option Rec). unwrap_or o no_rec) (u.others k (another i k st))))

    other_id : (i k : ℕ) (r : Rec) → stands orders i k ≡ true → get slab k ≡ Some r → rec.id.0 ≢ r.id.0
    other_id i k r st e same = false≢true (sym alone ∙ any_stands (rec_at slab) (is_id rec_id rec.id.0)
        orders i k st (eq-eqb (rec_at slab k).id.0 rec.id.0 (ap (λ (x : Rec). x.id.0) (at_is slab k r e) ∙ sym same)))

    put_held : (i k : ℕ) → stands (lists_with h p key orders) i k ≡ true → IsHeld slab' spots' i k
    put_held i k st = elim (stands_either orders h p key lt i k st) [
      | inl e ↦ subst (λ j. IsHeld slab' spots' j k) (sym e.0) (subst (λ j. IsHeld slab' spots' h j) (sym e.1) (
          grind (arith, eq-eqb)))
      | inr e ↦ grind (arith, another, eqb_tells, other_id)
    ]

    put_found : (id i k : ℕ) → spot_for spots' id ≡ Some (i, k) → IsFound slab' (lists_with h p key orders) id i k
    put_found id i k e = elim (eqb_tells rec.id.0 id) [
      | inl f ↦ grind (arith, one_spot, stands_new)
      | inr f ↦
          let r = t.found id i k (sym (w id ∙ ap (λ b. cond b (Some (h, key)) (spot_for spots id)) f.0) ∙ e) in
          record {
            «record» = r.«record»;
            there = u.others k (another i k r.stands) ∙ r.there;
            same = r.same;
            stands = stands_more orders h p key lt i k r.stands;
          }
    ]

    pub put_tied : IsTied slab' (lists_with h p key orders) spots'
    put_tied = record {
      apart = ap (λ (l : List (List Rec)). pairwise (ids_apart rec_id) (all_records l)) put_lists ∙ apart-with
          rec_id (lists_at slab orders) h p rec (omega (arith, lt, length-map orders (map (rec_at slab)))) (omega (
            arith,
            within,
            ap (λ (l : List Rec). length l) (records_of-map (rec_at slab) orders h),
            length-map (records_of orders h) (rec_at slab),
          )) t.apart alone;
      held = put_held;
      found = put_found;
    }

  -- ---- a record less
  module _ (slab' : Slab Rec) (spots' : List (ℕ × (ℕ × ℕ))) (h p key : ℕ) (rec : Rec)
      (at : slice_get (records_of orders h) p ≡ Some key) (value : get slab key ≡ Some rec)
      (u : Updates slab slab' key None) (w : Writes spots rec.id.0 None spots') where
    abbrev left : List (List ℕ)
    left = set orders h (remove (records_of orders h) p)

    pulled : lists_at slab left ≡ lists_without rec_id rec.id.0 (lists_at slab orders)
    pulled = removed-map (rec_at slab) h p orders
        ∙ taken_there rec_id rec.id.0 (lists_at slab orders) h p (key_placed h p key rec at value) t.apart

    none_left : list_any (is_id rec_id rec.id.0) (all_records (lists_at slab left)) ≡ false
    none_left = ap (λ (l : List (List Rec)). list_any (is_id rec_id rec.id.0) (all_records l)) pulled
        ∙ gone rec_id rec.id.0 (lists_at slab orders) rec (eq-eqb rec.id.0 rec.id.0 refl)

    id_gone : (i k : ℕ) (r : Rec) → stands left i k ≡ true → get slab k ≡ Some r → rec.id.0 ≢ r.id.0
    id_gone i k r st e same = false≢true (sym none_left ∙ any_stands (rec_at slab) (is_id rec_id rec.id.0)
        left i k st (eq-eqb (rec_at slab k).id.0 rec.id.0 (ap (λ (x : Rec). x.id.0) (at_is slab k r e) ∙ sym same)))

    key_gone : (i k : ℕ) → stands left i k ≡ true → k ≢ key
    key_gone i k st e = id_gone i k rec st (ap (get slab) e ∙ value) refl

    same_left : lists_at slab' left ≡ lists_at slab left
    same_left = agree (rec_at slab') (rec_at slab) left (grind (arith, key_gone))

    pub pull_lists : lists_at slab' left ≡ lists_without rec_id rec.id.0 (lists_at slab orders)
    pull_lists = same_left ∙ pulled

    pub pull_removed : lists_at slab' left
        ≡ set (lists_at slab orders) h (remove (records_of (lists_at slab orders) h) p)
    pull_removed = same_left ∙ removed-map (rec_at slab) h p orders

    pull_held : (i k : ℕ) → stands left i k ≡ true → IsHeld slab' spots' i k
    pull_held i k st =
        let r = t.held i k (stands_before orders h p key at i k st) in
        record {
          «record» = r.«record»;
          there = u.others k (key_gone i k st) ∙ r.there;
          spot = grind (arith, eqb_tells, id_gone);
        }

    pull_found : (id i k : ℕ) → spot_for spots' id ≡ Some (i, k) → IsFound slab' left id i k
    pull_found id i k e = elim (eqb_tells rec.id.0 id) [
      | inl f ↦ absurd (grind (arith, no_spot_left))
      | inr f ↦
          let r = t.found id i k (sym (w id ∙ ap (λ b. cond b None (spot_for spots id)) f.0) ∙ e) in
          let ne : k ≢ key = grind (arith, one_record) in
          record {
            «record» = r.«record»;
            there = u.others k ne ∙ r.there;
            same = r.same;
            stands = stands_still orders h p key at i k ne r.stands;
          }
    ]

    pub pull_tied : IsTied slab' left spots'
    pull_tied = grind (arith, pull_lists, apart-without, pull_held, pull_found)

  -- ---- what the map tells
  pub key_stands : (id h k : ℕ) → spot_for spots id ≡ Some (h, k) → list_any (λ j. j == k) (records_of orders h) ≡ true
  key_stands id h k e = ap (list_any (λ j. j == k)) (list_of-get_or orders h) ∙ (t.found id h k e).stands

  pub header_stands : (id h k : ℕ) → spot_for spots id ≡ Some (h, k) → h < length orders
  header_stands id h k e =
      let one = place_stands orders h k (t.found id h k e).stands in header_within orders h one.0 k one.1

  pub is_key : (id h k : ℕ) → spot_for spots id ≡ Some (h, k) → IsSome (get slab k)
  is_key id h k e = ap is_some (t.found id h k e).there

  pub found_spot : (id h k p : ℕ) → spot_for spots id ≡ Some (h, k) → slice_get (records_of orders h) p ≡ Some k
      → spot_of rec_id id (lists_at slab orders) ≡ Some (h, p)
  found_spot id h k p e at =
      let r = t.found id h k e in
      subst (λ (i : ℕ). spot_of rec_id i (lists_at slab orders) ≡ Some (h, p)) r.same
      (spot_there rec_id r.«record».id.0 (lists_at slab orders) h p (key_placed h p k r.«record» at r.there))

  pub found_record : (id h k : ℕ) → spot_for spots id ≡ Some (h, k)
      → get slab k ≡ record_of rec_id id (lists_at slab orders)
  found_record id h k e =
      let r = t.found id h k e in
      let one = place_stands orders h k r.stands in
      subst (λ (i : ℕ). get slab k ≡ record_of rec_id i (lists_at slab orders))
      r.same (r.there ∙ sym (record_there rec_id r.«record».id.0 (lists_at slab orders) h
      one.0 (key_placed h one.0 k r.«record» one.1 r.there) ∙ key_there h one.0 k r.«record» one.1 r.there))

  -- a key that stands in some place, where a record passes
  some_stands : (q : Rec → Bool) → list_any q (all_records (lists_at slab orders)) ≡ true
      → (h : ℕ) × (k : ℕ) × (stands orders h k ≡ true) × (q (rec_at slab k) ≡ true)
  some_stands q e = any_key (rec_at slab) q orders e

  pub none_there : (id : ℕ) → spot_for spots id ≡ None
      → list_any (is_id rec_id id) (all_records (lists_at slab orders)) ≡ false
  none_there id e = grind (arith, some_stands, at_is, eqb-true, no_spot_left)

  pub unfound_spot : (id : ℕ) → spot_for spots id ≡ None → spot_of rec_id id (lists_at slab orders) ≡ None
  unfound_spot id e = no_spot rec_id id (lists_at slab orders) (sym (grind (arith, any_all)) ∙ none_there id e)

  pub unfound_record : (id : ℕ) → spot_for spots id ≡ None → record_of rec_id id (lists_at slab orders) ≡ None
  unfound_record id e = find_none (is_id rec_id id) (all_records (lists_at slab orders)) (none_there id e)

  pub found_header : (id h k : ℕ) → spot_for spots id ≡ Some (h, k)
      → option_map (λ s. s.0) (spot_of rec_id id (lists_at slab orders)) ≡ Some h
  found_header id h k e =
      let one = place_stands orders h k (t.found id h k e).stands in
      ap (option_map (λ s. s.0)) (found_spot id h k one.0 e one.1)

  pub unfound_header : (id : ℕ) → spot_for spots id ≡ None
      → option_map (λ s. s.0) (spot_of rec_id id (lists_at slab orders)) ≡ None
  unfound_header id e = ap (option_map (λ s. s.0)) (unfound_spot id e)

  -- what is at the place of the key that the map has for an id
  pub found_pulled : (id h k p : ℕ) (rec : Rec) → spot_for spots id ≡ Some (h, k)
      → slice_get (records_of orders h) p ≡ Some k → slice_get (records_of (lists_at slab orders) h) p ≡ Some rec
      → (rec.id.0 ≡ id) × (Some rec ≡ record_of rec_id id (lists_at slab orders))
  found_pulled id h k p rec e at got =
      let r = t.found id h k e in
      let own : r.«record» ≡ rec = grind (arith, one_record, key_there) in (grind (arith, found_record))

  pub get_there : (h p k : ℕ) → slice_get (records_of orders h) p ≡ Some k
      → get slab k ≡ slice_get (records_of (lists_at slab orders) h) p
  get_there h p k at =
      let r = t.held h k (stands_at orders h p k at) in r.there ∙ sym (key_there h p k r.«record» at r.there)

  pub get_past : (h p : ℕ) → slice_get (records_of orders h) p ≡ None
      → slice_get (records_of (lists_at slab orders) h) p ≡ None
  get_past h p at = grind (arith, records_of-map, get-map)

  pub without_unfound : (id : ℕ) → spot_for spots id ≡ None
      → lists_without rec_id id (lists_at slab orders) ≡ lists_at slab orders
  without_unfound id e = without_absent
      rec_id id (lists_at slab orders) (sym (any_all (is_id rec_id id) (lists_at slab orders)) ∙ none_there id e)

  -- ---- a record in place of another
  module _ (slab' : Slab Rec) (h key : ℕ) (rec : Rec) (e : spot_for spots rec.id.0 ≡ Some (h, key))
      (u : Updates slab slab' key (Some rec)) where
    -- the key has the id, and no other key that stands has
    one_key : (i k : ℕ) (r : Rec) → stands orders i k ≡ true → get slab k ≡ Some r → r.id.0 ≡ rec.id.0 → k ≡ key
    one_key i k r st g same = grind (arith, one_record, one_spot)

    replaced_key : (i k : ℕ) → stands orders i k ≡ true → rec_at slab' k ≡ replaced_by rec_id rec (rec_at slab k)
    replaced_key i k st =
        let r = t.held i k st in
        let own : rec_at slab k ≡ r.«record» = at_is slab k r.«record» r.there in
        elim (eqb_tells r.«record».id.0 rec.id.0) [
          | inl f ↦ grind (arith, one_key, at_is)
          | inr f ↦
              let f0 = t.found rec.id.0 h key e in
              let ne : k ≢ key = grind (arith, one_record) in
              at_is slab' k r.«record» (u.others k ne ∙ r.there) ∙ sym (grind arith)
        ]

    pub set_lists : lists_at slab' orders ≡ lists_replaced rec_id rec (lists_at slab orders)
    set_lists = agree (rec_at slab') (λ k. replaced_by rec_id rec (rec_at slab k)) orders replaced_key
        ∙ twice (rec_at slab) (replaced_by rec_id rec) orders

    set_held : (i k : ℕ) → stands orders i k ≡ true → IsHeld slab' spots i k
    set_held i k st = elim (eqb_tells k key) [
      | inl f ↦
          let r = t.held i k st in
          let f0 = t.found rec.id.0 h key e in
          let own : r.«record» ≡ f0.«record» = grind (arith, one_record) in
          record {
            «record» = rec;
            there = ap (get slab') f.1 ∙ u.changed;
            spot = subst (λ (n : ℕ). spot_for spots n ≡ Some (i, k)) (ap (λ (x : Rec). x.id.0) own ∙ f0.same) r.spot;
          }
      | inr f ↦ grind arith
    ]

    set_found : (id i k : ℕ) → spot_for spots id ≡ Some (i, k) → IsFound slab' orders id i k
    set_found id i k g = elim (eqb_tells k key) [
      | inl f ↦
          let r = t.found id i k g in
          let f0 = t.found rec.id.0 h key e in
          let own : f0.«record» ≡ r.«record» = grind (arith, one_record) in
          record {
            «record» = rec;
            there = ap (get slab') f.1 ∙ u.changed;
            same = sym f0.same ∙ ap (λ (x : Rec). x.id.0) own ∙ r.same;
            stands = r.stands;
          }
      | inr f ↦
          let r = t.found id i k g in
          record { «record» = r.«record»; there = u.others k f.1 ∙ r.there; same = r.same; stands = r.stands }
    ]

    pub set_tied : IsTied slab' orders spots
    set_tied = record {
      apart = ap (λ (l : List (List Rec)). pairwise (ids_apart rec_id) (all_records l)) set_lists
          ∙ apart-changed rec_id rec (lists_at slab orders) t.apart;
      held = set_held;
      found = set_found;
    }

-- ---- the records of the headers, and their keys

pub length-at : (slab : Slab Rec) (orders : List (List ℕ)) (h : ℕ)
    → length (records_of orders h) ≡ length (records_of (lists_at slab orders) h)
length-at slab orders h = sym (ap (λ (l : List Rec). length l) (records_of-map (rec_at slab) orders h)
    ∙ length-map (records_of orders h) (rec_at slab))

-- the same records, keys and spots
same_get : (slab slab' : Slab Rec) (k : ℕ) → slab'.slots ≡ slab.slots → get slab' k ≡ get slab k
same_get slab slab' k e = ap (λ (s : List (Option Rec)). slice_index_or s k None) e

pub same_tied : (slab slab' : Slab Rec) (orders orders' : List (List ℕ)) (spots spots' : List (ℕ × (ℕ × ℕ)))
    → slab'.slots ≡ slab.slots → orders' ≡ orders → spots' ≡ spots → IsTied slab orders spots
    → IsTied slab' orders' spots'
same_tied slab slab' orders orders' spots spots' e o s t = subst (λ (l : List (List ℕ)). IsTied slab' l spots')
    (sym o) (subst (λ (l : List (ℕ × (ℕ × ℕ))). IsTied slab' orders l) (sym s) (record {
      apart = grind (arith, agree, same_get);
      held = grind (arith, same_get);
      found = λ id h k f. (let r = t.found id h k f in record {
        «record» = r.«record»;
        there = same_get slab slab' k e ∙ r.there;
        same = r.same;
        stands = r.stands;
      });
    }))

-- no records
no_keys : (n h k : ℕ) → stands (replicate n []) h k ≡ true → ⊥
no_keys zero h k st = false≢true st
no_keys (suc n) zero k st = false≢true st
no_keys (suc n) (suc h) k st = no_keys n h k st

pub no_lists : (slab : Slab Rec) (n : ℕ) → lists_at slab (replicate n []) ≡ replicate n []
no_lists slab zero = refl
no_lists slab (suc n) = ap (λ (l : List (List Rec)). [] ∷ l) (no_lists slab n)

pub new_tied : (slab : Slab Rec) (orders : List (List ℕ)) (spots : List (ℕ × (ℕ × ℕ))) (n : ℕ)
    → orders ≡ replicate n [] → spots ≡ [] → IsTied slab orders spots
new_tied slab orders spots n o s = subst (λ (l : List (List ℕ)). IsTied slab l spots) (sym o)
    (subst (λ (l : List (ℕ × (ℕ × ℕ))). IsTied slab (replicate n []) l) (sym s) (record {
      apart = ap (λ (l : List (List Rec)). pairwise (ids_apart rec_id) (all_records l)) (no_lists slab n)
          ∙ ap (λ (l : List Rec). pairwise (ids_apart rec_id) l) (all-replicate n);
      held = λ h k st. absurd (no_keys n h k st);
      found = λ id h k f. absurd (no_spot_left None (h, k) refl f);
    }))

-- the keys of a header are few
pub few-at : (orders : List (List ℕ)) (h : ℕ) → h < length orders → list_all is_few orders ≡ true
    → length (records_of orders h) < 4294967296
few-at orders h lt few = grind (arith, ltb-true, list_of-get_or, list_all-get_or)

-- what holds of an option's value, weakened
pub weaker_some : {X : Type 0} (o : Option X) (P Q : X → Type 0) → ((x : X) → P x → Q x) → IfSome o P → IfSome o Q
weaker_some None P Q f h = tt
weaker_some (Some x) P Q f h = f x h

pub weaker_none : {X : Type 0} (o : Option X) (P Q : Type 0) → (P → Q) → IfNone o P → IfNone o Q
weaker_none None P Q f h = f h
weaker_none (Some x) P Q f h = tt

-- the last of a list goes
pub remove_last : {X : Type 0} (xs : List X) (n : ℕ) → 0 < length xs → n ≡ length xs - 1
    → remove xs n ≡ take (length xs - 1) xs
remove_last {X} xs n some e = grind (arith, drop_all, append-nil)

-- within a list there is something
pub none_within : {X : Type 0} (xs : List X) (k : ℕ) → k < length xs → slice_get xs k ≡ None → ⊥
none_within [] k lt e = absurd (omega (arith, lt))
none_within (x ∷ xs) zero lt e = cc
none_within (x ∷ xs) (suc k) lt e = none_within xs k (omega (arith, lt)) e
