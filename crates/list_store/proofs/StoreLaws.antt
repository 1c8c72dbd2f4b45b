-- What a call does to the records that are shown, and to the chains that no record has.
use Rattle.list_store.proofs.Imports.{◌≡◌, ℕ, zero, suc, ◌+◌, ◌-◌, ◌<◌, true, false, not, List, [], ◌∷◌, ◌++◌, map, set, slice_get, replicate, sum_by, length, Option, None, Some, is_some, option_map, Result, Ok, Err, refl, sym, ap, ◌∙◌, subst, arith, Bor, IfSome, IfNone, IfOk, OnErr, nat_le, ◌≤◌, get_or, sum_by-cons, pairwise, all_records, records_of, record_of, lists_with, lists_without, lists_replaced, replaced_by, ids_apart, list_any, list_all, any_is_found, any_all, all-filter, all-map, without_absent, every_at, every_found, all_with, agree_all, IsSplit, split_found, Chain, NoElements, need_of, Chains, IsChain, need_at, need_in, with_chain, without_chain, Rec, TableView, rec_id, Record, record_in, HasChain, chains_less, loose_in, is_data, AreHeld, elements_in, StoreView, and_from, and_parts, le-leb, leb-true, get_or_from_slice_get, get_within, apart-map, record-map, any-map, without-map, record_id}
use Rattle.cf_lists.specs.Lists.{is_id, has_id}
use Rattle.list_store.proofs.VecLaws.{list_all-set, list_all-get_or}
use Rattle.list_store.proofs.HeldLaws.{less_swap, has_swap, loose_middle, held_middle, loose_sub, each_chain, elsewhere_fresh, elsewhere_loose, loose_change, held_change, record_change, counted, loose_fresh}

abbrev pub shown : List (Option (List ℕ)) → List (List Rec) → List (List Record)
shown chains lists = map (map (record_in chains)) lists

-- what is told of records is told of what they show
module _ (chains : List (Option (List ℕ))) (lists : List (List Rec)) where
  pub shown_apart : pairwise (ids_apart rec_id) (all_records lists) ≡ true
      → pairwise (ids_apart record_id) (all_records (shown chains lists)) ≡ true
  shown_apart apart = apart-map (record_in chains) rec_id record_id (λ x. refl) lists ∙ apart

  pub shown_record : (id : ℕ)
      → record_of record_id id (shown chains lists) ≡ option_map (record_in chains) (record_of rec_id id lists)
  shown_record id = record-map (record_in chains) rec_id record_id (λ x. refl) id lists

  pub shown_any : (id : ℕ) → list_any (is_id record_id id) (all_records (shown chains lists))
      ≡ list_any (is_id rec_id id) (all_records lists)
  shown_any id = any-map (record_in chains) rec_id record_id (λ x. refl) id lists

  pub shown_without : (id : ℕ)
      → shown chains (lists_without rec_id id lists) ≡ lists_without record_id id (shown chains lists)
  shown_without id = without-map (record_in chains) rec_id record_id (λ x. refl) id lists

sum_by-map : {X Y : Type 0} (g : Y → ℕ) (f : X → Y) (xs : List X) → sum_by g (map f xs) ≡ sum_by (λ x. g (f x)) xs
sum_by-map g f [] = refl
sum_by-map g f (x ∷ xs) =
    sum_by-cons g (f x) (map f xs) ∙ ap (λ n. g (f x) + n) (sum_by-map g f xs) ∙ sym (sum_by-cons (λ y. g (f y)) x xs)

-- what a record's going leaves: new lists, in which no record has its chain
pub record TakenOut (chains : List (Option (List ℕ))) (lists new : List (List Rec)) (o : Option Rec) : Type 0 where
  pub held : AreHeld chains (all_records new)
  pub chain : IfSome o (λ rec. HasChain (loose_in chains (all_records new)) rec.body)
  pub was : IfSome o (λ rec. loose_in chains (all_records lists)
      ≡ chains_less rec.body (loose_in chains (all_records new)))
  pub none : IfNone o (loose_in chains (all_records new) ≡ loose_in chains (all_records lists))

pub record PoppedOut (chains : List (Option (List ℕ))) (lists new : List (List Rec))
    (o : Option (ℕ × Rec)) : Type 0 where
  pub held : AreHeld chains (all_records new)
  pub chain : IfSome o (λ out. HasChain (loose_in chains (all_records new)) out.1.body)
  pub was : IfSome o (λ out. loose_in chains (all_records lists)
      ≡ chains_less out.1.body (loose_in chains (all_records new)))

-- what a reference shows is what its record shows
pub shown_option : (chains : List (Option (List ℕ))) (o : Option (Bor Rec))
    → option_map (λ rec. record_in chains rec.now) o ≡ option_map (record_in chains) (option_map (λ rec. rec.now) o)
shown_option chains None = refl
shown_option chains (Some rec) = refl

-- and where it shows none there is none
pub none_shown : (chains : List (Option (List ℕ))) (o : Option (Bor Rec)) (p : Option Record)
    → option_map (λ rec. record_in chains rec.now) o ≡ p → o ≡ None → p ≡ None
none_shown chains o p e f = sym e ∙ ap (option_map (λ (rec : Bor Rec). record_in chains rec.now)) f

module _ (chains : List (Option (List ℕ))) (lists : List (List Rec)) (held : AreHeld chains (all_records lists)) where
  abbrev loose : List (Option (List ℕ))
  loose = loose_in chains (all_records lists)

  -- ---- a record more
  module _ (h p : ℕ) (rec : Rec) (lt : h < length lists) (has : HasChain loose rec.body) where
    added : AreHeld chains (all_records (lists_with h p rec lists))
        × (loose_in chains (all_records (lists_with h p rec lists)) ≡ chains_less rec.body loose)
    added =
        let s = all_with h p rec lists lt in
        let m = held_middle chains s.0 s.1 rec (grind arith) (subst (λ l. AreHeld chains l) s.2 held) in (grind arith)

    pub added_held : AreHeld chains (all_records (lists_with h p rec lists))
    added_held = added.0

    pub added_loose : loose_in chains (all_records (lists_with h p rec lists)) ≡ chains_less rec.body loose
    added_loose = added.1

  -- ---- a record less
  module _ (id : ℕ) (rec : Rec) (apart : pairwise (ids_apart rec_id) (all_records lists) ≡ true)
      (found : record_of rec_id id lists ≡ Some rec) where
    split : IsSplit rec_id id (all_records lists) rec
    split = split_found rec_id id (all_records lists) rec apart found

    middle : (HasChain (loose_in chains (split.front ++ split.back)) rec.body
        × AreHeld chains (split.front ++ split.back)) × (loose_in
        chains (split.front ++ rec ∷ split.back) ≡ chains_less rec.body (loose_in chains (split.front ++ split.back)))
    middle = loose_middle chains split.front split.back rec (subst (λ l. AreHeld chains l) split.whole held)

    rest : all_records (lists_without rec_id id lists) ≡ split.front ++ split.back
    rest = all-filter (λ x. not (is_id rec_id id x)) lists ∙ split.less

    pub taken_held : AreHeld chains (all_records (lists_without rec_id id lists))
    taken_held = subst (λ l. AreHeld chains l) (sym rest) middle.0.1

    pub taken_chain : HasChain (loose_in chains (all_records (lists_without rec_id id lists))) rec.body
    taken_chain = subst (λ l. HasChain (loose_in chains l) rec.body) (sym rest) middle.0.0

    pub taken_was : loose ≡ chains_less rec.body (loose_in chains (all_records (lists_without rec_id id lists)))
    taken_was =
        ap (loose_in chains) split.whole ∙ middle.1 ∙ ap (λ l. chains_less rec.body (loose_in chains l)) (sym rest)

  -- ---- a record in place of another
  module _ (old rec : Rec) (apart : pairwise (ids_apart rec_id) (all_records lists) ≡ true)
      (found : record_of rec_id rec.id.0 lists ≡ Some old) (has : HasChain loose rec.body) where
    place : IsSplit rec_id rec.id.0 (all_records lists) old
    place = split_found rec_id rec.id.0 (all_records lists) old apart found

    abbrev others : List (Option (List ℕ))
    others = loose_in chains (place.front ++ place.back)

    out : (HasChain others old.body × AreHeld chains (place.front ++ place.back))
        × (loose_in chains (place.front ++ old ∷ place.back) ≡ chains_less old.body others)
    out = loose_middle chains place.front place.back old (subst (λ l. AreHeld chains l) place.whole held)

    was : loose ≡ chains_less old.body others
    was = ap (loose_in chains) place.whole ∙ out.1

    still : HasChain (chains_less old.body others) rec.body
    still = subst (λ l. HasChain l rec.body) was has

    both : HasChain others rec.body × HasChain (chains_less rec.body others) old.body
    both = has_swap others old.body rec.body out.0.0 still

    into : AreHeld chains (place.front ++ rec ∷ place.back)
        × (loose_in chains (place.front ++ rec ∷ place.back) ≡ chains_less rec.body others)
    into = held_middle chains place.front place.back rec both.0 out.0.1

    now : all_records (lists_replaced rec_id rec lists) ≡ place.front ++ rec ∷ place.back
    now = all-map (replaced_by rec_id rec) lists ∙ place.other rec refl

    pub replaced_held : AreHeld chains (all_records (lists_replaced rec_id rec lists))
    replaced_held = subst (λ l. AreHeld chains l) (sym now) into.0

    pub replaced_chain : HasChain (loose_in chains (all_records (lists_replaced rec_id rec lists))) old.body
    replaced_chain = subst (λ l. HasChain l old.body) (sym (ap (loose_in chains) now ∙ into.1)) both.1

    pub replaced_was : chains_less rec.body loose
        ≡ chains_less old.body (loose_in chains (all_records (lists_replaced rec_id rec lists)))
    replaced_was = grind (arith, was, less_swap, still, now, rec.body, old.body, into.1)

  -- ---- a record that was taken out, if it was there
  pub taken_out : (id : ℕ) (new : List (List Rec)) (o : Option Rec) → pairwise (ids_apart rec_id) (all_records lists)
      ≡ true → o ≡ record_of rec_id id lists → new ≡ lists_without rec_id id lists → TakenOut chains lists new o
  taken_out id new (Some rec) apart found is = grind (arith, taken_held, taken_chain, was, taken_was)
  taken_out id new None apart found is =
      let absent : list_any (has_id rec_id id) lists ≡ false = sym (any_all (is_id rec_id id) lists)
      ∙ any_is_found (is_id rec_id id) (all_records lists) ∙ ap is_some (sym found) in
      let same : new ≡ lists = is ∙ without_absent rec_id id lists absent in
      record {
        held = subst (λ l. AreHeld chains (all_records l)) (sym same) held;
        chain = tt;
        was = tt;
        none = ap (λ (l : List (List Rec)). loose_in chains (all_records l)) same;
      }

  -- the last record
  pub popped_out : (new : TableView) (o : Option (ℕ × Rec)) (old : TableView) → old.lists ≡ lists → pairwise
      (ids_apart rec_id) (all_records lists) ≡ true → IfSome o (λ out. record_of rec_id out.1.id.0 lists ≡ Some out.1)
      → IfSome o (λ out. new.lists ≡ lists_without rec_id out.1.id.0 lists)
      → IfNone o (new ≡ old) → PoppedOut chains lists new.lists o
  popped_out new (Some out) old is apart found without same =
      let r = taken_out out.1.id.0 new.lists (Some out.1) apart (sym found) without in
      record { held = r.held; chain = r.chain; was = r.was }
  popped_out new None old is apart found without same = grind (arith, was)

  -- ---- what a reference shows
  pub chain_at : (h p : ℕ) (o : Option (Bor Rec)) → option_map (λ rec. rec.now) o ≡ slice_get (records_of lists h) p
      → IfSome o (λ rec. HasChain chains rec.now.body)
  chain_at h p None e = tt
  chain_at h p (Some rec) e =
      every_at (λ r. HasChain chains r.body) lists h p rec.now (each_chain chains (all_records lists) held) (sym e)

  pub chain_of : (id : ℕ) (o : Option (Bor Rec)) → option_map (λ rec. rec.now) o ≡ record_of rec_id id lists
      → IfSome o (λ rec. HasChain chains rec.now.body)
  chain_of id None e = tt
  chain_of id (Some rec) e = every_found (λ r. HasChain chains r.body)
      (is_id rec_id id) (all_records lists) rec.now (each_chain chains (all_records lists) held) (sym e)

  -- ---- a change at a place where no record's chain begins
  module _ (k : ℕ) (o : Option (List ℕ)) where
    pub fresh_held : slice_get chains k ≡ Some None → AreHeld (set chains k o) (all_records lists)
    fresh_held e = held_change chains (all_records lists) k o (elsewhere_fresh chains (all_records lists) k e held) held

    pub fresh_loose : slice_get chains k ≡ Some None → loose_in (set chains k o) (all_records lists) ≡ set loose k o
    fresh_loose e = loose_change chains (all_records lists) k o (elsewhere_fresh chains (all_records lists) k e held)

    pub fresh_shown : slice_get chains k ≡ Some None → shown (set chains k o) lists ≡ shown chains lists
    fresh_shown e = agree_all (record_in (set chains k o)) (record_in chains)
        lists (record_change chains (all_records lists) k o (elsewhere_fresh chains (all_records lists) k e held))

    pub loose_held : IsChain loose k → AreHeld (set chains k o) (all_records lists)
    loose_held c = grind (arith, held_change, elsewhere_loose)

    pub loose_loose : IsChain loose k → loose_in (set chains k o) (all_records lists) ≡ set loose k o
    loose_loose c = loose_change chains (all_records lists) k o (elsewhere_loose chains (all_records lists) k c.0 c.1)

    pub loose_shown : IsChain loose k → shown (set chains k o) lists ≡ shown chains lists
    loose_shown c = agree_all (record_in (set chains k o)) (record_in chains)
        lists (record_change chains (all_records lists) k o (elsewhere_loose chains (all_records lists) k c.0 c.1))

  pub loose_chain : (k : ℕ) → IsChain loose k → IsChain chains k
  loose_chain k c = (c.0, loose_sub chains (all_records lists) k c.0 c.1)

  -- ---- all elements
  pub all_elements : (free n : ℕ) → sum_by need_at chains + free ≡ n
      → elements_in (all_records (shown chains lists)) + sum_by need_at loose + free ≡ n
  all_elements free n e =
      let recs = all_records lists in
      omega (
        arith,
        e,
        counted chains recs held,
        ap elements_in (all-map (record_in chains) lists),
        sum_by-map (λ (r : Record). need_at r.body) (record_in chains) recs,
      )

-- nothing is shown where there are no records
pub shown_none : (chains : List (Option (List ℕ))) (n : ℕ) → shown chains (replicate n []) ≡ replicate n []
shown_none chains zero = refl
shown_none chains (suc n) = ap (λ (l : List (List Record)). [] ∷ l) (shown_none chains n)

pub held_none : (chains : List (Option (List ℕ))) (lists : List (List Rec)) (n : ℕ) → lists ≡ replicate n []
    → AreHeld chains (all_records lists) × (loose_in chains (all_records lists) ≡ chains)
held_none chains lists n e = grind (arith, go)
  where
    go : (m : ℕ) → AreHeld chains (all_records (replicate m []))
        × (loose_in chains (all_records (replicate m [])) ≡ chains)
    go zero = (tt, refl)
    go (suc m) = go m

-- ---- the pool's own clauses, as those of the view

abbrev pub view_with : TableView → Chains → StoreView
view_with table pool = record {
  lists = shown pool.chains table.lists;
  chains = pool.chains;
  loose = loose_in pool.chains (all_records table.lists);
  free = pool.free;
  room = table.room;
}

abbrev view_of : List (List Record) → List (Option (List ℕ)) → List (Option (List ℕ)) → ℕ → ℕ → StoreView
view_of lists chains loose free room =
    record { lists = lists; chains = chains; loose = loose; free = free; room = room }

view_by : (a a' : List (List Record)) (b c c' : List (Option (List ℕ))) (d e : ℕ) → a ≡ a' → c ≡ c'
    → view_of a b c d e ≡ view_of a' b c' d e
view_by a a' b c c' d e p q = ap (λ x. view_of x b c d e) p ∙ ap (λ x. view_of a' b x d e) q

module _ (table : TableView) (pool new : Chains) (held : AreHeld pool.chains (all_records table.lists)) where
  abbrev old_loose : List (Option (List ℕ))
  old_loose = loose_in pool.chains (all_records table.lists)

  -- put
  pub put_held : (bytes : List ℕ) (r : Result Chain NoElements)
      → IfOk r (λ chain. slice_get pool.chains chain.head ≡ Some None) → IfOk r (λ chain. new ≡ with_chain
      pool chain.head bytes) → OnErr r (new ≡ pool) → AreHeld new.chains (all_records table.lists)
  put_held bytes (Ok chain) fresh put same = subst (λ (p : Chains). AreHeld p.chains (all_records table.lists))
      (sym put) (fresh_held pool.chains table.lists held chain.head (Some bytes) fresh)
  put_held bytes (Err e) fresh put same = grind arith

  pub put_view : (bytes : List ℕ) (r : Result Chain NoElements)
      → IfOk r (λ chain. slice_get pool.chains chain.head ≡ Some None)
      → IfOk r (λ chain. new ≡ with_chain pool chain.head bytes) → IfOk r (λ chain. view_with table new ≡ record {
        lists = shown pool.chains table.lists;
        chains = set pool.chains chain.head (Some bytes);
        loose = set old_loose chain.head (Some bytes);
        free = pool.free - need_of (length bytes);
        room = table.room;
      })
  put_view bytes (Ok chain) fresh put = ap (view_with table) put ∙ view_by _ _
      _ _ _ _ _ (fresh_shown pool.chains table.lists held chain.head (Some bytes) fresh) (grind (arith, fresh_loose))
  put_view bytes (Err e) fresh put = tt

  -- give back
  pub given_held : (k : ℕ) → IsChain old_loose k → new ≡ without_chain pool k
      → AreHeld new.chains (all_records table.lists)
  given_held k c given = subst (λ (p : Chains). AreHeld p.chains (all_records table.lists))
      (sym given) (loose_held pool.chains table.lists held k None c)

  pub given_view : (k : ℕ) → IsChain old_loose k → new ≡ without_chain pool k → view_with table new ≡ record {
    lists = shown pool.chains table.lists;
    chains = set pool.chains k None;
    loose = set old_loose k None;
    free = pool.free + need_in pool.chains k;
    room = table.room;
  }
  given_view k c given = ap (view_with table) given ∙ view_by _ _ _
      _ _ _ _ (loose_shown pool.chains table.lists held k None c) (loose_loose pool.chains table.lists held k None c)

-- a new chain is at a place where no loose one was
pub new_fresh : {E : Type 0} (chains : List (Option (List ℕ))) (recs : List Rec)
    → AreHeld chains recs → (r : Result Chain E) → IfOk r (λ chain. slice_get chains chain.head ≡ Some None)
    → IfOk r (λ chain. slice_get (loose_in chains recs) chain.head ≡ Some None)
new_fresh chains recs held (Ok chain) e = loose_fresh chains recs chain.head e held
new_fresh chains recs held (Err e) f = tt

-- replace: first given back, then put
module _ (table : TableView) (pool new : Chains) (held : AreHeld pool.chains (all_records table.lists)) (k : ℕ)
    (c : IsChain (loose_in pool.chains (all_records table.lists)) k) (bytes : List ℕ) where
  between : AreHeld (set pool.chains k None) (all_records table.lists)
  between = loose_held pool.chains table.lists held k None c

  pub replace_held : (r : Result Chain (Chain × NoElements)) → IfOk
      r (λ chain. slice_get (without_chain pool k).chains chain.head ≡ Some None) → IfOk r (λ chain. new ≡ with_chain
      (without_chain pool k) chain.head bytes) → OnErr r (new ≡ pool) → AreHeld new.chains (all_records table.lists)
  replace_held (Ok chain) fresh put same = subst (λ (p : Chains). AreHeld p.chains (all_records table.lists))
      (sym put) (fresh_held (set pool.chains k None) table.lists between chain.head (Some bytes) fresh)
  replace_held (Err e) fresh put same = grind arith

  pub replace_view : (r : Result Chain (Chain × NoElements)) → IfOk
      r (λ chain. slice_get (without_chain pool k).chains chain.head ≡ Some None) → IfOk r (λ chain. new ≡ with_chain
      (without_chain pool k) chain.head bytes) → IfOk r (λ chain. view_with table new ≡ record {
        lists = shown pool.chains table.lists;
        chains = set (set pool.chains k None) chain.head (Some bytes);
        loose = set (set (loose_in pool.chains (all_records table.lists)) k None) chain.head (Some bytes);
        free = pool.free + need_in pool.chains k - need_of (length bytes);
        room = table.room;
      })
  replace_view (Ok chain) fresh put =
      let gone = set pool.chains k None in
      ap (view_with table) put ∙ view_by _ _ _ _ _ _ _ (fresh_shown gone table.lists between chain.head (Some bytes)
      fresh ∙ loose_shown pool.chains table.lists held k None c) (grind (arith, fresh_loose, between, loose_loose))
  replace_view (Err e) fresh put = tt

-- ---- each chain has 1 to 4,096 bytes

is_whole : (bytes : List ℕ) → 1 ≤ length bytes → length bytes ≤ 4096 → is_data (Some bytes) ≡ true
is_whole bytes some few = grind (arith, and_from, le-leb)

pub whole_none : (chains : List (Option (List ℕ))) (n : ℕ) → chains ≡ replicate n None → list_all is_data chains ≡ true
whole_none chains n e = ap (λ (l : List (Option (List ℕ))). list_all is_data l) e ∙ go n
  where
    go : (m : ℕ) → list_all is_data (replicate m None) ≡ true
    go zero = refl
    go (suc m) = go m

module _ (pool new : Chains) (bytes : List ℕ) (some : 1 ≤ length bytes) (few : length bytes ≤ 4096)
    (whole : list_all is_data pool.chains ≡ true) where
  pub put_whole : (r : Result Chain NoElements) → IfOk r (λ chain. new ≡ with_chain pool chain.head bytes)
      → OnErr r (new ≡ pool) → list_all is_data new.chains ≡ true
  put_whole (Ok chain) put same = grind (arith, list_all-set, is_whole)
  put_whole (Err e) put same = ap (λ (p : Chains). list_all is_data p.chains) same ∙ whole

pub given_whole : (pool new : Chains) (k : ℕ) → list_all is_data pool.chains ≡ true → new ≡ without_chain pool k
    → list_all is_data new.chains ≡ true
given_whole pool new k whole given = grind (arith, list_all-set)

pub replace_whole : (pool new : Chains) (k : ℕ) (bytes : List ℕ) → 1 ≤ length bytes → length bytes ≤ 4096 → list_all
    is_data pool.chains ≡ true → (r : Result Chain (Chain × NoElements)) → IfOk r (λ chain. new ≡ with_chain
    (without_chain pool k) chain.head bytes) → OnErr r (new ≡ pool) → list_all is_data new.chains ≡ true
replace_whole pool new k bytes some few whole (Ok chain) put same = grind (arith, list_all-set, is_whole)
replace_whole pool new k bytes some few whole (Err e) put same = grind arith

pub data_size : (chains : List (Option (List ℕ))) (k : ℕ) (bytes : List ℕ) → list_all is_data chains ≡ true
    → slice_get chains k ≡ Some (Some bytes) → (1 ≤ length bytes) × (length bytes ≤ 4096)
data_size chains k bytes whole e =
    let within = get_within chains k (Some bytes) e in
    let one : is_data (get_or chains k None) ≡ true = list_all-get_or is_data chains k None whole within in
    let is : get_or chains k None ≡ Some bytes = get_or_from_slice_get chains k (Some bytes) None e in
    let both = and_parts (nat_le 1 (length bytes)) (nat_le (length bytes) 4096) (sym (ap is_data is) ∙ one) in
    (leb-true 1 (length bytes) both.0, leb-true (length bytes) 4096 both.1)
