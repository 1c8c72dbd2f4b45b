-- A slot that is written, and one that is freed.
use Rattle.cache_reclaim.proofs.Imports.{◌≡◌, ◌≢◌, ℕ, suc, ◌-◌, ◌<◌, Bool, true, false, not, nat_eq, cond, List, [], ◌∷◌, ◌++◌, reverse, length, filter, get_or, Option, Some, None, IsSome, Result, Ok, Err, OnOk, IsOk, is_some, refl, sym, ap, ◌∙◌, subst, arith, IsDistinct, cons_option, filter_map, keys_of, lookup, lookup_entry, remove_entry, nat_eq_equiv, false≢true, eqb-true, eq-eqb, reverse-append, length-append, length-reverse, take_all, filter_map-append, filter-append, NonePasses, lookup-remove_entry, lookup-none, none_past_head, lookup_from_place, slice_get-get_or, LruCache, lru_cache, put_entries, last_entry, AllocFailed, list_any-IsPermutation, IsPermutation-reverse, Used, Name16, same_name, order_without, order_touched, has_name, is_in_part, used_in, part_of, by_name, IsFree, EndsFree, ends_free, IsTied, IsSlotOf, WritesName, same_name-eq, same_name-from, same_name-sym, same_name-ne, both_implied}
use Rattle.std.proofs.lemmas.List.{append_assoc, append-nil}

-- ---- a slot that is there

entry_there : (k : ℕ) (es : List (ℕ × Option Used)) → IsSome (lookup (nat_eq k) es)
    → (w : Option Used) × (lookup_entry (nat_eq k) es ≡ Some (k, w))
entry_there k [] h = absurd (false≢true h)
entry_there k (e ∷ es) h = go (nat_eq k e.0) refl h (λ some. entry_there k es some)
  where
    go : (b : Bool) → nat_eq k e.0 ≡ b → IsSome (cond b (Some e.1) (lookup (nat_eq k) es))
        → (IsSome (lookup (nat_eq k) es) → (w : Option Used) × (lookup_entry (nat_eq k) es ≡ Some (k, w)))
        → (w : Option Used) × (cond b (Some e) (lookup_entry (nat_eq k) es) ≡ Some (k, w))
    go true h some ih =
        let same : e.0 ≡ k = sym (eqb-true k e.0 h) in (e.1, ap (λ j. Some (j, e.1)) same)
    go false h some ih = ih some

shorter : (k : ℕ) (es : List (ℕ × Option Used)) → IsSome (lookup (nat_eq k) es)
    → length es ≡ suc (length (remove_entry (nat_eq k) es))
shorter k [] h = absurd (false≢true h)
shorter k (e ∷ es) h = go (nat_eq k e.0) h (λ some. shorter k es some)
  where
    go : (b : Bool) → IsSome (cond b (Some e.1) (lookup (nat_eq k) es))
        → (IsSome (lookup (nat_eq k) es) → length es ≡ suc (length (remove_entry (nat_eq k) es)))
        → length (e ∷ es) ≡ suc (length (cond b es (e ∷ remove_entry (nat_eq k) es)))
    go true some ih = refl
    go false some ih = ap suc (ih some)

-- ---- the free slots stay behind the others

free_removed : (k : ℕ) (es : List (ℕ × Option Used)) → IsFree es → IsFree (remove_entry (nat_eq k) es)
free_removed k [] h = h
free_removed k (e ∷ es) h = grind (arith, free_removed k es h.1)

free_ends : (xs : List (ℕ × Option Used)) → IsFree xs → EndsFree xs
free_ends [] f = tt
free_ends (x ∷ xs) f = subst (λ w. ends_free w (IsFree xs) (EndsFree xs)) (sym f.0) f.1

ends_removed : (k : ℕ) (es : List (ℕ × Option Used)) → EndsFree es → EndsFree (remove_entry (nat_eq k) es)
ends_removed k [] h = h
ends_removed k (e ∷ es) h = go (nat_eq k e.0) e.1 h (λ f. ends_removed k es f)
  where
    go : (b : Bool) (w : Option Used) → ends_free w (IsFree es) (EndsFree es) → (EndsFree es
        → EndsFree (remove_entry (nat_eq k) es)) → EndsFree (cond b es ((e.0, w) ∷ remove_entry (nat_eq k) es))
    go true None f ih = free_ends es f
    go true (Some u) f ih = f
    go false None f ih = free_removed k es f
    go false (Some u) f ih = ih f

free_push : (k : ℕ) (es : List (ℕ × Option Used)) → IsFree es → IsFree (es ++ (k, None) ∷ [])
free_push k [] h = (refl, tt)
free_push k (e ∷ es) h = (h.0, free_push k es h.1)

ends_push : (k : ℕ) (es : List (ℕ × Option Used)) → EndsFree es → EndsFree (es ++ (k, None) ∷ [])
ends_push k [] h = tt
ends_push k (e ∷ es) h = go e.1 h (λ f. ends_push k es f)
  where
    go : (w : Option Used) → ends_free w (IsFree es) (EndsFree es) → (EndsFree es → EndsFree (es ++ (k, None) ∷ []))
        → ends_free w (IsFree (es ++ (k, None) ∷ [])) (EndsFree (es ++ (k, None) ∷ []))
    go None f ih = free_push k es f
    go (Some u) f ih = ih f

-- ---- what is read of the slots

-- one list of slots is another with a value written at a slot
abbrev pub Reads : List (ℕ × Option Used) → ℕ → Option Used → List (ℕ × Option Used) → Type 0
Reads es k w fs = (q : ℕ) → lookup (nat_eq q) fs ≡ cond (nat_eq k q) (Some w) (lookup (nat_eq q) es)

one_key : (k x y : ℕ) → nat_eq k x ≡ true → nat_eq k y ≡ nat_eq x y
one_key k x y h = ap (λ j. nat_eq j y) (eqb-true k x h)

removed_reads : (es : List (ℕ × Option Used)) (k q : ℕ) → IsDistinct nat_eq (keys_of es)
    → lookup (nat_eq q) (remove_entry (nat_eq k) es) ≡ cond (nat_eq k q) None (lookup (nat_eq q) es)
removed_reads es k q u = lookup-remove_entry nat_eq_equiv (nat_eq k) (one_key k) q es u

or_last : Option (Option Used) → Option (Option Used) → Option (Option Used)
or_last None o = o
or_last (Some v) o = Some v

push_reads : (xs : List (ℕ × Option Used)) (k q : ℕ) (w : Option Used)
    → lookup (nat_eq q) (xs ++ (k, w) ∷ []) ≡ or_last (lookup (nat_eq q) xs) (cond (nat_eq q k) (Some w) None)
unfolding or_last
push_reads [] k q w = refl
push_reads (x ∷ xs) k q w = grind (arith, or_last, push_reads xs k q w)

pub reads_back : (es : List (ℕ × Option Used)) (k : ℕ) (w : Option Used) → IsDistinct nat_eq (keys_of es)
    → Reads es k w (remove_entry (nat_eq k) es ++ (k, w) ∷ [])
unfolding or_last
reads_back es k w u q = grind (arith, push_reads, or_last, removed_reads)

-- ---- names and slots

module _ (es : List (ℕ × Option Used)) (ns : List (List ℕ × ℕ)) (cap : ℕ) (tied : IsTied es ns cap) (name : Name16)
    (k : ℕ) where
  pub slot_named : lookup (by_name name) ns ≡ Some k → IsSlotOf es name k
  slot_named there j u h = grind (arith, both_implied, same_name-eq, eq-eqb, eqb-true, same_name-from)

  pub slot_there : lookup (by_name name) ns ≡ Some k → IsSome (lookup (nat_eq k) es)
  slot_there there = ap is_some (tied.slotted name k there).1

  module _ (of : IsSlotOf es name k) (there : IsSome (lookup (nat_eq k) es))
      (fs : List (ℕ × Option Used)) (ms : List (List ℕ × ℕ)) (unique : IsDistinct nat_eq (keys_of fs)) where
    pub touched_tied : (stg : ℕ) → fs ≡ (k, Some (record { name = name; stg = stg })) ∷ remove_entry (nat_eq k) es
        → WritesName ns name (Some k) ms → IsTied fs ms cap
    touched_tied stg is writes =
        let reads : Reads es k (Some (record { name = name; stg = stg })) fs
        = λ q. ap (lookup (nat_eq q)) is ∙ (grind (arith, removed_reads)) in
        record {
          full = ap length is ∙ sym (shorter k es there) ∙ tied.full;
          unique = unique;
          free_last = subst EndsFree (sym is) (ends_removed k es tied.free_last);
          named = λ j u h. writes u.name ∙ named_now (nat_eq k j) j u refl (sym (reads j) ∙ h);
          slotted = λ n j h. slotted_now (same_name name n) n j refl reads (sym (writes n) ∙ h);
        }
      where
        named_now : (b : Bool) (j : ℕ) (u : Used) → nat_eq k j ≡ b → cond
            b (Some (Some (let v : Used = record { name = name; stg = stg } in v))) (lookup (nat_eq j) es) ≡ Some
            (Some u) → cond (same_name name u.name) (Some k) (lookup (by_name u.name) ns) ≡ Some j
        named_now true j u e h = grind (arith, same_name-from, eqb-true)
        named_now false j u e h = grind (arith, same_name-sym)

        slotted_now : (b : Bool) (n : Name16) (j : ℕ) → same_name name n ≡ b → Reads es k
            (Some (record { name = name; stg = stg })) fs → cond b (Some k) (lookup (by_name n) ns) ≡ Some j
            → (s : ℕ) × (lookup (nat_eq j) fs ≡ Some (Some (record { name = n; stg = s })))
        slotted_now true n j e reads h =
            let same : k ≡ j = cc in (
              stg,
              reads j ∙ rw (eq-eqb k j same) (ap (λ (m : Name16). Some (Some
                  (let v : Used = record { name = m; stg = stg } in v))) (same_name-eq name n e)),
            )
        slotted_now false n j e reads h =
            let found = tied.slotted n j h in
            let other : nat_eq k j ≡ false = sym (of j (record { name = n; stg = found.0 }) found.1)
            ∙ same_name-sym n name ∙ e in
            (found.0, reads j ∙ rw other found.1)

    pub removed_tied : fs ≡ remove_entry (nat_eq k) es ++ (k, None) ∷ [] → WritesName ns name None ms → IsTied fs ms cap
    removed_tied is writes =
        let reads : Reads es k None fs = λ q. ap (lookup (nat_eq q)) is ∙ reads_back es k None tied.unique q in
        record {
          full = grind (arith, length-append, shorter);
          unique = unique;
          free_last = grind (arith, ends_push, ends_removed);
          named = λ j u h. writes u.name ∙ named_now (nat_eq k j) j u refl (sym (reads j) ∙ h);
          slotted = λ n j h. slotted_now (same_name name n) n j refl reads (sym (writes n) ∙ h);
        }
      where
        named_now : (b : Bool) (j : ℕ) (u : Used) → nat_eq k j ≡ b → cond b (Some None) (lookup (nat_eq j) es) ≡ Some
            (Some u) → cond (same_name name u.name) None (lookup (by_name u.name) ns) ≡ Some j
        named_now true j u e h = absurd (cc)
        named_now false j u e h = grind (arith, same_name-sym)

        slotted_now : (b : Bool) (n : Name16) (j : ℕ) → same_name name n ≡ b → Reads es k None fs
            → cond b None (lookup (by_name n) ns) ≡ Some j
            → (s : ℕ) × (lookup (nat_eq j) fs ≡ Some (Some (record { name = n; stg = s })))
        slotted_now true n j e reads h = absurd (cc)
        slotted_now false n j e reads h =
            let found = tied.slotted n j h in
            let other : nat_eq k j ≡ false = sym (of j (record { name = n; stg = found.0 }) found.1)
            ∙ same_name-sym n name ∙ e in
            (found.0, reads j ∙ rw other found.1)

-- ---- the order

tells : Name16 → (ℕ → Bool) → ℕ → Option Used → Type 0
tells name t j None = Unit {0}
tells name t j (Some u) = (same_name u.name name) ≡ t j

Tells : Name16 → (ℕ → Bool) → List (ℕ × Option Used) → Type 0
Tells name t [] = Unit {0}
Tells name t (e ∷ es) = tells name t e.0 e.1 × Tells name t es

tail_unique : (e : ℕ × Option Used) (es : List (ℕ × Option Used)) → IsDistinct nat_eq (keys_of (e ∷ es))
    → IsDistinct nat_eq (keys_of es)
unfolding IsDistinct
tail_unique e es u = u.1

tells_all : (name : Name16) (t : ℕ → Bool) (es : List (ℕ × Option Used)) → IsDistinct nat_eq (keys_of es)
    → ((j : ℕ) (u : Used) → lookup (nat_eq j) es ≡ Some (Some u) → (same_name u.name name) ≡ t j) → Tells name t es
unfolding tells Tells
tells_all name t [] u of = tt
tells_all name t (e ∷ es) u of = (
  here e.1 refl,
  tells_all name t es (tail_unique e es u) (λ j v h. of j v (later (nat_eq j e.0) j v refl h)),
)
  where
    here : (w : Option Used) → e.1 ≡ w → tells name t e.0 w
    here None h = tt
    here (Some v) h = grind arith

    later : (b : Bool) (j : ℕ) (v : Used) → nat_eq j e.0 ≡ b → lookup (nat_eq j) es ≡ Some (Some v)
        → cond b (Some e.1) (lookup (nat_eq j) es) ≡ Some (Some v)
    later true j v g h = absurd (let none : None ≡ Some (Some v) =
        sym (lookup-none (nat_eq j) es (none_past_head nat_eq_equiv j e es u g)) ∙ h in cc)
    later false j v g h = h

no_name : (name : Name16) (es : List (ℕ × Option Used)) → Tells name (λ j. false) es
    → has_name name (used_in es) ≡ false
unfolding tells Tells
no_name name [] t = refl
no_name name (e ∷ es) t = grind (arith, tells, no_name name es t.1)

kept_all : (name : Name16) (k : ℕ) (es : List (ℕ × Option Used)) → NonePasses (nat_eq k) es → Tells name (nat_eq k) es
    → order_without name (used_in es) ≡ used_in es
unfolding tells Tells
kept_all name k [] none t = refl
kept_all name k (e ∷ es) none t = grind (arith, tells, kept_all name k es none.1 t.1)

keeps : (name : Name16) (es : List (ℕ × Option Used)) → Tells name (λ j. false) es
    → order_without name (used_in es) ≡ used_in es
unfolding tells Tells
keeps name [] t = refl
keeps name (e ∷ es) t = grind (arith, tells, keeps name es t.1)

used_removed : (name : Name16) (k : ℕ) (es : List (ℕ × Option Used)) → IsDistinct nat_eq (keys_of es)
    → Tells name (nat_eq k) es → used_in (remove_entry (nat_eq k) es) ≡ order_without name (used_in es)
unfolding tells Tells
used_removed name k [] u t = refl
used_removed name k (e ∷ es) u t = go (nat_eq k e.0) e.1 refl t.0 (used_removed name k es (tail_unique e es u) t.1)
    (λ h. kept_all name k es (none_past_head nat_eq_equiv k e es u h) t.1)
  where
    go : (b : Bool) (w : Option Used) → nat_eq k e.0 ≡ b → tells name (nat_eq k) e.0 w
        → used_in (remove_entry (nat_eq k) es) ≡ order_without name (used_in es)
        → (nat_eq k e.0 ≡ true → order_without name (used_in es) ≡ used_in es)
        → used_in (cond b es ((e.0, w) ∷ remove_entry (nat_eq k) es)) ≡ order_without name (cons_option w (used_in es))
    go true None h t ih rest = sym (rest h)
    go true (Some v) h t ih rest = rw (t ∙ h) (sym (rest h))
    go false None h t ih rest = ih
    go false (Some v) h t ih rest = rw (t ∙ h) (ap (λ l. v ∷ l) ih)

-- from the least recently used
used_back : (es : List (ℕ × Option Used)) → used_in (reverse es) ≡ reverse (used_in es)
used_back [] = refl
used_back (e ∷ es) = ap used_in (reverse-append (e ∷ []) es)
    ∙ filter_map-append (λ x. x.1) (reverse es) (e ∷ []) ∙ ap (λ l. l ++ used_in (e ∷ [])) (used_back es) ∙ go e.1
  where
    go : (w : Option Used) → reverse (used_in es) ++ cons_option w [] ≡ reverse (cons_option w (used_in es))
    go None = append-nil (reverse (used_in es))
    go (Some u) = sym (reverse-append (u ∷ []) (used_in es))

without_back : (name : Name16) (us : List Used) → order_without name (reverse us) ≡ reverse (order_without name us)
without_back name [] = refl
without_back name (u ∷ us) = ap (order_without name) (reverse-append (u ∷ []) us)
    ∙ filter-append (λ v. not (same_name v.name name)) (reverse us) (u ∷ [])
    ∙ ap (λ l. l ++ order_without name (u ∷ [])) (without_back name us) ∙ go (not (same_name u.name name))
  where
    go : (b : Bool) → reverse (order_without name us) ++ cond b (u ∷ []) []
        ≡ reverse (cond b (u ∷ order_without name us) (order_without name us))
    go true = sym (reverse-append (u ∷ []) (order_without name us))
    go false = append-nil (reverse (order_without name us))

module _ (es : List (ℕ × Option Used)) (ns : List (List ℕ × ℕ)) (cap : ℕ) (tied : IsTied es ns cap)
    (name : Name16) (k : ℕ) (of : IsSlotOf es name k) (fs : List (ℕ × Option Used)) where
  rest_order : used_in (reverse (remove_entry (nat_eq k) es)) ≡ order_without name (used_in (reverse es))
  rest_order = grind (arith, used_back, used_removed, tells_all, without_back)

  pub touched_order : (stg : ℕ) → fs ≡ (k, Some (record { name = name; stg = stg })) ∷ remove_entry (nat_eq k) es
      → used_in (reverse fs) ≡ order_touched name stg (used_in (reverse es))
  touched_order stg is = ap (λ l. used_in (reverse l)) is ∙ ap used_in (reverse-append ((
    k,
    Some (let v : Used = record { name = name; stg = stg } in v),
  ) ∷ []) (remove_entry (nat_eq k) es)) ∙ filter_map-append (λ x. x.1) (reverse (remove_entry (nat_eq k) es)) ((
    k,
    Some (let v : Used = record { name = name; stg = stg }
        in v),
  ) ∷ []) ∙ ap (λ l. l ++ (let v : Used = record { name = name; stg = stg } in v) ∷ []) rest_order

  pub removed_order : fs ≡ remove_entry (nat_eq k) es ++ (k, None) ∷ []
      → used_in (reverse fs) ≡ order_without name (used_in (reverse es))
  removed_order is = grind (arith, reverse-append, rest_order)

-- ---- a free slot

last_later : (e x : ℕ × Option Used) (xs : List (ℕ × Option Used)) → last_entry (e ∷ x ∷ xs) ≡ last_entry (x ∷ xs)
last_later e x xs = grind arith

all_free : (es : List (ℕ × Option Used)) (k : ℕ) (w : Option Used) → IsFree es → last_entry es ≡ Some (k, w) → w ≡ None
all_free [] k w free h = absurd (cc)
all_free (e ∷ []) k w free h = grind arith
all_free (e ∷ x ∷ xs) k w free h = all_free (x ∷ xs) k w free.1 (sym (last_later e x xs) ∙ h)

pub last_free : (es : List (ℕ × Option Used)) (k : ℕ) (w : Option Used) → EndsFree es → length (used_in es) < length es
    → last_entry es ≡ Some (k, w) → w ≡ None
last_free [] k w free h l = absurd (omega arith)
last_free (e ∷ es) k w free h l = go e.1 refl free h (λ f g m. last_free es k w f g m)
  where
    later : (v : Used) (xs : List (ℕ × Option Used)) → suc (length (used_in xs)) < suc (length xs)
        → last_entry ((e.0, Some v) ∷ xs) ≡ Some (k, w) → last_entry xs ≡ Some (k, w)
    later v [] g m = absurd (omega arith)
    later v (x ∷ xs) g m = sym (last_later (e.0, Some v) x xs) ∙ m

    go : (o : Option Used) → e.1 ≡ o → ends_free o (IsFree es) (EndsFree es)
        → length (cons_option o (used_in es)) < suc (length es)
        → (EndsFree es → length (used_in es) < length es → last_entry es ≡ Some (k, w) → w ≡ None) → w ≡ None
    go None o f g ih = all_free (e ∷ es) k w (o, f) l
    go (Some v) o f g ih = grind (arith, later)

pub free_found : (es : List (ℕ × Option Used)) (k : ℕ) (w : Option Used) → IsDistinct nat_eq (keys_of es) → EndsFree es
    → length (used_in es) < length es → last_entry es ≡ Some (k, w) → lookup (nat_eq k) es ≡ Some None
free_found es k w u free h l =
    lookup_from_place nat_eq_equiv es (length es - 1) k w u l ∙ ap Some (last_free es k w free h l)

pub not_empty : (es : List (ℕ × Option Used)) → 0 < length es → last_entry es ≢ None
not_empty [] h e = absurd (omega arith)
not_empty (x ∷ xs) h e = absurd (let there : last_entry (x ∷ xs) ≡ Some (get_or (x ∷ xs) (length (x ∷ xs) - 1) x)
    = slice_get-get_or (x ∷ xs) (length (x ∷ xs) - 1) x (omega arith) in cc)

-- how many names there are
used_length : (es : List (ℕ × Option Used)) → length (used_in (reverse es)) ≡ length (used_in es)
used_length es = ap length (used_back es) ∙ length-reverse (used_in es)

-- there is a place for a name that isn't there
pub place_for : (es : List (ℕ × Option Used)) (ns : List (List ℕ × ℕ)) (cap : ℕ) (name : Name16) → IsTied es ns cap
    → (has_name name (used_in (reverse es)) ≡ false → length (used_in (reverse es)) < cap)
    → lookup (by_name name) ns ≡ None → length (used_in es) < cap
place_for es ns cap name tied place none =
    let told = tells_all name (λ j. false) es tied.unique (λ j u h. same_name-ne u.name name (grind arith)) in
    let missing : has_name name (used_in (reverse es)) ≡ false
    = ap (has_name name) (used_back es) ∙ sym (list_any-IsPermutation (λ u. same_name u.name name)
    (used_in es) (reverse (used_in es)) (IsPermutation-reverse (used_in es))) ∙ no_name name es told in
    omega (arith, place missing, used_length es)

-- nothing goes where the name isn't there
pub none_order : (es : List (ℕ × Option Used)) (ns : List (List ℕ × ℕ)) (cap : ℕ) (name : Name16) → IsTied es ns cap
    → lookup (by_name name) ns ≡ None → used_in (reverse es) ≡ order_without name (used_in (reverse es))
none_order es ns cap name tied none = grind (arith, tells_all, same_name-ne, used_back, keeps, without_back)

pub put_written : (r : Result (Option (Option Used)) (AllocFailed (ℕ × Option Used)))
    (es : List (ℕ × Option Used)) (cap k : ℕ) (w : Option Used) (fs : LruCache ℕ (Option Used))
    → IsSome (lookup (nat_eq k) es) → (IsSome (lookup (nat_eq k) es) → IsOk r) → OnOk r (fs ≡ lru_cache
    (put_entries nat_eq (lru_cache es cap) k w) cap) → fs.entries ≡ (k, w) ∷ remove_entry (nat_eq k) es
put_written (Ok x) es cap k w fs some ok on = ap (λ c. c.entries) on ∙ (grind (arith, entry_there))
put_written (Err x) es cap k w fs some ok on = absurd (false≢true (ok some))

-- ---- slots that are all free

missing : (b : Bool) (x : ℕ × Option Used) (o : Option (Option Used)) (f : Option (ℕ × Option Used))
    → cond b (Some x.1) o ≡ None → (o ≡ None → f ≡ None) → cond b (Some x) f ≡ None
missing true x o f h ih = absurd (cc)
missing false x o f h ih = ih h

neither : (v : Used) (b : Bool) (w : Option Used) (o : Option (Option Used))
    → w ≡ None → cond b (Some w) o ≡ Some (Some v) → (o ≡ Some (Some v) → ⊥) → ⊥
neither v true w o n h ih = absurd (cc)
neither v false w o n h ih = ih h

pub put_missing : (es : List (ℕ × Option Used)) (most k : ℕ) (w : Option Used)
    → lookup (nat_eq k) es ≡ None → length es < most → put_entries nat_eq (lru_cache es most) k w ≡ (k, w) ∷ es
put_missing es most k w none lt = rw (no_entry es none) (ap (λ l. (k, w) ∷ l) (take_all (most - 1) es (omega arith)))
  where
    no_entry : (xs : List (ℕ × Option Used)) → lookup (nat_eq k) xs ≡ None → lookup_entry (nat_eq k) xs ≡ None
    no_entry [] h = refl
    no_entry (x ∷ xs) h = missing (nat_eq k x.0) x (lookup (nat_eq k) xs) (lookup_entry (nat_eq k) xs) h (no_entry xs)

pub free_tied : (es : List (ℕ × Option Used)) (ns : List (List ℕ × ℕ)) (cap : ℕ)
    → IsFree es → length es ≡ cap → IsDistinct nat_eq (keys_of es) → ns ≡ [] → IsTied es ns cap
free_tied es ns cap free full u none = grind (arith, free_ends, never)
  where
    never : (k : ℕ) (v : Used) (xs : List (ℕ × Option Used)) → IsFree xs → lookup (nat_eq k) xs ≡ Some (Some v) → ⊥
    never k v [] f h = absurd (cc)
    never k v (x ∷ xs) f h = neither v (nat_eq k x.0) x.1 (lookup (nat_eq k) xs) f.0 h (never k v xs f.1)

pub free_order : (es : List (ℕ × Option Used)) → IsFree es → used_in (reverse es) ≡ []
free_order es free = used_back es ∙ ap reverse (nothing es free)
  where
    nothing : (xs : List (ℕ × Option Used)) → IsFree xs → used_in xs ≡ []
    nothing [] f = refl
    nothing (x ∷ xs) f = ap (λ w. cons_option w (used_in xs)) f.0 ∙ nothing xs f.1

-- ---- a part of the order

pub used_part : (stg : ℕ) (own : Bool) (es : List (ℕ × Option Used))
    → filter_map (λ (e : ℕ × Option Used). part_of stg own e.1) es ≡ filter (is_in_part stg own) (used_in es)
used_part stg own [] = refl
used_part stg own (e ∷ es) = grind (arith, used_part stg own es)

-- ---- a copy, from the back

-- the last of what is left goes to the front of what is copied
pub seam_moved : (left rest done next whole : List (ℕ × Option Used)) (e : ℕ × Option Used) → left ≡ rest ++ e ∷ []
    → next ≡ e ∷ done → left ++ done ≡ whole → rest ++ next ≡ whole
seam_moved left rest done next whole e taken put seam = grind (arith, append_assoc)

pub apart_behind : (front : List (ℕ × Option Used)) (e : ℕ × Option Used) (back : List (ℕ × Option Used))
    → IsDistinct nat_eq (keys_of (front ++ e ∷ back)) → lookup (nat_eq e.0) back ≡ None
apart_behind [] e back u = lookup-none (nat_eq e.0) back
    (none_past_head nat_eq_equiv e.0 e back u (nat_eq_equiv.refl e.0))
apart_behind (x ∷ front) e back u = apart_behind front e back (tail_unique x (front ++ e ∷ back) u)

-- the next one isn't copied yet, and there is a place for it
pub copy_missing : (left rest done whole : List (ℕ × Option Used)) (e : ℕ × Option Used) → left ≡ rest ++ e ∷ []
    → left ++ done ≡ whole → IsDistinct nat_eq (keys_of whole) → lookup (nat_eq e.0) done ≡ None
copy_missing left rest done whole e taken seam u = apart_behind rest e done (subst
    (λ l. IsDistinct nat_eq (keys_of l)) (sym (seam_moved left rest done (e ∷ done) whole e taken refl seam)) u)

pub copy_place : (left rest done whole : List (ℕ × Option Used)) (e : ℕ × Option Used) (most : ℕ)
    → left ≡ rest ++ e ∷ [] → left ++ done ≡ whole → length whole ≡ most → length done < most
copy_place left rest done whole e most taken seam full = grind (arith, seam_moved, length-append)

pub copy_whole : (left done whole : List (ℕ × Option Used)) → left ≡ [] → left ++ done ≡ whole → done ≡ whole
copy_whole left done whole none seam = ap (λ l. l ++ done) (sym none) ∙ seam
