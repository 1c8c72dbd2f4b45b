-- The entries of a map by connector and resource, in order.
use Rattle.lock_record.proofs.Imports.{arith, ◌≡◌, ℕ, ◌+◌, Bool, true, false, not, ◌&&◌, cond, List, [], ◌∷◌, Option, Some, None, is_some, option_map, length, filter, find, map, refl, sym, ap, ◌∙◌, subst, nat_eq, option_to_list, IsDistinct, keys_of, lookup, IsEquivalence, and_equiv, on_equiv, nat_list_eq_equiv, false≢true, length-map, lookup-none, none_past_head, ConnId, Part, same_part, same_part-eq, same_part-refl, insertion, pairwise, filter_all, filter_absorbed, filter-filter, filter_nothing, filter_swap, any_is_found, all_from_none, list_all_always, list_all_weaker, map-filtered, filter-insertion_out, length_without, pairwise-filter, pairwise-insertion, pairwise-insertion_any, arranged, in_turn, arranged_in_turn, keyed-arranged, arranged-filter, ordered_filters, length_arranged, Record, Key, key_eq, key_of, part_at, recorded, records_in, Writes, is_of, record_of, has_record, part_of, part_before, records_with, records_without, records_without_conn, are_apart, AreRecords}
use Rattle.lock_record.proofs.{PartLaws.part_order, RecordLaws.apart_both, RecordLaws.finds_place}

-- ---- keys

pub key_laws : IsEquivalence key_eq
key_laws = and_equiv (grind arith) (on_equiv (λ (x : Key). x.1) nat_list_eq_equiv)

-- an entry is of a part where their keys are equal
keyed_same : (k : Key) (p : Part) → same_part (part_at k) p ≡ key_eq k (key_of p)
keyed_same k p = grind arith

parts_same : (p k : Part) → same_part p k ≡ key_eq (key_of p) (key_of k)
parts_same p k = grind arith

-- ---- the entries of a part

abbrev made : Part → List ℕ → Record
made p rec = record { r = p.0; conn = p.1; rec = rec }

abbrev is_at : Part → Record → Bool
is_at p x = same_part (part_of x) p

tail_unique : (e : Key × List ℕ) (es : List (Key × List ℕ)) → IsDistinct key_eq (keys_of (e ∷ es))
    → IsDistinct key_eq (keys_of es)
unfolding IsDistinct
tail_unique e es u = u.1

-- those of a part are the one that is looked up
entries_at : (es : List (Key × List ℕ)) → IsDistinct key_eq (keys_of es) → (p : Part)
    → filter (is_at p) (map recorded es) ≡ option_to_list (option_map (made p) (lookup (key_eq (key_of p)) es))
entries_at [] u p = refl
entries_at (e ∷ es) u p = go (key_eq (key_of p) e.0) refl (entries_at es (tail_unique e es u) p)
  where
    go : (b : Bool) → key_eq (key_of p) e.0 ≡ b → filter (is_at p) (map recorded es) ≡ option_to_list (option_map
        (made p) (lookup (key_eq (key_of p)) es)) → filter (is_at p) (map recorded (e ∷ es)) ≡ option_to_list
        (option_map (made p) (cond (key_eq (key_of p) e.0) (Some e.1) (lookup (key_eq (key_of p)) es)))
    go true h ih =
        let here : is_at p (recorded e) ≡ true = keyed_same e.0 p ∙ key_laws.symm e.0 (key_of p) ∙ h in
        let none : lookup (key_eq (key_of p)) es ≡ None = lookup-none (key_eq (key_of p)) es
        (none_past_head key_laws (key_of p) e es u h) in
        let it : recorded e ≡ made p e.1 = ap (λ (k : Part). made k e.1) (same_part-eq (part_at e.0) p here) in
        let rest : filter (is_at p) (map recorded es) ≡ [] = grind arith in
        rw (here, h, rest) (ap (λ (x : Record). x ∷ []) it)
    go false h ih =
        let here : is_at p (recorded e) ≡ false = keyed_same e.0 p ∙ key_laws.symm e.0 (key_of p) ∙ h in
        rw (here, h) ih

abbrev at_slot : Part → ℕ
at_slot p = 0

-- and so in order
pub records_at : (es : List (Key × List ℕ)) → IsDistinct key_eq (keys_of es) → (p : Part)
    → filter (is_at p) (records_in es) ≡ option_to_list (option_map (made p) (lookup (key_eq (key_of p)) es))
records_at es u p =
    keyed-arranged part_of same_part part_before at_slot part_order p (map recorded es) ∙ entries_at es u p

pub in_order_in : (es : List (Key × List ℕ)) → pairwise (in_turn part_of part_before) (records_in es) ≡ true
in_order_in es = arranged_in_turn part_of same_part part_before at_slot part_order (map recorded es)

-- two lists in order are equal where the parts have the same
same_records : (xs ys : List Record) → pairwise (in_turn part_of part_before) xs ≡ true → pairwise
    (in_turn part_of part_before) ys ≡ true → ((p : Part) → filter (is_at p) xs ≡ filter (is_at p) ys) → xs ≡ ys
same_records xs ys h g f = ordered_filters part_of same_part (λ x y. part_before (part_of x) (part_of y))
    part_order.itself (λ x y. part_order.ties (part_of x) (part_of y)) xs ys h g f

-- ---- one part more, or less

alone : (q b : Record → Bool) (x : Record) (xs : List Record) → q x ≡ true → filter q xs ≡ []
    → filter q (insertion b x xs) ≡ x ∷ []
alone q b x [] e none = rw e refl
alone q b x (y ∷ ys) e none = grind (arith, alone q b x ys e)

-- what is left without a part
without_here : (p : Part) (xs : List Record) → filter (is_at p) (filter (λ x. not (is_at p x)) xs) ≡ []
without_here p xs = filter-filter (is_at p) (λ x. not (is_at p x)) xs
    ∙ ap (λ (q : Record → Bool). filter q xs) (λ i x. both (is_at p x) i) ∙ filter_nothing xs
  where
    both : (b : Bool) → not b && b ≡ false
    both b = grind arith

without_there : (p k : Part) (xs : List Record) → same_part p k ≡ false
    → filter (is_at k) (filter (λ x. not (is_at p x)) xs) ≡ filter (is_at k) xs
without_there p k xs apart = filter_swap _ (λ x. not (is_at p x)) _
    ∙ filter_absorbed (λ x. not (is_at p x)) _ (λ x e. ap not (other x e (is_at p x) refl)) _
  where
    other : (x : Record) → is_at k x ≡ true → (b : Bool) → is_at p x ≡ b → b ≡ false
    other x e false f = refl
    other x e true f = absurd (false≢true (sym apart ∙ subst (λ j. same_part j k ≡ true) (same_part-eq _ p f) e))

written : (p k : Part) (b : Bool) (w o : Option (List ℕ)) → key_eq (key_of p) (key_of k) ≡ b
    → cond (key_eq (key_of p) (key_of k)) w o ≡ cond b w o
written p k b w o e = ap (λ (t : Bool). cond t w o) e

pub put_records : (es fs : List (Key × List ℕ)) (p : Part) (rec : List ℕ) → IsDistinct key_eq (keys_of es)
    → IsDistinct key_eq (keys_of fs) → Writes es p (Some rec) fs
    → records_in fs ≡ records_with (made p rec) (records_in es)
put_records es fs p rec u v writes = same_records (records_in fs) (records_with (made p rec) (records_in es))
    (in_order_in fs) (pairwise-insertion (in_turn part_of part_before) (λ y. part_before (part_of y) p)
    (λ y. true) (made p rec) rest (finds_place (made p rec)) (list_all_always (λ y. true) (λ y. refl) rest)
    (grind (arith, pairwise-filter, in_order_in))) (grind (arith, by_part))
  where
    rest : List Record
    rest = filter (λ x. not (is_at p x)) (records_in es)

    by_part : (k : Part) (b : Bool) → key_eq (key_of p) (key_of k) ≡ b → filter (is_at k)
        (records_in fs) ≡ filter (is_at k) (insertion (λ y. part_before (part_of y) p) (made p rec) rest)
    by_part k true e =
        let same : p ≡ k = same_part-eq p k (parts_same p k ∙ e) in
        let left = records_at fs v k ∙ ap (λ (o : Option (List ℕ)). option_to_list (option_map (made k) o))
        (writes (key_of k) ∙ written p k true (Some rec) (lookup (key_eq (key_of k)) es) e) in
        left ∙ ap (λ (j : Part). made j rec ∷ []) (sym same)
        ∙ sym (grind (arith, alone, rest, parts_same, without_here))
    by_part k false e = grind (arith, records_at, written, filter-insertion_out, rest, parts_same, without_there)

pub removed_records : (es fs : List (Key × List ℕ)) (p : Part) → IsDistinct key_eq (keys_of es)
    → IsDistinct key_eq (keys_of fs) → Writes es p None fs → records_in fs ≡ records_without p.0 p.1 (records_in es)
removed_records es fs p u v writes = grind (arith, same_records, in_order_in, pairwise-filter, by_part)
  where
    by_part : (k : Part) (b : Bool) → key_eq (key_of p) (key_of k) ≡ b
        → filter (is_at k) (records_in fs) ≡ filter (is_at k) (filter (λ x. not (is_at p x)) (records_in es))
    by_part k true e =
        let same : p ≡ k = same_part-eq p k (parts_same p k ∙ e) in
        let left = records_at fs v k ∙ ap (λ (o : Option (List ℕ)). option_to_list (option_map (made k) o))
        (writes (key_of k) ∙ written p k true None (lookup (key_eq (key_of k)) es) e) in
        left ∙ sym (grind (arith, without_here))
    by_part k false e = grind (arith, records_at, written, without_there, parts_same)

-- those of a connector go
pub departed_records : (es fs : List (Key × List ℕ)) (conn : ConnId) → fs ≡ filter (λ e. not (nat_eq e.0.0.0 conn.0)) es
    → records_in fs ≡ records_without_conn conn (records_in es)
departed_records es fs conn is =
    ap records_in is ∙ ap (λ (xs : List Record). arranged part_of part_before xs) (map-filtered
    recorded recorded (λ e. not (nat_eq e.0.0.0 conn.0)) (λ x. not (is_of conn x)) (λ e h. refl) (λ e. refl) es)
    ∙ arranged-filter part_of same_part part_before part_order (λ x. not (is_of conn x)) (map recorded es)

-- ---- what is looked up

abbrev first_of : List Record → Option Record
first_of [] = None
first_of (x ∷ xs) = Some x

found_first : (q : Record → Bool) (xs : List Record) → find q xs ≡ first_of (filter q xs)
found_first q [] = refl
found_first q (x ∷ xs) = grind (arith, found_first q xs)

pub find_in : (es : List (Key × List ℕ)) → IsDistinct key_eq (keys_of es) → (p : Part)
    → find (is_at p) (records_in es) ≡ option_map (made p) (lookup (key_eq (key_of p)) es)
find_in es u p = grind (arith, found_first, records_at)

pub data_of : (p : Part) (o : Option (List ℕ)) → o ≡ option_map (λ (x : Record). x.rec) (option_map (made p) o)
data_of p o = grind arith

pub looked_up : (es : List (Key × List ℕ)) → IsDistinct key_eq (keys_of es) → (p : Part)
    → lookup (key_eq (key_of p)) es ≡ record_of p.0 p.1 (records_in es)
looked_up es u p =
    data_of p (lookup (key_eq (key_of p)) es) ∙ ap (option_map (λ (x : Record). x.rec)) (sym (find_in es u p))

pub looked_there : (es : List (Key × List ℕ)) → IsDistinct key_eq (keys_of es) → (p : Part)
    → is_some (lookup (key_eq (key_of p)) es) ≡ has_record p.0 p.1 (records_in es)
looked_there es u p = (grind arith) ∙ ap is_some (sym (find_in es u p)) ∙ sym (any_is_found (is_at p) (records_in es))

-- ---- how many

pub length_in : (es : List (Key × List ℕ)) → length (records_in es) ≡ length es
length_in es = length_arranged part_of part_before (map recorded es) ∙ length-map es recorded

-- ---- apart

apart_in : (es : List (Key × List ℕ)) → IsDistinct key_eq (keys_of es) → pairwise are_apart (records_in es) ≡ true
unfolding arranged
apart_in [] u = refl
apart_in (e ∷ es) u =
    let none = find_in es (tail_unique e es u) (part_at e.0) ∙ ap (option_map (made (part_at e.0)))
    (lookup-none (key_eq e.0) es (none_past_head key_laws e.0 e es u (key_laws.refl e.0))) in
    pairwise-insertion_any are_apart (λ y. part_before (part_of y) (part_at e.0)) (recorded e) (records_in es)
    (apart_in es (tail_unique e es u)) (list_all_weaker (λ y. not (is_at (part_at e.0) y)) (λ y. are_apart
    (recorded e) y && are_apart y (recorded e)) (apart_both (recorded e)) (records_in es) (all_from_none
    (is_at (part_at e.0)) (records_in es) (any_is_found (is_at (part_at e.0)) (records_in es) ∙ ap is_some none)))

pub records_are : (es : List (Key × List ℕ)) → IsDistinct key_eq (keys_of es) → AreRecords (records_in es)
records_are es u = record { ordered = in_order_in es; one_each = apart_in es u }

nothing_in : records_in [] ≡ []
unfolding arranged
nothing_in = refl

pub records_none : (es : List (Key × List ℕ)) → es ≡ [] → records_in es ≡ []
records_none es none = ap records_in none ∙ nothing_in

pub fewer_by_one : (p : Part) (records : List Record) → AreRecords records → has_record p.0 p.1 records ≡ true
    → length (records_without p.0 p.1 records) + 1 ≡ length records
fewer_by_one p records are there = go (find (is_at p) records) refl
  where
    go : (o : Option Record) → find (is_at p) records ≡ o
        → length (records_without p.0 p.1 records) + 1 ≡ length records
    go None e = absurd (false≢true (sym (any_is_found (is_at p) records ∙ ap is_some e) ∙ there))
    go (Some y) e = length_without part_of same_part same_part-eq same_part-refl p records y are.one_each e

pub as_many : (p : Part) (records : List Record) → has_record p.0 p.1 records ≡ false
    → length (records_without p.0 p.1 records) ≡ length records
as_many p records none = ap length (filter_all (λ x. not (is_at p x)) records (all_from_none (is_at p) records none))

pub there_is : (p : Part) (records : List Record) → is_some (record_of p.0 p.1 records) ≡ has_record p.0 p.1 records
there_is p records = grind (arith, any_is_found)
