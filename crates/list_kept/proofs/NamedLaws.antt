-- The names of records stay right where a record comes, goes or stands in place of another.
use Rattle.list_kept.proofs.Imports.{find-append, ◌≡◌, ℕ, ◌+◌, ◌<◌, Bool, true, false, not, cond, List, [], ◌∷◌, ◌++◌, length, Option, Some, None, find, option_map, is_some, refl, sym, ap, ◌∙◌, subst, arith, IfSome, list_any, and_parts, eqb-true, false≢true, length-map, Name16, EntryId, Name, same_name-eq, same_name-refl, pairwise, none_from_all, list_all_weaker, find_none, found_passes, any_is_found, filter_all, all_from_none, Named, id_of, Key16, all-map, split_found, Record, Lists, record_id, is_id, ids_apart, all_records, records_of, with_records, record_of, records_without, lists_without, lists_replaced, has_name, names_apart, elements_in, elements_of, with_record, with_new_key, IsWith, with-pairwise, with-records, with-insertion, with-push, sum-with, in-found, all-without, names_apart-sym, size, with-without, record_of-at, put_back, is_its, AreNamed, WritesIts, filter-map, one-records, first-all, prefix_len-le-length}
use Rattle.list_kept.proofs.ToldLaws.{told-stands}

-- what is found among records with one more
find_front : (p : Record → Bool) (rec : Record) (front back : List Record) → (p rec ≡ true → list_any
    p (front ++ back) ≡ false) → find p (front ++ rec ∷ back) ≡ cond (p rec) (Some rec) (find p (front ++ back))
find_front p rec front back alone = grind (arith, find-append, any_is_found)

find_with : (p : Record → Bool) (rec : Record) (xs ys : List Record) → IsWith rec xs ys
    → (p rec ≡ true → list_any p xs ≡ false) → find p ys ≡ cond (p rec) (Some rec) (find p xs)
find_with p rec xs ys w alone = grind (arith, find_front)

-- of two records whose names are apart not both have a name
apart_names : (name : Name16) (rec other : Record) → names_apart rec other ≡ true → has_name name rec ≡ true
    → not (has_name name other) ≡ true
apart_names name rec other h e = go rec.name refl h e
  where
    go : (o : Option Name16) → rec.name ≡ o → names_apart rec other ≡ true → has_name name rec ≡ true
        → not (has_name name other) ≡ true
    go None f apart has = absurd (false≢true (sym (rw f refl) ∙ has))
    go (Some own) f apart has =
        let same : own ≡ name = same_name-eq own name (sym (rw f refl) ∙ has) in
        let away : not (has_name own other) ≡ true = sym (rw f refl) ∙ apart in
        subst (λ (n : Name16). not (has_name n other) ≡ true) same away

-- where a record has a name, no other record has it
alone_by : (name : Name16) (rec : Record) (xs ys : List Record) → IsWith rec xs ys → pairwise names_apart ys ≡ true
    → has_name name rec ≡ true → list_any (has_name name) xs ≡ false
alone_by name rec xs ys w h e =
    let apart = with-pairwise names_apart names_apart-sym rec xs ys w h in
    grind (arith, none_from_all, list_all_weaker, apart_names, and_parts)

has_is : (name : Name16) (rec : Record) → has_name name rec ≡ is_its rec.name name
has_is name rec = grind arith

id_with : (name : Name16) (rec : Record) (xs ys : List Record) → IsWith rec xs ys → pairwise names_apart ys ≡ true
    → option_map (λ r. r.id) (find (has_name name) ys)
    ≡ cond (is_its rec.name name) (Some rec.id) (option_map (λ r. r.id) (find (has_name name) xs))
id_with name rec xs ys w h =
    let found = find_with (has_name name) rec xs ys w (alone_by name rec xs ys w h) in grind (arith, has_is)

-- a record more
pub named_more : (names after : Named) (rec : Record) (xs ys : List Record) → IsWith rec xs ys → pairwise
    names_apart ys ≡ true → AreNamed names xs → WritesIts names rec.name (Some rec.id) after → AreNamed after ys
named_more names after rec xs ys w h are writes name = grind (arith, id_with)

-- a record less
pub named_less : (names after : Named) (rec : Record) (xs ys : List Record) → IsWith rec xs ys
    → pairwise names_apart ys ≡ true → AreNamed names ys → WritesIts names rec.name None after → AreNamed after xs
named_less names after rec xs ys w h are writes name = go (is_its rec.name name) refl
  where
    before : id_of name names
        ≡ cond (is_its rec.name name) (Some rec.id) (option_map (λ r. r.id) (find (has_name name) xs))
    before = are name ∙ id_with name rec xs ys w h

    go : (b : Bool) → is_its rec.name name ≡ b → id_of name after ≡ option_map (λ r. r.id) (find (has_name name) xs)
    go true e = writes name ∙ ap (λ b. cond b None (id_of name names)) e ∙ sym (ap (option_map {T = Record}
        {U = EntryId} (λ r. r.id)) (find_none (has_name name) xs (alone_by name rec xs ys w h (has_is name rec ∙ e))))
    go false e = grind (arith, before)

-- a record of the same name and id in place of another
pub named_other : (names : Named) (rec other : Record) (xs ys zs : List Record) → IsWith rec xs ys → IsWith other xs zs
    → pairwise names_apart ys ≡ true → pairwise names_apart zs ≡ true → rec.name ≡ other.name → rec.id ≡ other.id
    → AreNamed names ys → AreNamed names zs
named_other names rec other xs ys zs w v h k same id are name =
    cc (are name, id_with name rec xs ys w h, id_with name other xs zs v k, same, id)

-- a record that comes has a name that nobody has
pub named_new : (names : Named) (rec : Record) (xs ys : List Record) → IsWith rec xs ys → pairwise names_apart ys ≡ true
    → AreNamed names xs → IfSome rec.name (λ name. id_of name names ≡ None)
named_new names rec xs ys w h are = go rec.name refl
  where
    go : (o : Option Name16) → rec.name ≡ o → IfSome o (λ name. id_of name names ≡ None)
    go None e = tt
    go (Some name) e =
        let its : has_name name rec ≡ true = grind (arith, has_is, same_name-refl) in
        are name ∙ ap (option_map {T = Record} {U = EntryId} (λ r. r.id))
        (find_none (has_name name) xs (alone_by name rec xs ys w h its))

-- ---- all records, with one more or less

pub same_id : (id : EntryId) (rec : Record) → is_id id rec ≡ true → id ≡ rec.id
same_id id rec e = grind (arith, eqb-true)

-- the record with an id is taken out
pub taken : (id : EntryId) (lists : Lists) (rec : Record) → pairwise ids_apart (all_records lists) ≡ true
    → record_of id lists ≡ Some rec → IsWith rec (all_records (lists_without id lists)) (all_records lists)
taken id lists rec apart e = grind (arith, same_id, found_passes, IsWith, all-without, with-without, in-found)

-- a record comes to its place
pub came : (head : Bool) (header : ℕ) (rec : Record) (lists : Lists) → header < length lists
    → IsWith rec (all_records lists) (all_records (with_record head header rec lists))
came head header rec lists lt = grind (arith, with-records, with-insertion)

pub came_last : (header : ℕ) (rec : Record) (lists : Lists) → header < length lists
    → IsWith rec (all_records lists) (all_records (with_records lists header (records_of lists header ++ rec ∷ [])))
came_last header rec lists lt = grind (arith, with-records, with-push)

-- one that was taken out comes to its place
pub came_back : (head : Bool) (header : ℕ) (key : Option Key16) (id : EntryId) (rec : Record) (lists : Lists)
    → header < length lists → record_of id lists ≡ Some rec → IsWith (with_new_key key rec) (all_records
    (lists_without id lists)) (all_records (put_back head header key (record_of id lists) (lists_without id lists)))
came_back head header key id rec lists lt e = grind (arith, IsWith, came, length-map)

-- a record stands in place of another
pub record IsReplaced (lists : Lists) (old rec : Record) : Type 0 where
  pub others : List Record
  pub before : IsWith old others (all_records lists)
  pub after : IsWith rec others (all_records (lists_replaced rec lists))

pub replaced : (lists : Lists) (old rec : Record) → pairwise ids_apart (all_records lists) ≡ true
    → record_of rec.id lists ≡ Some old → IsReplaced lists old rec
replaced lists old rec apart e =
    let s = split_found record_id rec.id.0 (all_records lists) old apart e in
    record {
      others = s.front ++ s.back;
      before = record { front = s.front; back = s.back; was = refl; is = s.whole };
      after = grind (arith, all-map);
    }

-- a record that is there is found
pub some_found : (id : EntryId) (lists : Lists) → list_any (is_id id) (all_records lists) ≡ true
    → (rec : Record) × (record_of id lists ≡ Some rec)
some_found id lists h = go (record_of id lists) refl
  where
    go : (o : Option Record) → record_of id lists ≡ o → (rec : Record) × (record_of id lists ≡ Some rec)
    go None e = grind (arith, false≢true, any_is_found)
    go (Some rec) e = (rec, e)

pub elements_with : (rec : Record) (xs ys : List Record) → IsWith rec xs ys
    → elements_in ys ≡ elements_in xs + elements_of rec.body
elements_with rec xs ys w = sum-with size rec xs ys w

-- ---- what the names and the count tell

pub named_found : (names : Named) (lists : Lists) (name : Name16) (id : EntryId)
    → pairwise ids_apart (all_records lists) ≡ true → AreNamed names (all_records lists)
    → id_of name names ≡ Some id → record_of id lists ≡ find (has_name name) (all_records lists)
named_found names lists name id apart are e = go (find (has_name name) (all_records lists)) refl
  where
    go : (o : Option Record) → find (has_name name) (all_records lists) ≡ o
        → record_of id lists ≡ find (has_name name) (all_records lists)
    go None f = grind arith
    go (Some rec) f = let found = record_of-at lists (Name name) rec apart f in grind arith

pub elements_found : (id : EntryId) (lists : Lists) (rec : Record) → pairwise ids_apart (all_records lists) ≡ true
    → record_of id lists ≡ Some rec
    → elements_in (all_records lists) ≡ elements_in (records_without id (all_records lists)) + elements_of rec.body
elements_found id lists rec apart e = elements_with rec (all_records (lists_without id lists)) (all_records lists)
    (grind (arith, taken)) ∙ ap (λ (l : List Record). elements_in l + elements_of rec.body) (all-without id lists)

pub elements_absent : (id : EntryId) (lists : Lists) → record_of id lists ≡ None
    → elements_in (records_without id (all_records lists)) ≡ elements_in (all_records lists)
elements_absent id lists e =
    let all = all_records lists in
    ap elements_in (filter_all (λ rec. not (is_id id rec)) all
    (all_from_none (is_id id) all (any_is_found (is_id id) all ∙ ap is_some e)))

-- what the store tells of a list
pub ruleset kept_told = (told-stands, one-records, first-all, false≢true)

pub ruleset fewer = (length-map, filter-map, prefix_len-le-length)
