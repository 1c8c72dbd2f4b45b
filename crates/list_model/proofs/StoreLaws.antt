-- What an engine over a store of records goes by: the record that is named by its id, where a record comes to stand,
-- which headers have records then, and how many records and elements there are.
use Rattle.list_model.proofs.Imports.{list_any-append, get_or-set_other, list_of-get_or, ◌≡◌, ℕ, zero, suc, ◌==◌, Bool, true, false, not, List, [], ◌∷◌, ◌++◌, Option, Some, None, length, find, map, position, refl, sym, ap, ◌∙◌, arith, list_all, list_any, prefix_len, and_parts, false≢true, nat_tests, length-map, Caps, At, EntryId, Shape, pairwise, none_from_all, list_all_weaker, filter_all, all_from_none, any_is_placed, insert-prefix_len, Record, Spot, Lists, records_of, with_records, all_records, is_id, has_id, record_of, spot_in, spot_of, records_without, lists_without, lists_with, replaced_by, lists_replaced, ids_apart, none_behind, pairwise_back, once, record_at, stands_before, with_record, Content, IsContent, has_records}
use Rattle.list_model.specs.Commands.Write as write
use Rattle.list_model.proofs.ContentLaws.{record_at-in}
use Rattle.list_model.proofs.{RecordLaws.is_id-refl, RecordLaws.ids_apart-sym, ListLaws.with-pairwise, ListLaws.IsIn}

-- ---- the record that is named, by its id

find_front : (p : Record → Bool) (rec : Record) (front back : List Record) → list_all
    (λ other. not (p other)) (front ++ back) ≡ true → p rec ≡ true → find p (front ++ rec ∷ back) ≡ Some rec
find_front p rec [] back h e = rw e refl
find_front p rec (other ∷ front) back h e = grind (arith, and_parts, find_front p rec front back)

pub found-in : (rec : Record) (all : List Record) → IsIn rec all → pairwise ids_apart all ≡ true
    → find (is_id rec.id) all ≡ Some rec
found-in rec all i h =
    let w = i.with_it in
    let apart = with-pairwise ids_apart ids_apart-sym rec i.others all w h in
    grind (arith, find_front, list_all_weaker, and_parts, is_id-refl)

-- the record that is named is the one of its id
pub record_of-at : (lists : Lists) (at : At) (rec : Record) → pairwise ids_apart (all_records lists) ≡ true
    → record_at lists at ≡ Some rec → record_of rec.id lists ≡ Some rec
record_of-at lists at rec apart h = found-in rec (all_records lists) (record_at-in lists at rec h) apart

-- ---- headers

pub records-elsewhere : (lists : Lists) (header other : ℕ) (records : List Record) → (header == other) ≡ false
    → records_of (with_records lists header records) other ≡ records_of lists other
records-elsewhere lists header other records h = grind (arith, list_of-get_or, get_or-set_other, nat_tests)

pub records-without : (id : EntryId) (lists : Lists) (header : ℕ)
    → records_of (lists_without id lists) header ≡ records_without id (records_of lists header)
records-without id [] header = refl
records-without id (first ∷ lists) zero = refl
records-without id (first ∷ lists) (suc header) = records-without id lists header

pub records-replaced : (rec : Record) (lists : Lists) (header : ℕ)
    → records_of (lists_replaced rec lists) header ≡ map (replaced_by rec) (records_of lists header)
records-replaced rec [] header = refl
records-replaced rec (first ∷ lists) zero = refl
records-replaced rec (first ∷ lists) (suc header) = records-replaced rec lists header

-- ---- which headers have records

pub full-elsewhere : (head : Bool) (header other : ℕ) (rec : Record) (lists : Lists) → (header == other) ≡ false
    → has_records (with_record head header rec lists) other ≡ has_records lists other
full-elsewhere head header other rec lists h = grind (arith, records-elsewhere)

pub full-replaced : (rec : Record) (lists : Lists) (header : ℕ)
    → has_records (lists_replaced rec lists) header ≡ has_records lists header
full-replaced rec lists header = ap (λ (l : List Record). not (length l == 0)) (records-replaced rec lists header)
    ∙ ap (λ (n : ℕ). not (n == 0)) (length-map (records_of lists header) (replaced_by rec))

pub full-absent : (id : EntryId) (lists : Lists) (header : ℕ) → has_id id (records_of lists header) ≡ false
    → has_records (lists_without id lists) header ≡ has_records lists header
full-absent id lists header h =
    let records = records_of lists header in
    ap (λ (l : List Record). not (length l == 0)) (records-without id lists header
    ∙ filter_all (λ rec. not (is_id id rec)) records (all_from_none (is_id id) records h))

-- ---- a record is in one header alone

-- what a header has all have
pub any-header : (p : Record → Bool) (lists : Lists) (header : ℕ) → list_any p (records_of lists header) ≡ true
    → list_any p (all_records lists) ≡ true
any-header p [] header h = absurd (false≢true h)
any-header p (first ∷ lists) zero h = grind (arith, list_any-append)
any-header p (first ∷ lists) (suc header) h = grind (arith, list_any-append, any-header p lists header)

is_false : (b : Bool) → (b ≡ true → ⊥) → b ≡ false
is_false true h = absurd (h refl)
is_false false h = refl

pub one-header : (id : EntryId) (lists : Lists) (a b : ℕ) → pairwise ids_apart (all_records lists) ≡ true
    → (a == b) ≡ false → has_id id (records_of lists a) ≡ true → has_id id (records_of lists b) ≡ false
one-header id [] a b apart e h = refl
one-header id (first ∷ lists) (suc a) (suc b) apart e h =
    one-header id lists a b (pairwise_back ids_apart first (all_records lists) apart) (grind (arith, nat_tests)) h
one-header id (first ∷ lists) zero zero apart e h = absurd (false≢true (sym e))
one-header id (first ∷ lists) a b apart e h = grind (arith, is_false, false≢true, none_behind, once, any-header)

is_placed : {X : Type 0} (p : X → Bool) (xs : List X) (i : ℕ) → position p xs ≡ Some i → list_any p xs ≡ true
is_placed p xs i h = grind (arith, any_is_placed)

header_has : (id : EntryId) (lists : Lists) (o : Option ℕ) (spot : Spot) → spot_in id lists o ≡ Some spot
    → has_id id (records_of lists spot.header) ≡ true
header_has id lists None spot h = absurd (cc)
header_has id lists (Some header) spot h = grind (arith, is_placed)

-- where a record is taken out, the other headers have records as before
pub full-others : (id : EntryId) (lists : Lists) (spot : Spot) (other : ℕ)
    → pairwise ids_apart (all_records lists) ≡ true → spot_of id lists ≡ Some spot
    → (spot.header == other) ≡ false → has_records (lists_without id lists) other ≡ has_records lists other
full-others id lists spot other apart h e = grind (arith, full-absent, one-header, header_has)

-- ---- the place of a record that comes

-- behind the longest front that stands before it
pub placed-with : (head : Bool) (header : ℕ) (rec : Record) (lists : Lists) → lists_with header
    (prefix_len (stands_before head rec) (records_of lists header)) rec lists ≡ with_record head header rec lists
placed-with head header rec lists = grind (arith, insert-prefix_len)

-- ---- ids

-- a new record has an id of its own
pub new-alone : (shape : Shape) (caps : Caps) (content : Content) → IsContent shape caps content
    → list_any (is_id (write.new_id content)) (all_records content.lists) ≡ false
new-alone shape caps content is = grind (arith, none_from_all, list_all_weaker, nat_tests)
