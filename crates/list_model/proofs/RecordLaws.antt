-- Records: the order of their keys, and names and ids apart.
use Rattle.list_model.proofs.Imports.{◌≡◌, ℕ, ◌==◌, Bool, true, false, not, List, Option, Some, None, is_lt, is_gt, nat_cmp, refl, sym, ap, ◌∙◌, arith, slice_cmp, nat_list_cmp_total, not-true, false≢true, nat_tests, upto, Key16, insertion, pairwise, list_all_always, FindsPlace, pairwise-insertion, Record, is_id, ids_apart, key_before, key_up_to, names_apart, may_precede, stands_before, same_name-sym, is_lt-reverse, lt_not_gt}

-- ---- the order of keys

pub key_back : (a b : Key16) → key_before b a ≡ is_gt (slice_cmp nat_cmp a.0 b.0)
key_back a b = ap is_lt (nat_list_cmp_total.antisymm b.0 a.0) ∙ is_lt-reverse (slice_cmp nat_cmp a.0 b.0)

keys-trans : (a b c : Key16) → not (key_before b a) ≡ true → not (key_before c b) ≡ true → not (key_before c a) ≡ true
keys-trans a b c ab bc = grind (arith, key_back, upto, nat_list_cmp_total)

pub key_up_to-trans : (a b c : Option Key16) → key_up_to a b ≡ true → key_up_to b c ≡ true → key_up_to a c ≡ true
key_up_to-trans None b c ab bc = refl
key_up_to-trans (Some a) (Some b) (Some c) ab bc = keys-trans a b c ab bc
key_up_to-trans (Some a) None c ab bc = absurd (false≢true ab)
key_up_to-trans (Some a) b None ab bc = grind (arith, false≢true)

-- of two keys one isn't behind the other
pub key_up_to-either : (a b : Option Key16) → key_up_to a b ≡ false → key_up_to b a ≡ true
key_up_to-either None b h = absurd (false≢true (sym h))
key_up_to-either (Some a) None h = refl
key_up_to-either (Some a) (Some b) h = grind (arith, key_back, lt_not_gt, false≢true)

pub not_false : (b : Bool) → not b ≡ false → b ≡ true
not_false true h = refl
not_false false h = absurd (false≢true (sym h))

finds_place : (head : Bool) (rec : Record) → FindsPlace may_precede (stands_before head rec) (λ other. true) rec
finds_place true rec = record {
  front = λ other h. key_up_to-either rec.key other.key (not-true (key_up_to rec.key other.key) h);
  stop = λ other among h. not_false (key_up_to rec.key other.key) h;
  follows = λ other last h k. key_up_to-trans rec.key other.key last.key h k;
}
finds_place false rec = record {
  front = λ other h. h;
  stop = λ other among h. key_up_to-either other.key rec.key h;
  follows = λ other last h k. key_up_to-trans rec.key other.key last.key h k;
}

-- a record that comes to its place leaves the header ascending by key
pub ordered-with : (head : Bool) (rec : Record) (records : List Record) → pairwise may_precede records ≡ true
    → pairwise may_precede (insertion (stands_before head rec) rec records) ≡ true
ordered-with head rec records h = pairwise-insertion may_precede (stands_before head rec)
    (λ other. true) rec records (finds_place head rec) (list_all_always (λ other. true) (λ other. refl) records) h

-- ---- ids and names apart

turn : (a b : ℕ) → (a == b) ≡ (b == a)
turn a b = grind (arith, nat_tests)

pub ids_apart-sym : (rec other : Record) → ids_apart rec other ≡ ids_apart other rec
ids_apart-sym rec other = ap not (turn other.id.0 rec.id.0)

pub is_id-refl : (rec : Record) → is_id rec.id rec ≡ true
is_id-refl rec = grind (arith, nat_tests)

pub names_apart-sym : (rec other : Record) → names_apart rec other ≡ names_apart other rec
names_apart-sym rec other = grind (arith, same_name-sym)
