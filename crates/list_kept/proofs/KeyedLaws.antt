-- The first record with a key, among records in order.
use Rattle.list_kept.proofs.Imports.{◌≡◌, ◌+◌, Bool, true, false, not, cond, List, [], ◌∷◌, Option, Some, None, Ordering, Less, Equal, Greater, is_lt, is_gt, nat_cmp, find, slice_get, refl, sym, ap, ◌∙◌, arith, is_eq, bytes_decides, slice_cmp, texts_ties, list_all, prefix_len, and_parts, false≢true, Key16, pairwise, find_none, none_from_all, list_all_weaker, Record, key_up_to, same_key, has_key, may_precede, key_back, key_up_to-either, not_false, comes_behind}

-- a key that is given, if one is
abbrev is_key : Key16 → Option Key16 → Bool
is_key key None = false
is_key key (Some other) = same_key other key

pub keys_same : (a b : Key16) → same_key a b ≡ true → a ≡ b
keys_same a b h = grind (arith, bytes_decides)

pub up_to_itself : (key : Option Key16) → key_up_to key key ≡ true
up_to_itself key = grind (arith, key_up_to-either)

-- of two keys neither of which is behind the other
pub same_up : (a b : Key16) → key_up_to (Some a) (Some b) ≡ true → key_up_to (Some b) (Some a) ≡ true
    → same_key a b ≡ true
same_up a b h k = texts_ties a.0 b.0 ∙ go (slice_cmp nat_cmp a.0 b.0) (grind (arith, key_back)) (grind arith)
  where
    go : (o : Ordering) → is_gt o ≡ false → is_lt o ≡ false → is_eq o ≡ true
    go Equal g l = refl
    go Less g l = absurd (false≢true (sym l))
    go Greater g l = absurd (false≢true (sym g))

-- one that stands before a key hasn't the key
before_apart : (key : Key16) (o : Option Key16) → not (key_up_to (Some key) o) ≡ true → is_key key o ≡ false
before_apart key None h = refl
before_apart key (Some k) h = go (same_key k key) refl
  where
    go : (b : Bool) → same_key k key ≡ b → same_key k key ≡ false
    go true e = absurd (false≢true (sym (ap not (ap (λ (other : Key16). key_up_to (Some key) (Some other))
        (keys_same k key e) ∙ up_to_itself (Some key))) ∙ h))
    go false e = e

-- where one that doesn't stand before a key hasn't the key, no later one has
behind_apart : (key : Key16) (o later : Option Key16) → not (key_up_to (Some key) o) ≡ false
    → key_up_to o later ≡ true → is_key key o ≡ false → is_key key later ≡ false
behind_apart key None later h up none = absurd (false≢true (sym h))
behind_apart key (Some k) None h up none = refl
behind_apart key (Some k) (Some other) h up none = go (same_key other key) refl
  where
    go : (b : Bool) → same_key other key ≡ b → same_key other key ≡ false
    go true e =
        let here : key_up_to (Some k) (Some key) ≡ true =
        sym (ap (λ (o : Key16). key_up_to (Some k) (Some o)) (keys_same other key e)) ∙ up in
        absurd (false≢true (sym none ∙ same_up k key here (not_false (key_up_to (Some key) (Some k)) h)))
    go false e = e

abbrev pub keyed : Key16 → Option Record → Option Record
keyed key None = None
keyed key (Some rec) = cond (has_key key rec) (Some rec) None

pub find_keyed : (key : Key16) (recs : List Record) → pairwise may_precede recs ≡ true
    → find (has_key key) recs ≡ keyed key (slice_get recs (prefix_len (comes_behind true (Some key)) recs))
find_keyed key [] h = refl
find_keyed key (x ∷ xs) h =
    let parts = and_parts (list_all (may_precede x) xs) (pairwise may_precede xs) h in
    go (comes_behind true (Some key) x) refl (find_keyed key xs parts.1) parts.0
  where
    has_is : (y : Record) → has_key key y ≡ is_key key y.key
    has_is y = grind arith

    go : (b : Bool) → comes_behind true (Some key) x ≡ b
        → find (has_key key) xs ≡ keyed key (slice_get xs (prefix_len (comes_behind true (Some key)) xs))
        → list_all (may_precede x) xs ≡ true → cond (has_key key x) (Some x) (find (has_key key) xs) ≡ keyed
        key (slice_get (x ∷ xs) (cond b (1 + prefix_len (comes_behind true (Some key)) xs) 0))
    go true e rest each = grind (arith, has_is, before_apart)
    go false e rest each = grind (arith, find_none, none_from_all, list_all_weaker, has_is, behind_apart)
