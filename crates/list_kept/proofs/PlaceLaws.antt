-- Where a record comes to stand among records in order.
use Rattle.list_kept.proofs.Imports.{◌≡◌, ℕ, ◌≤◌, Bool, true, false, not, Option, List, [], length, replicate, refl, sym, ap, ◌∙◌, arith, false≢true, get_or_past, Key16, EntryId, pairwise, pairwise_weaker, pairwise-filter, goes_first, list_of-get_or, Record, Lists, records_of, all_records, lists_without, all-replicate, key_up_to, may_precede, elements_in, key_up_to-trans, all-without, ordered_without, comes_behind, Named, AreNamed, IsOrderly, all_ordered}
use Rattle.list_kept.proofs.ReadLaws.{elements_fewer}

pub behind_too : (head : Bool) (key : Option Key16) (x y : Record) → may_precede x y ≡ true
    → comes_behind head key y ≡ true → comes_behind head key x ≡ true
behind_too true key x y h e = go (key_up_to key x.key) refl
  where
    go : (b : Bool) → key_up_to key x.key ≡ b → not (key_up_to key x.key) ≡ true
    go true k = absurd (false≢true (sym (ap not (key_up_to-trans key x.key y.key k h)) ∙ e))
    go false k = ap not k
behind_too false key x y h e = key_up_to-trans x.key y.key key h e

-- those that stand before one that comes are the first ones
pub ordered_first : (head : Bool) (key : Option Key16) (recs : List Record) → pairwise may_precede recs ≡ true
    → pairwise (goes_first (comes_behind head key)) recs ≡ true
ordered_first head key recs h = grind (arith, pairwise_weaker, behind_too)

-- records stay in order without one of them
pub orderly-without : (n : ℕ) (id : EntryId) (lists : Lists) → IsOrderly n lists
    → IsOrderly n (lists_without id lists)
orderly-without n id lists is = grind (arith, ordered_without, all-without, pairwise-filter, elements_fewer)

pub no_elements : (n : ℕ) → elements_in (all_records (replicate n [])) ≡ 0
no_elements n = ap elements_in (all-replicate {X = Record} n)

pub named_none : (names : Named) (n : ℕ) → names ≡ [] → AreNamed names (all_records (replicate n []))
named_none names n e name = grind (arith, all-replicate)

pub orderly-none : (elements n : ℕ) → IsOrderly elements (replicate n [])
orderly-none elements n = grind (arith, all_ordered, all-replicate, no_elements)

-- no header, no records
pub none_past : (lists : Lists) (header : ℕ) → length lists ≤ header → records_of lists header ≡ []
none_past lists header past = list_of-get_or lists header ∙ get_or_past lists header [] past
