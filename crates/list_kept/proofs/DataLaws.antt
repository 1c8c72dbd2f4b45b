-- Records and the chains in which their data lie.
use Rattle.list_kept.proofs.Imports.{and_parts, ◌≡◌, ℕ, zero, suc, ◌+◌, ◌≤◌, ◌<◌, true, List, [], ◌∷◌, length, replicate, sum_by, Option, None, Some, refl, sym, ap, subst, arith, IfSome, is_none, option_or, list_all, list_any, sum_by-cons, need_at, pairwise, found_passes, Named, Record, Lists, is_id, ids_apart, all_records, record_of, lists_replaced, StoreView, names_apart, elements_in, elements_of, Bare, AreUsed, blank, with_data, renewed, AreNamed}
use Rattle.list_store.specs.Records as store
use Rattle.list_kept.proofs.NamedLaws.{replaced, named_other, elements_with, same_id, some_found}

-- where no chain is without a record, such chains take no elements
pub no_need : (loose : List (Option (List ℕ))) → list_all is_none loose ≡ true → sum_by need_at loose ≡ 0
no_need [] h = refl
no_need (x ∷ xs) h = grind (arith, and_parts, sum_by-cons, no_need xs)

pub no_chains : (n : ℕ) → AreUsed (replicate n None)
no_chains zero = refl
no_chains (suc n) = no_chains n

pub same_need : (o : Option (List ℕ)) → need_at o ≡ elements_of o
same_need None = refl
same_need (Some bytes) = refl

-- the elements that are free, where records have all chains
pub free_elements : (recs : List Record) (loose chains : List (Option (List ℕ))) (free : ℕ) → AreUsed loose
    → store.elements_in recs + sum_by need_at loose + free ≡ length chains → elements_in recs + free ≡ length chains
free_elements recs loose chains free used e = grind (arith, no_need, sum_by-cons, same_need)

-- elements aren't wanting where records' data and those that come fit
pub wanting : (s after : StoreView) (body : Option (List ℕ)) → AreUsed s.loose
    → elements_in (all_records s.lists) + elements_of body ≤ length s.chains → s.free < elements_of body → after ≡ s
    → store.elements_in (all_records after.lists) + sum_by need_at after.loose + after.free ≡ length after.chains → ⊥
wanting s after body used enough lt same all =
    let e = subst (λ (v : StoreView). store.elements_in (all_records v.lists) + sum_by need_at v.loose + v.free
    ≡ length v.chains) same all in
    omega (arith, enough, lt, free_elements (all_records s.lists) s.loose s.chains s.free used e)

-- a record stands in place of another: its elements for those of the other
pub elements_replaced : (lists : Lists) (old rec : Record) → pairwise ids_apart (all_records lists) ≡ true
    → record_of rec.id lists ≡ Some old → elements_in (all_records (lists_replaced rec lists))
    + elements_of old.body ≡ elements_in (all_records lists) + elements_of rec.body
elements_replaced lists old rec apart e =
    let r = replaced lists old rec apart e in
    omega (
      arith,
      elements_with old r.others (all_records lists) r.before,
      elements_with rec r.others (all_records (lists_replaced rec lists)) r.after,
    )

given_need : (body own : Option (List ℕ)) → elements_of body ≤ elements_of (option_or body own)
given_need None own = omega arith
given_need (Some bytes) own = omega arith

-- there are elements for new data once the old ones are gone
pub elements_renewed : (lists : Lists) (old : Record) (bare : Bare) (body : Option (List ℕ)) (n : ℕ)
    → pairwise ids_apart (all_records lists) ≡ true → record_of bare.id lists ≡ Some old
    → elements_in (all_records (lists_replaced (renewed bare body (record_of bare.id lists)) lists)) ≤ n
    → elements_in (all_records (lists_replaced (with_data (blank bare.id) None) lists)) + elements_of body ≤ n
elements_renewed lists old bare body n apart e enough = omega (
  arith,
  (rw e at enough),
  elements_replaced lists old (with_data (blank bare.id) None) apart e,
  elements_replaced lists old (with_data bare (option_or body old.body)) apart e,
  given_need body old.body,
)

pub renewed_found : (lists : Lists) (old : Record) (bare : Bare) (body : Option (List ℕ)) → record_of
    bare.id lists ≡ Some old → renewed bare body (record_of bare.id lists) ≡ with_data bare (option_or body old.body)
renewed_found lists old bare body e = ap (λ (o : Option Record). renewed bare body o) e

pub named-renewed : (names : Named) (lists : Lists) (bare : Bare) (body : Option (List ℕ))
    → pairwise ids_apart (all_records lists) ≡ true → list_any (is_id bare.id) (all_records lists) ≡ true
    → IfSome (record_of bare.id lists) (λ old. old.name ≡ bare.name) → pairwise names_apart (all_records lists) ≡ true
    → pairwise names_apart (all_records (lists_replaced (renewed bare body (record_of bare.id lists)) lists)) ≡ true
    → AreNamed names (all_records lists)
    → AreNamed names (all_records (lists_replaced (renewed bare body (record_of bare.id lists)) lists))
named-renewed names lists bare body apart there same before after are = go (some_found bare.id lists there)
  where
    go : (rec : Record) × (record_of bare.id lists ≡ Some rec)
        → AreNamed names (all_records (lists_replaced (renewed bare body (record_of bare.id lists)) lists))
    go found =
        let old = found.0 in
        let rec = with_data bare (option_or body old.body) in
        let is = renewed_found lists old bare body found.1 in
        let r = replaced lists old rec apart found.1 in
        let own : old.id ≡ bare.id = grind (arith, same_id, found_passes) in
        let name : old.name ≡ bare.name = subst (λ (o : Option Record). IfSome o (λ other. other.name ≡ bare.name))
        found.1 same in
        subst (λ (x : Record). AreNamed names (all_records (lists_replaced x lists))) (sym is) (named_other names
        old rec r.others (all_records lists) (all_records (lists_replaced rec lists)) r.before r.after before (subst
        (λ (x : Record). pairwise names_apart (all_records (lists_replaced x lists)) ≡ true) is after) name own are)
