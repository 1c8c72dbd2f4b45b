-- Keys in order: those that stand before a new one are the first of them.
use Rattle.std.proofs.Common.{◌≡◌, Bool, true, false, not, is_lt, is_gt, nat_cmp, refl, sym, ap, ◌∙◌}
use Rattle.std.specs.Cmp.Lexicographic.{slice_cmp, nat_list_cmp_total}
use Rattle.std.proofs.lemmas.Bool.{not-true, false≢true}
use Rattle.std.proofs.lemmas.Cmp.{upto}
use Rattle.cf_types.specs.declared.names.Key16.{Key16}
use Rattle.list_keys.specs.KeyOrder.{key_before, keys_up_to, stands_before}
use Rattle.cf_types.proofs.ResourceLaws.{is_lt-reverse}

back : (a b : Key16) → key_before b a ≡ is_gt (slice_cmp nat_cmp a.0 b.0)
back a b = ap is_lt (nat_list_cmp_total.antisymm b.0 a.0) ∙ is_lt-reverse (slice_cmp nat_cmp a.0 b.0)

keys_up_to-trans : (a b c : Key16) → keys_up_to a b ≡ true → keys_up_to b c ≡ true → keys_up_to a c ≡ true
keys_up_to-trans a b c ab bc =
    let first : is_gt (slice_cmp nat_cmp a.0 b.0) ≡ false = sym (back a b) ∙ not-true (key_before b a) ab in
    let second : is_gt (slice_cmp nat_cmp b.0 c.0) ≡ false = sym (back b c) ∙ not-true (key_before c b) bc in
    ap not (back a c ∙ upto nat_list_cmp_total a.0 b.0 c.0 first second)

-- what isn't behind a key that stands before a new one stands before it, too
pub front_of : (head : Bool) (key x y : Key16) → keys_up_to x y ≡ true → stands_before head key y ≡ true
    → stands_before head key x ≡ true
front_of true key x y h e = go (keys_up_to key x) refl
  where
    go : (b : Bool) → keys_up_to key x ≡ b → not (keys_up_to key x) ≡ true
    go true k = absurd (false≢true (sym (ap not (keys_up_to-trans key x y k h)) ∙ e))
    go false k = ap not k
front_of false key x y h e = keys_up_to-trans x y key h e
