-- The entries of a map by name, in the order of names.
use Rattle.cache_classes.proofs.Imports.{arith, ◌≡◌, ℕ, Bool, true, false, not, ◌&&◌, cond, List, [], ◌∷◌, Option, Some, None, option_map, length, filter, refl, sym, ap, ◌∙◌, subst, nat_eq, option_to_list, IsDistinct, keys_of, lookup, nat_list_eq_equiv, pointwise, false≢true, not-true, length-map, lookup-none, none_past_head, Name16, same_name, name_before, insertion, pairwise, filter_absorbed, filter-filter, filter_nothing, filter_swap, list_all_always, filter-insertion_out, FindsPlace, pairwise-filter, pairwise-insertion, arranged, in_turn, arranged_in_turn, keyed-arranged, ordered_filters, length_arranged, Changed, is_named, name_of, names_without, names_with, Entry, changed_at, entries_in, classes_in, Writes}
use Rattle.cache_classes.proofs.NameOrder.{name_order}

-- ---- the entries of a name

abbrev same : List ℕ → List ℕ → Bool
same = pointwise nat_eq

abbrev made : Name16 → ℕ → Changed
made name class = record { name = name; class = class }

tail_unique : (e : Entry) (es : List Entry) → IsDistinct same (keys_of (e ∷ es)) → IsDistinct same (keys_of es)
unfolding IsDistinct
tail_unique e es u = u.1

-- those of a name are the one that is looked up
entries_at : (es : List Entry) → IsDistinct same (keys_of es) → (name : Name16)
    → filter (is_named name) (entries_in es) ≡ option_to_list (option_map (made name) (lookup (same name.0) es))
entries_at [] u name = refl
entries_at (e ∷ es) u name = go (same name.0 e.0) refl (entries_at es (tail_unique e es u) name)
  where
    go : (b : Bool) → same name.0 e.0 ≡ b → filter (is_named name) (entries_in es) ≡ option_to_list (option_map
        (made name) (lookup (same name.0) es)) → filter (is_named name) (entries_in (e ∷ es)) ≡ option_to_list
        (option_map (made name) (cond (same name.0 e.0) (Some e.1) (lookup (same name.0) es)))
    go true h ih =
        let here : is_named name (changed_at e) ≡ true = nat_list_eq_equiv.symm e.0 name.0 ∙ h in
        let none : lookup (same name.0) es ≡ None = lookup-none (same name.0) es
        (none_past_head nat_list_eq_equiv name.0 e es u h) in
        let it : changed_at e ≡ made name e.1 =
        ap (λ (n : Name16). made n e.1) (name_order.equal (changed_at e).name name here) in
        let rest : filter (is_named name) (entries_in es) ≡ [] =
        ih ∙ ap (λ (o : Option ℕ). option_to_list (option_map (made name) o)) none in
        rw (here, h, rest) (ap (λ (x : Changed). x ∷ []) it)
    go false h ih =
        let here : is_named name (changed_at e) ≡ false = nat_list_eq_equiv.symm e.0 name.0 ∙ h in
        rw (here, h) ih

abbrev at_slot : Name16 → ℕ
at_slot name = 0

-- and so in order
names_at : (es : List Entry) → IsDistinct same (keys_of es) → (name : Name16)
    → filter (is_named name) (classes_in es) ≡ option_to_list (option_map (made name) (lookup (same name.0) es))
names_at es u name =
    keyed-arranged name_of same_name name_before at_slot name_order name (entries_in es) ∙ entries_at es u name

pub in_order_in : (es : List Entry) → pairwise (in_turn name_of name_before) (classes_in es) ≡ true
in_order_in es = arranged_in_turn name_of same_name name_before at_slot name_order (entries_in es)

-- two lists in order are equal where the names have the same
same_names : (xs ys : List Changed) → pairwise (in_turn name_of name_before) xs ≡ true → pairwise (in_turn name_of
    name_before) ys ≡ true → ((name : Name16) → filter (is_named name) xs ≡ filter (is_named name) ys) → xs ≡ ys
same_names xs ys h g f = ordered_filters name_of same_name (λ x y. name_before x.name y.name)
    name_order.itself (λ x y. name_order.ties x.name y.name) xs ys h g f

-- ---- one name more, or less

alone : (q b : Changed → Bool) (x : Changed) (xs : List Changed) → q x ≡ true → filter q xs ≡ []
    → filter q (insertion b x xs) ≡ x ∷ []
alone q b x [] e none = rw e refl
alone q b x (y ∷ ys) e none = grind (arith, alone q b x ys e)

-- what is left without a name
without_here : (name : Name16) (xs : List Changed) → filter (is_named name) (names_without name xs) ≡ []
without_here name xs = filter-filter (is_named name) (λ x. not (is_named name x)) xs
    ∙ ap (λ (q : Changed → Bool). filter q xs) (λ i x. both (is_named name x) i) ∙ filter_nothing xs
  where
    both : (b : Bool) → not b && b ≡ false
    both true = refl
    both false = refl

without_there : (name k : Name16) (xs : List Changed) → same_name name k ≡ false
    → filter (is_named k) (names_without name xs) ≡ filter (is_named k) xs
without_there name k xs apart = grind (arith, filter_swap, filter_absorbed, other)
  where
    other : (x : Changed) → is_named k x ≡ true → (b : Bool) → is_named name x ≡ b → b ≡ false
    other x e false f = refl
    other x e true f = absurd
        (false≢true (sym apart ∙ subst (λ (n : Name16). same_name n k ≡ true) (name_order.equal x.name name f) e))

finds_place : (new : Changed) → FindsPlace (in_turn name_of name_before) (λ other. name_before other.name new.name)
    (λ other. true) new
finds_place new = record {
  front = λ other h. ap not (name_order.asym other.name new.name h);
  stop = λ other h e. ap not e;
  follows = λ y z h e. ap not (name_order.follows new.name y.name z.name
      (not-true (name_before y.name new.name) h) (not-true (name_before z.name y.name) e));
}

written : (b c : Bool) (w o : Option ℕ) → c ≡ b → cond c w o ≡ cond b w o
written b c w o e = ap (λ (t : Bool). cond t w o) e

module _ (es fs : List Entry) (name : Name16) (u : IsDistinct same (keys_of es))
    (v : IsDistinct same (keys_of fs)) where
  -- what a name that was written has
  here : (w : Option ℕ) → Writes es name w fs → (k : Name16) → same_name name k ≡ true
      → filter (is_named k) (classes_in fs) ≡ option_to_list (option_map (made k) w)
  here w writes k e = grind (arith, names_at, written)

  -- and one that wasn't
  there : (w : Option ℕ) → Writes es name w fs → (k : Name16) → same_name name k ≡ false
      → filter (is_named k) (classes_in fs) ≡ filter (is_named k) (classes_in es)
  there w writes k e = grind (arith, names_at, written)

  pub put_names : (class : ℕ) → Writes es name (Some class) fs
      → classes_in fs ≡ names_with (made name class) (names_without name (classes_in es))
  put_names class writes = same_names (classes_in fs) (names_with new rest) (in_order_in fs)
      (pairwise-insertion (in_turn name_of name_before) (λ y. name_before y.name name) (λ y. true) new rest
      (finds_place new) (list_all_always (λ y. true) (λ y. refl) rest) (pairwise-filter (in_turn name_of name_before)
      (λ x. not (is_named name x)) (classes_in es) (in_order_in es))) (λ k. by_name k (same_name name k) refl)
    where
      new : Changed
      new = made name class

      rest : List Changed
      rest = names_without name (classes_in es)

      by_name : (k : Name16) (b : Bool) → same_name name k ≡ b → filter
          (is_named k) (classes_in fs) ≡ filter (is_named k) (insertion (λ y. name_before y.name name) new rest)
      by_name k true e =
          let one : name ≡ k = name_order.equal name k e in
          here (Some class) writes k e ∙ ap (λ (n : Name16). made n class ∷ []) (sym one)
          ∙ sym (alone (is_named k) (λ y. name_before y.name name) new rest e
          (subst (λ (n : Name16). filter (is_named n) rest ≡ []) one (without_here name (classes_in es))))
      by_name k false e = there (Some class) writes k e ∙ sym (filter-insertion_out (is_named k)
          (λ y. name_before y.name name) new rest e ∙ without_there name k (classes_in es) e)

  pub removed_names : Writes es name None fs → classes_in fs ≡ names_without name (classes_in es)
  removed_names writes = grind (arith, same_names, in_order_in, pairwise-filter, by_name)
    where
      by_name : (k : Name16) (b : Bool) → same_name name k ≡ b
          → filter (is_named k) (classes_in fs) ≡ filter (is_named k) (names_without name (classes_in es))
      by_name k true e =
          let one : name ≡ k = name_order.equal name k e in
          here None writes k e ∙ sym (subst (λ (n : Name16). filter (is_named n)
          (names_without name (classes_in es)) ≡ []) one (without_here name (classes_in es)))
      by_name k false e = there None writes k e ∙ sym (without_there name k (classes_in es) e)

-- ---- how many

pub length_in : (es : List Entry) → length (classes_in es) ≡ length es
length_in es = length_arranged name_of name_before (entries_in es) ∙ length-map es changed_at

nothing_in : classes_in [] ≡ []
unfolding arranged
nothing_in = refl

pub names_none : (es : List Entry) → es ≡ [] → classes_in es ≡ []
names_none es none = ap classes_in none ∙ nothing_in
