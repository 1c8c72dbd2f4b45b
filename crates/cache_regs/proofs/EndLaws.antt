-- Ends of registrations, one after another.
use Rattle.cache_regs.proofs.Imports.{◌≡◌, ℕ, ◌+◌, ◌≤◌, ◌<◌, Bool, true, false, not, ◌&&◌, ◌==◌, nat_lt, List, [], ◌∷◌, ◌++◌, Option, Some, None, length, filter, refl, sym, ap, ◌∙◌, subst, arith, list_any, list_all, and_parts, false≢true, nat_tests, filter_agree, length-filter_both, BitChange, Name16, ConnId, Falls, gains_none, gains_falls, filter-filter, filter_swap, filter_absorbed, filter_all, all_from_none, none_from_all, list_all_weaker, list_all_both, any_is_found, list_all-filter, list_all-filter_same, length-filter-le, Registration, is_of, is_at, is_for, index_for, ends_with_name, stands, is_elsewhere, is_below, spares, ends_of, ends_below, FitsEnds, HasEnded, IsAloneFor}
use Rattle.cache_regs.proofs.BitLaws.{falls_filter, gains_taken}

-- ---- filters

both : (q r s : Registration → Bool) (xs : List Registration) → ((x : Registration) → not (q x)
    && not (r x) ≡ not (s x)) → filter (λ x. not (r x)) (filter (λ x. not (q x)) xs) ≡ filter (λ x. not (s x)) xs
both q r s xs h = grind (arith, filter-filter, filter_agree)

-- two filters that agree within what all of the list are
pub filter_within : (w q r : Registration → Bool) (xs : List Registration) → list_all w xs ≡ true
    → ((x : Registration) → w x ≡ true → q x ≡ r x) → filter q xs ≡ filter r xs
filter_within w q r xs all h = ap (filter q) (sym (filter_all w xs all)) ∙ filter-filter q w xs
    ∙ filter_agree (λ x. w x && q x) (λ x. w x && r x) (grind (arith, h)) xs
    ∙ sym (filter-filter r w xs) ∙ ap (filter r) (filter_all w xs all)

pub filter_fewer : (f g : Registration → Bool) (xs : List Registration) → ((x : Registration) → f x ≡ true → g x ≡ true)
    → length (filter f xs) ≤ length (filter g xs)
filter_fewer f g xs h = subst (λ (l : List Registration). length l ≤ length (filter g xs))
    (filter_swap f g xs ∙ filter_absorbed g f h xs) (length-filter-le f (filter g xs))

pub any_counted : (q : Registration → Bool) (xs : List Registration) → list_any q xs ≡ true → 1 ≤ length (filter q xs)
any_counted q [] h = absurd (false≢true h)
any_counted q (x ∷ xs) h = grind (arith, any_counted q xs)

contra : (a b : Bool) → (a ≡ true → b ≡ true) → not b ≡ true → not a ≡ true
contra true b h e = sym (ap not (h refl)) ∙ e
contra false b h e = refl

-- ---- room to tell of ends

pub fits_same : (q r : Registration → Bool) (xs : List Registration) (room : ℕ)
    → filter (λ x. not (q x)) xs ≡ filter (λ x. not (r x)) xs → FitsEnds q xs room → FitsEnds r xs room
fits_same q r xs room same h = subst (λ (l : List Registration). length xs ≤ room + length l) same h

-- where one at most ends
pub fits_few : (q : Registration → Bool) (xs : List Registration) (room : ℕ) → length (filter q xs) ≤ room
    → FitsEnds q xs room
fits_few q xs room h = grind (arith, length-filter_both)

-- after the first ends there is room for the next, as there was for all
pub fits_step : (p q r s : Registration → Bool) (xs now : List Registration) (told later : List BitChange)
    (room left : ℕ) → ((x : Registration) → not (q x) && not (r x) ≡ not (s x)) → ((x : Registration)
    → s x ≡ true → p x ≡ true) → FitsEnds p xs room → HasEnded q xs now told later room left → FitsEnds r now left
fits_step p q r s xs now told later room left h within fits ended =
    let rest = ap (filter (λ x. not (r x))) ended.gone ∙ both q r s xs h in
    let same = ap length rest in
    let fewer = filter_fewer (λ x. not (p x)) (λ x. not (s x)) xs (λ x e. contra (s x) (p x) (within x) e) in
    omega (arith, fits, ended.counted, same, fewer)

-- ---- ends

falls_to : (q : Registration → Bool) (xs after : List Registration) → after ≡ filter q xs
    → Falls (stands xs) (stands after)
falls_to q xs after e = subst (λ (l : List Registration). Falls (stands xs) (stands l)) (sym e) (falls_filter q xs)

pub ended_falls : (q : Registration → Bool) (xs after : List Registration) (told later : List BitChange)
    (room left : ℕ) → HasEnded q xs after told later room left → Falls (stands xs) (stands after)
ended_falls q xs after told later room left ended = falls_to (λ x. not (q x)) xs after ended.gone

pub ended_then : (q r s : Registration → Bool) (xs now after : List Registration) (told later last : List BitChange)
    (room left end : ℕ) → ((x : Registration) → not (q x) && not (r x) ≡ not (s x)) → HasEnded
    q xs now told later room left → HasEnded r now after later last left end → HasEnded s xs after told last room end
ended_then q r s xs now after told later last room left end h first second =
    grind (arith, both, gains_falls, falls_to)

pub ended_none : (q : Registration → Bool) (xs : List Registration) (told : List BitChange) (room : ℕ)
    → list_any q xs ≡ false → HasEnded q xs xs told told room room
ended_none q xs told room h = grind (arith, filter_all, all_from_none, gains_none)

none_never : (q : Registration → Bool) (xs : List Registration) → ((x : Registration) → q x ≡ false)
    → list_any q xs ≡ false
none_never q [] h = refl
none_never q (x ∷ xs) h = rw (h x) (none_never q xs h)

pub ended_never : (q : Registration → Bool) (xs : List Registration) (told : List BitChange) (room : ℕ)
    → ((x : Registration) → q x ≡ false) → HasEnded q xs xs told told room room
ended_never q xs told room h = ended_none q xs told room (none_never q xs h)

pub ended_same : (q r : Registration → Bool) (xs after : List Registration) (told later : List BitChange)
    (room left : ℕ) → filter (λ x. not (q x)) xs ≡ filter (λ x. not (r x)) xs
    → HasEnded q xs after told later room left → HasEnded r xs after told later room left
ended_same q r xs after told later room left same ended = grind arith

-- the one at a place ends
pub ended_taken : (conn : ConnId) (index : ℕ) (xs after : List Registration) (told later : List BitChange)
    (room left : ℕ) → after ≡ filter (λ x. not (is_at conn index x)) xs → length after + 1 ≡ length xs
    → stands xs conn index ≡ true → later ≡ told ++ record { conn = conn; index = index; bit = false } ∷ []
    → left + 1 ≡ room → HasEnded (is_at conn index) xs after told later room left
ended_taken conn index xs after told later room left is len stood put less = grind (arith, gains_taken)

-- nothing is there
pub ended_absent : (conn : ConnId) (index : ℕ) (xs after : List Registration) (told : List BitChange)
    (room : ℕ) → after ≡ filter (λ x. not (is_at conn index x)) xs
    → stands xs conn index ≡ false → HasEnded (is_at conn index) xs after told told room room
ended_absent conn index xs after told room is none =
    let all = filter_all _ _ (all_from_none (is_at conn index) xs none) in
    subst (λ l. HasEnded (is_at conn index) xs l told told room room) (sym (is ∙ all)) (ended_none _ _ _ _ none)

-- ---- a connector's at the indexes, one after another

pub below_more : (conn : ConnId) (index : ℕ) (x : Registration)
    → not (is_below conn index x) && not (is_at conn index x) ≡ not (is_below conn (index + 1) x)
below_more conn index x = grind (arith, nat_tests)

pub below_of : (conn : ConnId) (index : ℕ) (x : Registration) → is_below conn index x ≡ true → is_of conn x ≡ true
below_of conn index x h = (and_parts (is_of conn x) (nat_lt x.index index) h).0

pub below_first : (conn : ConnId) (x : Registration) → is_below conn 0 x ≡ false
below_first conn x = grind (arith, nat_tests)

pub below_all : (conn : ConnId) (len : ℕ) (x : Registration) → nat_lt x.index len ≡ true
    → not (is_below conn len x) ≡ not (is_of conn x)
below_all conn len x h = grind arith

-- ---- those for a name, one connector after another

pub name_more : (name : Name16) (spare : Option ConnId) (k : ℕ) (x : Registration) → not (ends_below name spare k x)
    && not (ends_of name spare (record { 0 = k }) x) ≡ not (ends_below name spare (k + 1) x)
name_more name spare k x = grind (arith, nat_tests)

pub name_of_all : (name : Name16) (spare : Option ConnId) (k : ℕ) (x : Registration)
    → ends_below name spare k x ≡ true → ends_with_name name spare x ≡ true
name_of_all name spare k x h = (and_parts (ends_with_name name spare x) (nat_lt x.conn.0 k) h).0

pub name_first : (name : Name16) (spare : Option ConnId) (x : Registration) → ends_below name spare 0 x ≡ false
name_first name spare x = grind (arith, nat_tests)

pub name_all : (name : Name16) (spare : Option ConnId) (k : ℕ) (x : Registration) → nat_lt x.conn.0 k ≡ true
    → not (ends_below name spare k x) ≡ not (ends_with_name name spare x)
name_all name spare k x h = grind arith

-- a connector's that end with a name: its own, if it isn't spared
pub of_spare : (name : Name16) (spare : Option ConnId) (conn : ConnId) (b : Bool) → spares spare conn ≡ b
    → (x : Registration) → ends_of name spare conn x ≡ not b && is_for conn name x
of_spare name None conn b e x = grind arith
of_spare name (Some spared) conn b e x = grind (arith, nat_tests)

-- ---- elsewhere

pub elsewhere_at : (conn : ConnId) (name : Name16) (at index : ℕ) (xs : List Registration) → (at == index) ≡ false
    → IsAloneFor conn name at xs
    → filter (λ x. not (is_at conn at x)) xs ≡ filter (λ x. not (is_elsewhere conn index name x)) xs
elsewhere_at conn name at index xs apart alone = filter_agree (λ x. not (is_at conn at x)) (λ x. not (is_at
    conn at x && not (x.index == index))) (grind (arith, nat_tests)) xs ∙ alone (λ x. not (x.index == index))

-- nothing is elsewhere
pub elsewhere_here : (conn : ConnId) (name : Name16) (at index : ℕ) (xs : List Registration) → (at == index) ≡ true
    → IsAloneFor conn name at xs
    → filter (λ (x : Registration). not false) xs ≡ filter (λ x. not (is_elsewhere conn index name x)) xs
elsewhere_here conn name at index xs here alone = filter_agree (λ (x : Registration). not false) (λ x. not (is_at
    conn at x && not (x.index == index))) (grind (arith, nat_tests)) xs ∙ alone (λ x. not (x.index == index))

-- the one for a name
pub for_at : (conn : ConnId) (name : Name16) (at : ℕ) (xs : List Registration) → IsAloneFor conn name at xs
    → filter (λ x. not (is_at conn at x)) xs ≡ filter (λ x. not (is_for conn name x)) xs
for_at conn name at xs alone = filter_agree (λ x. not (is_at conn at x))
    (λ x. not (is_at conn at x && true)) (grind arith) xs ∙ alone (λ x. true) ∙ filter_agree
    (λ x. not (is_for conn name x && true)) (λ x. not (is_for conn name x)) (grind arith) xs

-- ---- what is left

pub left_few : (q : Registration → Bool) (xs after : List Registration) (told later : List BitChange) (room left n : ℕ)
    → HasEnded q xs after told later room left → length (filter q xs) ≤ n → room ≤ left + n
left_few q xs after told later room left n ended few = grind (arith, length-filter_both)

pub left_counted : (q : Registration → Bool) (xs after : List Registration) (told later : List BitChange)
    (room left : ℕ) → HasEnded q xs after told later room left
    → (length after + length (filter q xs) ≡ length xs) × (left + length (filter q xs) ≡ room)
left_counted q xs after told later room left ended = grind (arith, length-filter_both)

-- at the index and elsewhere nothing is for the name
pub unnamed : (conn : ConnId) (index : ℕ) (name : Name16) (xs : List Registration) → list_any (is_elsewhere
    conn index name) xs ≡ false → list_any (is_for conn name) (filter (λ x. not (is_at conn index x)) xs) ≡ false
unnamed conn index name xs h =
    let left = filter (λ x. not (is_at conn index x)) xs in
    none_from_all (is_for conn name) left (list_all_weaker (λ x. not (is_elsewhere conn index name x)
    && not (is_at conn index x)) (λ x. not (is_for conn name x)) (grind (arith, false≢true)) left
    (list_all_both (λ x. not (is_elsewhere conn index name x)) (λ x. not (is_at conn index x))
    left (list_all-filter (λ x. not (is_elsewhere conn index name x)) (λ x. not (is_at conn index x)) xs
    (all_from_none (is_elsewhere conn index name) xs h)) (list_all-filter_same (λ x. not (is_at conn index x)) xs)))

pub ended_fewer : (q : Registration → Bool) (xs after : List Registration) (told later : List BitChange)
    (room left : ℕ) → HasEnded q xs after told later room left → list_any q xs ≡ true → length after < length xs
ended_fewer q xs after told later room left ended some =
    let counted = (left_counted q xs after told later room left ended).0 in
    let least = any_counted q xs some in omega (arith, counted, least)

-- a connector that has no index for a name
pub for_none : (conn : ConnId) (name : Name16) (xs : List Registration) → index_for xs conn name ≡ None
    → list_any (is_for conn name) xs ≡ false
for_none conn name xs h = grind (arith, any_is_found)

pub elsewhere_none : (conn : ConnId) (index : ℕ) (name : Name16) (xs : List Registration)
    → index_for xs conn name ≡ None → list_any (is_elsewhere conn index name) xs ≡ false
elsewhere_none conn index name xs h = none_from_all (is_elsewhere conn index name) xs (list_all_weaker
    (λ x. not (is_for conn name x)) (λ x. not (is_elsewhere conn index name x)) (grind (arith, false≢true))
    xs (all_from_none (is_for conn name) xs (for_none conn name xs h)))
