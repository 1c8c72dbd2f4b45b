-- Registrations stay in order, with one for an index and one for a name.
use Rattle.cache_regs.proofs.Imports.{◌≡◌, ℕ, ◌≤◌, Bool, true, false, not, ◌&&◌, ◌||◌, ◌==◌, nat_lt, cond, List, [], ◌∷◌, length, filter, refl, ◌∙◌, subst₂, arith, list_all, and_parts, false≢true, eqb-true, nat_tests, filter_agree, Name16, ConnId, same_name, pairwise, filter-filter, filter_none, length-filter-le, none_from_all, list_all_weaker, list_all-filter_same, FindsPlace, pairwise-filter, pairwise-insertion, pairwise-insertion_any, Registration, is_of, is_at, is_for, is_replaced, regs_with, stands_before, names_apart, IsRegistry, same_name-eq, same_name-sym}

-- ---- the order

before_apart : (c i d j : ℕ) → nat_lt c d || ((c == d) && nat_lt i j) ≡ true → not ((d == c) && (j == i)) ≡ true
before_apart c i d j h = grind (arith, nat_tests)

-- what stands before another has another place
pub places_apart : (reg other : Registration) → stands_before reg other ≡ true → not (is_at reg.conn reg.index other)
    ≡ true
places_apart reg other h = before_apart reg.conn.0 reg.index other.conn.0 other.index h

pub finds_place : (reg : Registration) → FindsPlace stands_before (λ other. stands_before other reg)
    (λ other. not (is_at reg.conn reg.index other)) reg
finds_place reg = grind (arith, nat_tests)

-- ---- what takes the place of others

split_test : (c i n : Bool) → not ((c && n) && not i) && not (c && i) ≡ not ((c && i) || (c && n))
split_test true true true = refl
split_test true true false = refl
split_test true false true = refl
split_test true false false = refl
split_test false i n = refl

-- the registrations elsewhere for the name go first, and then the one at the index
pub filter-replaced : (conn : ConnId) (index : ℕ) (name : Name16) (regs : List Registration) → filter
    (λ reg. not (is_at conn index reg)) (filter (λ reg. not (is_for conn name reg && not (reg.index == index)))
    regs) ≡ filter (λ reg. not (is_replaced conn index name reg)) regs
filter-replaced conn index name regs = filter-filter (λ reg. not (is_at conn index reg))
    (λ reg. not (is_for conn name reg && not (reg.index == index))) regs ∙ filter_agree (λ reg. not (is_for conn name
    reg && not (reg.index == index)) && not (is_at conn index reg)) (λ reg. not (is_replaced conn index name reg))
    (λ reg. split_test (is_of conn reg) (reg.index == index) (same_name reg.name name)) regs

turn : (a b : ℕ) → (a == b) ≡ (b == a)
turn a b = grind (arith, nat_tests)

-- the registrations of a connector that registers are a registry
pub registry-with : (conn : ConnId) (index : ℕ) (name : Name16) (regs : List Registration) → IsRegistry regs
    → IsRegistry (regs_with conn index name regs)
registry-with conn index name regs is =
    let reg : Registration = record { conn = conn; index = index; name = name } in
    let others = filter (λ other. not (is_replaced conn index name other)) regs in
    let spared = list_all-filter_same (λ other. not (is_replaced conn index name other)) regs in
    record {
      ordered = pairwise-insertion stands_before (λ other. stands_before other reg)
          (λ other. not (is_at conn index other)) reg others (finds_place reg) (grind (arith, list_all_weaker))
          (pairwise-filter stands_before (λ other. not (is_replaced conn index name other)) regs is.ordered);
      one_for_name =
          grind (arith, pairwise-insertion_any, pairwise-filter, list_all_weaker, false≢true, turn, same_name-sym);
    }

pub registry-filter : (q : Registration → Bool) (regs : List Registration) → IsRegistry regs
    → IsRegistry (filter q regs)
registry-filter q regs is = grind (arith, pairwise-filter)

-- ---- one at most for a name

same_for : (reg other : Registration) (conn : ConnId) (name : Name16)
    → is_for conn name reg ≡ true → names_apart reg other ≡ true → not (is_for conn name other) ≡ true
same_for reg other conn name h e =
    let parts = and_parts (reg.conn.0 == conn.0) (same_name reg.name name) h in
    let here = subst₂ (λ (k : ℕ) (m : Name16). not ((k == other.conn.0) && same_name m other.name) ≡ true)
    (eqb-true reg.conn.0 conn.0 parts.0) (same_name-eq _ _ parts.1) e in
    rw (turn _ _, same_name-sym _ _) here

one_step : (conn : ConnId) (name : Name16) (b : Bool) (reg : Registration) (regs : List Registration)
    → is_for conn name reg ≡ b → list_all (names_apart reg) regs ≡ true → length (filter (is_for conn name) regs) ≤ 1
    → length (cond b (reg ∷ filter (is_for conn name) regs) (filter (is_for conn name) regs)) ≤ 1
one_step conn name true reg regs e apart ih = grind (arith, none_from_all, list_all_weaker, same_for, filter_none)
one_step conn name false reg regs e apart ih = ih

pub one_for_name : (conn : ConnId) (name : Name16) (regs : List Registration) → pairwise names_apart regs ≡ true
    → length (filter (is_for conn name) regs) ≤ 1
one_for_name conn name [] h = omega arith
one_for_name conn name (reg ∷ regs) h =
    let parts = and_parts (list_all (names_apart reg) regs) (pairwise names_apart regs) h in
    one_step conn name (is_for conn name reg) reg regs refl parts.0 (one_for_name conn name regs parts.1)

-- at another index than one
pub one_elsewhere : (conn : ConnId) (index : ℕ) (name : Name16) (regs : List Registration) → pairwise
    names_apart regs ≡ true → length (filter (λ reg. is_for conn name reg && not (reg.index == index)) regs) ≤ 1
one_elsewhere conn index name regs h =
    let all = one_for_name conn name regs h in
    let few = length-filter-le (λ reg. not (reg.index == index)) (filter (is_for conn name) regs) in
    rw (← filter-filter (λ reg. not (reg.index == index)) (is_for conn name) regs) (omega (arith, all, few))
