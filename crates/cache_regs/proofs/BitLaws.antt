-- The bits that change when registrations come and end.
use Rattle.cache_regs.proofs.Imports.{◌≡◌, ℕ, Bool, true, false, not, ◌&&◌, ◌||◌, ◌==◌, List, [], ◌∷◌, ◌++◌, filter, append-nil, refl, sym, ap, ◌∙◌, inl, inr, ◌⊎◌, arith, and_parts, false≢true, eqb-true, eq-eqb, nat_tests, any-filter_same, Name16, ConnId, BitChange, Gains, Falls, gains_none, gains_one, gains_then, any-filter, list_any-insertion, list_any-insertion_kept, Registration, is_at, is_for, regs_with, stands, stands_before, with_reg, set_changes}

-- ---- one registration goes or comes

-- without what stood at an index
stands_elsewhere : (regs : List Registration) (by conn : ConnId) (index i : ℕ) → stands (filter
    (λ reg. not (is_at by index reg)) regs) conn i ≡ (not ((by.0 == conn.0) && (index == i)) && stands regs conn i)
stands_elsewhere regs by conn index i = grind (arith, any-filter_same, nat_tests)

stands_with : (new : Registration) (regs : List Registration) (conn : ConnId) (i : ℕ)
    → stands (with_reg new regs) conn i ≡ ((new.conn.0 == conn.0) && (new.index == i))
    || (not ((new.conn.0 == conn.0) && (new.index == i)) && stands regs conn i)
stands_with new regs conn i = list_any-insertion (is_at conn i)
    (λ reg. stands_before reg new) new (filter (λ reg. not (is_at new.conn new.index reg)) regs)
    ∙ ap (λ b. ((new.conn.0 == conn.0) && (new.index == i)) || b) (stands_elsewhere regs new.conn conn new.index i)

-- other bits stay
pub stands_with-other : (new : Registration) (regs : List Registration) (conn : ConnId) (i : ℕ)
    → (new.conn.0 == conn.0) && (new.index == i) ≡ false → stands (with_reg new regs) conn i ≡ stands regs conn i
stands_with-other new regs conn i e = stands_with new regs conn i ∙ rw e refl

self : (a b : ℕ) → (a == a) && (b == b) ≡ true
self a b = grind (arith, nat_tests)

pub stands_with-here : (new : Registration) (regs : List Registration) → stands (with_reg new regs) new.conn new.index
    ≡ true
stands_with-here new regs = stands_with new regs new.conn new.index ∙ rw (self new.conn.0 new.index) refl

-- a registration that stood goes, and its bit is cleared
pub gains_taken : (conn : ConnId) (index : ℕ) (regs after : List Registration) (told later : List BitChange)
    → after ≡ filter (λ reg. not (is_at conn index reg)) regs → stands regs conn index ≡ true → later
    ≡ told ++ record { conn = conn; index = index; bit = false } ∷ [] → Gains (stands regs) (stands after) told later
gains_taken conn index regs after told later is stood put =
    grind (arith, stands_elsewhere, self, gains_one, false≢true)

pub gains_stood : (new : Registration) (regs : List Registration) (bits : List BitChange)
    → stands regs new.conn new.index ≡ true → Gains (stands regs) (stands (with_reg new regs)) bits bits
gains_stood new regs bits stood = grind (arith, gains_none, and_parts, eqb-true, stands_with, stands_with-other)

-- a registration comes in the place of what stood at its index
pub gains_set : (new : Registration) (regs after : List Registration) (told later : List BitChange)
    → after ≡ with_reg new regs → later ≡ told ++ set_changes new regs → Gains (stands regs) (stands after) told later
gains_set new regs after told later put is =
    grind (arith, append-nil, gains_stood, stands_with-here, gains_one, false≢true, stands_with-other)

-- ---- a connector's registration for the name at another index ends, and it is registered at the index

pub gains_with : (new : Registration) (regs : List Registration) (xs ys zs : List BitChange)
    → let middle = filter (λ reg. not (is_for new.conn new.name reg && not (reg.index == new.index))) regs in
    Gains (stands regs) (stands middle) xs ys → Gains (stands middle) (stands (with_reg new middle)) ys zs
    → Gains (stands regs) (stands (with_reg new middle)) xs zs
gains_with new regs xs ys zs first second = grind (arith, gains_then, once)
  where
    once : (conn : ConnId) (i : ℕ) (b : Bool) → (new.conn.0 == conn.0) && (new.index == i) ≡ b
        → (stands (filter (λ reg. not (is_for new.conn new.name reg && not (reg.index == new.index))) regs)
        conn i ≡ stands regs conn i) ⊎ (stands
        (with_reg new (filter (λ reg. not (is_for new.conn new.name reg && not (reg.index == new.index))) regs)) conn
        i ≡ stands (filter (λ reg. not (is_for new.conn new.name reg && not (reg.index == new.index))) regs) conn i)
    once conn i true e = inl (any-filter_same (is_at conn i) (λ reg. not (is_for new.conn new.name
        reg && not (reg.index == new.index))) true (grind (arith, eqb-true, and_parts, false≢true, eq-eqb)) regs)
    once conn i false e = grind (arith, stands_with-other)

-- ---- after a registration, others end

-- the new one stands among those that are kept
pub stands_kept : (q : Registration → Bool) (by : ConnId) (index : ℕ) (name : Name16) (regs : List Registration)
    → q (record { conn = by; index = index; name = name }) ≡ true → stands (filter q (regs_with by index name regs))
    by index ≡ true
stands_kept q by index name regs h = grind (arith, list_any-insertion_kept, self)

-- a connector registers, and then bits fall, but not its own there
pub gains_then_falls : (by : ConnId) (index : ℕ) (name : Name16) (regs later : List Registration)
    (xs ys zs : List BitChange) → stands later by index ≡ true → Falls (stands (regs_with by index name regs))
    (stands later) → Gains (stands regs) (stands (regs_with by index name regs)) xs ys
    → Gains (stands (regs_with by index name regs)) (stands later) ys zs → Gains (stands regs) (stands later) xs zs
gains_then_falls by index name regs later xs ys zs there falls first second = grind (arith, gains_then, once)
  where
    once : (conn : ConnId) (i : ℕ) (b : Bool) → (by.0 == conn.0) && (index == i) ≡ b → (stands (regs_with by index
        name regs) conn i ≡ stands regs conn i) ⊎ (stands later conn i ≡ stands (regs_with by index name regs) conn i)
    once conn i true e =
        let parts = and_parts (by.0 == conn.0) (index == i) e in
        let here : stands later conn i ≡ true = grind (arith, eqb-true) in
        inr (here ∙ sym (falls conn i here))
    once conn i false e = grind (arith, list_any-insertion, any-filter, false≢true)

-- where registrations end, bits fall
pub falls_filter : (q : Registration → Bool) (regs : List Registration) → Falls (stands regs) (stands (filter q regs))
falls_filter q regs conn i h = any-filter (is_at conn i) q regs h
