-- The registrations for several names end, one name after another.
use Rattle.cache_core.proofs.Imports.{◌≡◌, ℕ, ◌+◌, ◌-◌, ◌≤◌, ◌<◌, Bool, true, false, not, ◌&&◌, ◌||◌, List, [], ◌∷◌, ◌++◌, None, Some, length, drop, filter, get_or, add-one, append_assoc, refl, ap, arith, range_with_len, drop_more, map-append, drop_all, filter_agree, filter-append, Name16, ConnId, BitChange, Gains, Falls, gains_falls, and_from, eq-eqb, filter-filter, filter_all, list_all_always, length-filter-le, Registration, stands, regs_with, ends_with_name, regs_without_name, same_name-sym, falls_filter, stands_kept, gains_then_falls, CacheItem, is_among, regs_spared, class_counts}

test_step : (a b c : Bool) → b ≡ a → not (a && true) && not c ≡ not (b || c)
test_step true b c e = rw e refl
test_step false b c e = rw e refl

-- what has ended so far
pub record Ending (names : List Name16) (start now : List Registration) (i : ℕ) (room : ℕ)
    (told later : List BitChange) : Type 0 where
  pub rest : regs_spared (drop i names) now ≡ regs_spared names start
  pub fits : length now ≤ room
  pub falls : Falls (stands start) (stands now)
  pub bits : Gains (stands start) (stands now) told later

pub ending_more : (names : List Name16) (start now next : List Registration) (i room left ended : ℕ)
    (told later last : List BitChange) (d : Name16) → i < length names → Ending names start now i room told later
    → next ≡ regs_without_name (get_or names i d) None now → length next + ended ≡ length now → left + ended ≡ room
    → Gains (stands now) (stands next) later last → Ending names start next (i + 1) left told last
ending_more names start now next i room left ended told later last d lt so_far is few spent bits =
    grind (arith, Falls, falls_filter, drop_more, gains_falls, filter-filter, filter_agree, test_step, same_name-sym)

pub ending_all : (names : List Name16) (start now : List Registration) (i room : ℕ) (told later : List BitChange)
    → length names ≤ i → Ending names start now i room told later → now ≡ regs_spared names start
ending_all names start now i room told later le so_far = grind (arith, filter_all, list_all_always, drop_all)

-- the new registration stands where two filters keep it
pub stands_kept_twice : (p q : Registration → Bool) (by : ConnId) (index : ℕ) (name : Name16)
    (regs : List Registration) → p (record { conn = by; index = index; name = name }) ≡ true → q (record {
      conn = by;
      index = index;
      name = name;
    }) ≡ true → stands (filter q (filter p (regs_with by index name regs))) by index ≡ true
stands_kept_twice p q by index name regs e f = grind (arith, filter-filter, stands_kept, and_from)

pub falls_twice : (p q : Registration → Bool) (regs : List Registration) → Falls (stands regs)
    (stands (filter q (filter p regs)))
falls_twice p q regs conn i h = falls_filter p regs conn i (falls_filter q (filter p regs) conn i h)

-- the bits that a connector's registration for a name changes, and then the end of the registrations for others
pub gains_registered : (by : ConnId) (index : ℕ) (name : Name16) (gone : List Name16)
    (before middle after : List Registration) (told between later : List BitChange)
    → Gains (stands before) (stands middle) told between → Gains (stands middle) (stands after) between later
    → middle ≡ regs_with by index name before → after ≡ regs_spared gone middle → is_among gone name ≡ false
    → Gains (stands before) (stands after) told later
gains_registered by index name gone before middle after told between later first second made ends apart =
    let q = λ (reg : Registration). not (is_among gone reg.name) in
    let start = rw made at first in
    let last = rw (ends, made) at second in
    rw (ends, made) (gains_then_falls _ _ _ _ _ _ _ _ (stands_kept q by index name before (ap not apart))
    (falls_filter q (regs_with by index name before)) start last)

-- ---- counts, a class at a time

pub range-more : (class last : ℕ) → class < last → range_with_len class (last - class) ≡ class ∷ range_with_len
    (class + 1) (last - (class + 1))
range-more class last lt = grind (arith, add-one)

-- a connector's own registration is spared
pub own_spared : (by : ConnId) (index : ℕ) (name : Name16)
    → not (ends_with_name name (Some by) (record { conn = by; index = index; name = name })) ≡ true
own_spared by index name = grind (arith, eq-eqb)

pub ending_room : (name : Name16) (regs : List Registration) (room : ℕ) → length regs ≤ room
    → length (filter (ends_with_name name None) regs) ≤ room
ending_room name regs room le = omega (arith, le, length-filter-le (ends_with_name name None) regs)

-- the next class
pub class_turn : (counts all : List (ℕ × ℕ)) (rows : List CacheItem) (class last : ℕ) → class < last
    → counts ++ class_counts rows (range_with_len class (last - class)) ≡ all → (counts ++ class_counts
    rows (class ∷ [])) ++ class_counts rows (range_with_len (class + 1) (last - (class + 1))) ≡ all
class_turn counts all rows class last lt h = grind (arith, append_assoc, range-more, filter-append, map-append)
