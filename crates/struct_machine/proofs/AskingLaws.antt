-- The links that a call asks, one after another.
use Rattle.struct_machine.proofs.Imports.{arith, ◌≡◌, ℕ, Bool, true, false, ◌&&◌, ◌||◌, List, [], ◌∷◌, ◌++◌, ◌≢◌, refl, Option, None, Some, IfSome, All, filter, is_some, if◌then◌else◌, All-from_recursion, filter-append, Links, AreAsked, link_at, asked-append, CfId, IsFacility, Asks, AreDistinct, apart, has, reached, marks_of, answers_to, listed, filter_agreed, has_other, same_cf, itself, both_ways, eq-eqb, IsAsked, Asked, unless_same, asks_in}

-- ---- two places

abbrev alone : Option CfId → Asks
alone at = record { links = listed at; stops = false }

has-append : (xs ys : List CfId) (cf : CfId) → has (xs ++ ys) cf ≡ has xs cf || has ys cf
has-append [] ys cf = refl
has-append (x ∷ xs) ys cf = grind (arith, has-append xs ys cf)

distinct_parts : (xs ys : List CfId) (cf : CfId) → AreDistinct (xs ++ ys) → has xs cf ≡ true → has ys cf ≡ false
distinct_parts [] ys cf distinct there = absurd cc
distinct_parts (x ∷ xs) ys cf distinct there = grind (arith, has-append, same_cf, distinct_parts xs ys cf distinct.1)

reached_last : (stops : Bool) (d : CfId → Bool) (at : Option CfId) → reached stops d (listed at) ≡ listed at
reached_last stops d at = grind arith

-- both are asked, unless the first ends that
reached_both : (stops : Bool) (d : CfId → Bool) (first second : Option CfId) → ((cf : CfId) → has (listed first) cf
    ≡ true → stops && d cf ≡ false) → reached stops d (listed first ++ listed second) ≡ listed first ++ listed second
reached_both stops d first second goes = grind (arith, reached_last, itself)

-- a place whose link isn't asked isn't told to be down
not_told : (at lost : Option CfId) (cf : CfId) → listed lost ≡ marks_of (has (listed lost)) (alone at)
    → has (listed at) cf ≡ false → has (listed lost) cf ≡ false
not_told at lost cf here none = grind (arith, has_other, reached_last)

goes_on : (stops : Bool) (lost other : Option CfId) (cf : CfId) → stops && is_some lost ≡ false
    → has (listed other) cf ≡ false → stops && has (listed lost ++ listed other) cf ≡ false
goes_on stops lost other cf goes none = grind arith

-- where the first doesn't end it, the answers are those of the two
answers_both : (first second lost other : Option CfId) (stops : Bool) (cf : CfId)
    → AreDistinct (listed first ++ listed second) → listed lost ≡ marks_of (has (listed lost)) (alone first)
    → listed other ≡ marks_of (has (listed other)) (alone second) → stops && is_some lost ≡ false
    → answers_to (has (listed lost ++ listed other)) (record { links = listed first ++ listed second; stops = stops })
    cf ≡ answers_to (has (listed lost)) (alone first) cf ++ answers_to (has (listed other)) (alone second) cf
answers_both first second lost other stops cf distinct here there goes =
    grind (arith, reached_both, goes_on, not_told, distinct_parts, reached_last, has-append)

module _ {L : Type 0} (calls : L → Option ℕ) (downs : L → Option (List ℕ)) (faults : L → ℕ) where
  -- the two places, one after the other
  pub asked_both : (asked : Asked) (lost other : Option CfId) (old middle new : Links L)
      → (let asks = asks_in asked in AreDistinct asks.links) → listed lost ≡ marks_of (has (listed lost))
      (alone asked.first) → listed other ≡ marks_of (has (listed other)) (alone asked.second) → asked.stops && is_some
      lost ≡ false → AreAsked calls downs faults (answers_to (has (listed lost)) (alone asked.first)) old middle
      → AreAsked calls downs faults (answers_to (has (listed other)) (alone asked.second)) middle new
      → AreAsked calls downs faults (answers_to (has (listed lost ++ listed other)) (asks_in asked)) old new
  asked_both asked lost other old middle new distinct here there goes one two =
      grind (arith, answers_both, asked-append)

-- ---- which of two are down

filtered : (at lost : Option CfId) (others : List CfId) → listed lost ≡ marks_of (has (listed lost)) (alone at)
    → ((cf : CfId) → has (listed at) cf ≡ true → has others cf ≡ false)
    → filter (has (listed lost ++ others)) (listed at) ≡ listed lost
filtered at lost others here apart_so = grind (arith, filter_agreed, has-append, reached_last)

filtered_behind : (at other : Option CfId) (others : List CfId) → listed other ≡ marks_of
    (has (listed other)) (alone at) → ((cf : CfId) → has (listed at) cf ≡ true → has others cf ≡ false)
    → filter (has (others ++ listed other)) (listed at) ≡ listed other
filtered_behind at other others here apart_so = grind (arith, filter_agreed, has-append, reached_last)

distinct_behind : (xs ys : List CfId) (cf : CfId) → AreDistinct (xs ++ ys) → has ys cf ≡ true → has xs cf ≡ false
distinct_behind xs ys cf distinct there = grind (arith, both_ways, distinct_parts)

-- where the first doesn't end it, those that are down are those of the two
pub marks_both : (asked : Asked) (lost other : Option CfId) → (let asks = asks_in asked in AreDistinct asks.links)
    → listed lost ≡ marks_of (has (listed lost)) (alone asked.first)
    → listed other ≡ marks_of (has (listed other)) (alone asked.second) → asked.stops && is_some lost ≡ false
    → listed lost ++ listed other ≡ marks_of (has (listed lost ++ listed other)) (asks_in asked)
marks_both asked lost other distinct here there goes = grind (
  arith,
  filter-append,
  reached_both,
  goes_on,
  not_told,
  distinct_parts,
  filtered,
  filtered_behind,
  distinct_behind,
)

-- ---- a single link

abbrev pub if_down : CfId → Bool → Option CfId
if_down cf down = if down then Some cf else None

pub marks_single : (cf : CfId) (down : Bool)
    → listed (if_down cf down) ≡ marks_of (has (listed (if_down cf down))) (alone (Some cf))
marks_single cf down = grind (arith, itself)

pub told_single : (cf : CfId) (down : Bool) → has (listed (if_down cf down)) cf ≡ down
told_single cf down = grind (arith, itself)

module _ {L : Type 0} (calls : L → Option ℕ) (downs : L → Option (List ℕ)) (faults : L → ℕ) where
  -- it was asked, and no other
  pub asked_place : (cf : CfId) (lost : Option CfId) (down : Bool) (old new : Links L) → IsFacility cf
      → has (listed lost) cf ≡ down → IsAsked calls downs faults down (link_at old cf) (link_at new cf)
      → ((other : CfId) → IsFacility other → other.0 ≢ cf.0 → link_at new other ≡ link_at old other)
      → AreAsked calls downs faults (answers_to (has (listed lost)) (alone (Some cf))) old new
  asked_place cf lost down old new is told asked others = grind (arith, same_cf, both_ways, eq-eqb)

-- ---- each once

pub apart_both : (first second : Option CfId)
    → listed first ++ listed (unless_same first second) ≡ apart (listed first ++ listed second)
apart_both first second = grind arith

pub places_both : (first second : Option CfId) → IfSome first IsFacility → IfSome second IsFacility
    → All IsFacility (listed first ++ listed (unless_same first second))
places_both first second is other = grind (arith, All-from_recursion)
