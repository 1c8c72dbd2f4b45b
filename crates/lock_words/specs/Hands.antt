-- Hands and lock words as contracts see them.
use Rattle.std.specs.Prelude.{◌≡◌, ◌≢◌, ◌==◌, ◌<◌, ◌++◌, ℕ, suc, Bool, true, false, not, List, [], ◌∷◌, All, Contains, Option, None}
use Rattle.std.specs.Prelude.{length, slice_index, slice_index_or, filter, flat_map, map}
use Rattle.std.specs.List.{range_with_len}
use mathlib.Core.Option.{some}
use lib.ListN.{get_elem?}
use Rattle.atomic_table.specs.Table.{State, Me}
use Rattle.atomic_table.specs.Seated.{TableId}
use Rattle.lock_words.specs.declared.got.Got.{Got}
use Rattle.lock_words.specs.declared.got.Got.TheVariants.{Granted, Contended, Raced}
use Rattle.lock_words.specs.declared.view.Hold.{Hold}
use Rattle.lock_words.specs.declared.view.Reading.{Reading}
use Rattle.lock_words.specs.declared.view.Grant.{Grant}
use Rattle.lock_words.specs.declared.view.View.{View}
use Rattle.lock_words.specs.declared.view.Size.{Size}
use Rattle.lock_words.specs.Values.{says_excl, tally, Admits, IsValue, noted}
use Rattle.lock_words.specs.View.{hold, reading, grant}
use Rattle.lock_words.specs.Rule.{Kept}

pub record LocksSeen : Type 0 where
  pub table : TableId
  pub words : ℕ
  pub hands : ℕ

pub record HandSeen : Type 0 where
  pub table : TableId
  pub words : ℕ
  pub number : ℕ
  pub gathered : List ℕ
  pub held : List Hold
  pub read : List Reading
  pub ever : List Grant

abbrev pub hand_seen : TableId → ℕ → View → HandSeen
hand_seen table words v = record {
  table = table;
  words = words;
  number = v.number;
  gathered = v.gathered;
  held = v.held;
  read = v.read;
  ever = v.ever;
}

-- a hand that did nothing yet
abbrev pub new_hand : LocksSeen → ℕ → HandSeen
new_hand locks number =
    record { table = locks.table; words = locks.words; number = number; gathered = number ∷ []; held = []; read = []; ever = [] }

-- a step of the hand found a value in a word
abbrev pub hand_looked : HandSeen → ℕ → ℕ → HandSeen
hand_looked h word value = record h { read = h.read ++ reading h.number word value ∷ [] }

abbrev pub hand_granted : HandSeen → ℕ → Bool → HandSeen
hand_granted h word excl = record h {
  held = h.held ++ hold word excl ∷ [];
  ever = h.ever ++ grant h.number word excl ∷ [];
}

abbrev pub hand_released : HandSeen → ℕ → HandSeen
hand_released h word = record h { held = filter (λ x. not (x.word == word)) h.held }

-- What an attempt answers, of the hand before and after it. One load, and where the value loaded admits the state one
-- exchange from it.
abbrev pub Answers : ℕ → Bool → HandSeen → HandSeen → Got → Type 0
Answers word excl old new Granted =
    (seen : ℕ) × Admits seen excl
    × (new ≡ hand_granted (hand_looked (hand_looked old word seen) word seen) word excl)
Answers word excl old new (Contended value) = (¬ Admits value excl) × (new ≡ hand_looked old word value)
Answers word excl old new (Raced seen found) =
    Admits seen excl × (seen ≢ found) × (new ≡ hand_looked (hand_looked old word seen) word found)

-- what a hand's notes have to do with its seat
pub record IsHand (notes : List (Option Bool)) (table : TableId) (me : Me ℕ View) : Type 0 where
  pub live : 0 < me.0.number
  pub alone : me.0.gathered ≡ me.0.number ∷ []
  pub no_slot : me.1 ≡ []
  pub length_is : suc (length notes) ≡ table.words
  pub notes_are : (word : ℕ) (excl : Bool) → tally word excl me.0.held ≡ noted excl (slice_index_or notes word None)
  pub read : All (λ r. r.hand ≡ me.0.number) me.0.read
  pub ever : All (λ g. g.hand ≡ me.0.number) me.0.ever

pub record IsLocks (size : Size) (table : TableId) (answer : List ℕ) : Type 0 where
  pub slots : table.slots ≡ 0
  pub words : table.words ≡ suc size.words
  pub room : length answer ≡ size.words

-- all items of these hands
abbrev pub all_held : List HandSeen → List Hold
all_held hands = flat_map (λ h. h.held) hands

-- the word has the value of those that hold it
abbrev pub HasValue : List Hold → ℕ → ℕ → Type 0
HasValue held word value = IsValue (tally word false held) (tally word true held) value

-- another of these hands was granted what was read
abbrev pub IsOthers : List HandSeen → ℕ → Reading → Type 0
IsOthers hands number r =
    0 < r.value
    → (h : HandSeen) × Contains hands h × (h.number ≢ number)
    × Contains h.ever (grant h.number r.word (says_excl r.value))

-- these are all hands of the locks, in the order of their numbers
pub record AreAll (locks : LocksSeen) (hands : List HandSeen) : Type 0 where
  pub numbers : map (λ h. h.number) hands ≡ range_with_len 1 locks.hands
  pub tables : All (λ h. h.table ≡ locks.table) hands

-- One seat has taken in these hands: it has their numbers and items, all that they read, and nothing but what they
-- were granted.
pub record IsGathered (hands : List HandSeen) (v : View) : Type 0 where
  pub live : 0 < v.number
  pub numbers : All (λ h. Contains v.gathered h.number) hands
  pub held : (word : ℕ) (excl : Bool) → tally word excl v.held ≡ tally word excl (all_held hands)
  pub read : All (λ h. All (λ r. Contains v.read r × (r.hand ≡ h.number)) h.read) hands
  pub ever : All (λ g. (h : HandSeen) × Contains hands h × Contains h.ever g × (g.hand ≡ h.number)) v.ever

-- These are the words of a last state that keeps the rule, in which a seat has this view
pub record IsLast (words hands id : ℕ) (v : View) (answer : List ℕ) : Type 0 where
  pub last : State ℕ View
  pub kept : Kept (record { words = words; hands = hands }) last
  pub seat : get_elem? last.views id ≡ some v
  pub same : (word : ℕ) → word < words → slice_index answer word ≡ slice_index last.words word
