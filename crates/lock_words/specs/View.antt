-- How one step changes what a seat knows.
use Rattle.std.specs.Prelude.{◌≡◌, ◌==◌, ◌+◌, ◌++◌, ℕ, Bool, [], ◌∷◌, true, false, not, filter, if◌then◌else◌}
use Rattle.atomic_table.specs.Table.{Me}
use Rattle.lock_words.specs.declared.view.Hold.{Hold}
use Rattle.lock_words.specs.declared.view.Reading.{Reading}
use Rattle.lock_words.specs.declared.view.Grant.{Grant}
use Rattle.lock_words.specs.declared.view.View.{View}
use Rattle.lock_words.specs.Values.{says_excl}

abbrev pub hold : ℕ → Bool → Hold
hold word excl = record { word = word; excl = excl }

abbrev pub reading : ℕ → ℕ → ℕ → Reading
reading hand word value = record { hand = hand; word = word; value = value }

abbrev pub grant : ℕ → ℕ → Bool → Grant
grant hand word excl = record { hand = hand; word = word; excl = excl }

-- a hand of this number that did nothing yet
abbrev pub fresh_view : ℕ → Bool → View
fresh_view number right =
    record { number = number; right = right; gathered = number ∷ []; held = []; read = []; ever = [] }

abbrev pub first_view : View
first_view = fresh_view 1 true

-- a seat that another took in
abbrev pub spent_view : View
spent_view = record { number = 0; right = false; gathered = []; held = []; read = []; ever = [] }

-- a hand is made: the right to make the next one goes to it
abbrev pub without_right : View → View
without_right v = record v { right = false }

abbrev pub next_view : View → View
next_view v = fresh_view (v.number + 1) true

-- one hand took in another
abbrev pub joined : View → View → View
joined v w = record v {
  gathered = v.gathered ++ w.gathered;
  held = v.held ++ w.held;
  read = v.read ++ w.read;
  ever = v.ever ++ w.ever;
}

-- a step found a value in a word
abbrev pub looked : View → ℕ → ℕ → View
looked v word value = record v { read = v.read ++ reading v.number word value ∷ [] }

abbrev pub granted : View → ℕ → Bool → View
granted v word excl = record v {
  held = v.held ++ hold word excl ∷ [];
  ever = v.ever ++ grant v.number word excl ∷ [];
}

-- an exchange from one value to another found this one
abbrev pub tried : View → ℕ → ℕ → ℕ → ℕ → View
tried v word old new found =
    if found == old then granted (looked v word found) word (says_excl new) else looked v word found

abbrev pub released : View → ℕ → View
released v word = record v { held = filter (λ x. not (x.word == word)) v.held }

-- the seat's new view, and it still has no slot
abbrev pub Becomes : Me ℕ View → View → Me ℕ View → Type 0
Becomes me w after = (after.0 ≡ w) × (after.1 ≡ me.1)
