-- What a lock word says of those that hold it.
use Rattle.std.specs.Prelude.{◌≡◌, ◌==◌, ◌+◌, ◌<◌, ◌≤◌, ◌⊎◌, ◌&&◌, ℕ, Bool, true, false, not, cond, List, [], ◌∷◌, Option, Some, None}
use Rattle.std.specs.Prelude.{count_by, if◌then◌else◌}
use Rattle.lock_words.specs.declared.view.Hold.{Hold}

-- whether the value says EXCL
abbrev pub says_excl : ℕ → Bool
says_excl value = value == 9223372036854775808

-- a word of this value admits one more holder of the state
abbrev pub Admits : ℕ → Bool → Type 0
Admits value true = value ≡ 0
Admits value false = value < 65535

-- the new value of an exchange says the state, and counts one holder more
abbrev pub Adds : ℕ → Bool → ℕ → Type 0
Adds old excl new = (says_excl new ≡ excl) × (new ≡ cond excl 9223372036854775808 (old + 1))

-- the hold is of this word and state
abbrev pub is_hold : ℕ → Bool → Hold → Bool
is_hold word excl x = (x.word == word) && cond excl x.excl (not x.excl)

-- how many items are of this word and state
abbrev pub tally : ℕ → Bool → List Hold → ℕ
tally word excl held = count_by (is_hold word excl) held

-- The value of a word with so many SHR and so many EXCL holders: the number of the SHR holders where there is no
-- EXCL holder, and the EXCL value where there is one alone. No other numbers of holders have a value.
abbrev pub IsValue : ℕ → ℕ → ℕ → Type 0
IsValue shares excls value =
    ((excls ≡ 0) × (value ≡ shares) × (shares ≤ 65535))
    ⊎ ((excls ≡ 1) × (shares ≡ 0) × (value ≡ 9223372036854775808))

-- two locks of one word are both SHR
abbrev pub AreCompatible : Hold → Hold → Type 0
AreCompatible x y = x.word ≡ y.word → (x.excl ≡ false) × (y.excl ≡ false)

-- the state in which a list has a word, by its first hold of it
abbrev pub held_as : List Hold → ℕ → Option Bool
held_as [] word = None
held_as (x ∷ xs) word = if x.word == word then Some x.excl else held_as xs word

-- one holder of a word, by what a hand notes of it
abbrev pub noted : Bool → Option Bool → ℕ
noted excl None = 0
noted true (Some true) = 1
noted true (Some false) = 0
noted false (Some true) = 0
noted false (Some false) = 1
