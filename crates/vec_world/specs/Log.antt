-- A log is the list of the stores and commits that acted, the oldest first.
-- What is said here of a log speaks of no machine, so it holds of any list of steps; steps of other kinds in it count
-- for nothing.
use Rattle.std.specs.Prelude.{◌≡◌, ◌^◌, ◌<◌, ◌≤◌, ◌==◌, ◌&&◌, ◌⊎◌, ⊤, ℕ, List, All, Contains, fold, nat_le}
use Rattle.std.specs.Prelude.{if◌then◌else◌}
use Rattle.vec_world.specs.declared.step.Step.{Step}
use Rattle.vec_world.specs.declared.step.Step.TheVariants.{Store, Commit}

-- the bits of a word at a number after one more step: a store to that word with a stamp of at most that number puts
-- its own there
abbrev pub bits_after : ℕ → ℕ → ℕ → Step → ℕ
bits_after word number bits (Store to new stamp) = if (to == word) && nat_le stamp number then new else bits
bits_after word number bits _ = bits

-- the bits of a word at a number: those of the last store to it with a stamp of at most that number, or 0 where there
-- is none
abbrev pub bits_at : List Step → ℕ → ℕ → ℕ
bits_at log word number = fold (bits_after word number) 0 log

-- the log has a store to the word with this stamp
abbrev pub HasStore : List Step → ℕ → ℕ → Type 0
HasStore log word stamp = (bits : ℕ) × Contains log (Store word bits stamp)

-- the number was committed
abbrev pub IsCommitted : List Step → ℕ → Type 0
IsCommitted log number = Contains log (Commit number)

-- the number is above the count, and is the one in flight if there is one
abbrev pub IsOpen : ℕ → ℕ → ℕ → Type 0
IsOpen count flying number = (count < number) × ((flying ≡ 0) ⊎ (flying ≡ number))

-- the number is none, or committed and at most the count, or the one in flight
abbrev pub IsSettled : List Step → ℕ → ℕ → ℕ → Type 0
IsSettled log count flying number = ((number ≤ count) × ((number ≡ 0) ⊎ IsCommitted log number)) ⊎ (number ≡ flying)

-- a fact of the step's stamp, where it is a store to the word
abbrev pub OnStoreTo : ℕ → (ℕ → Type 0) → Step → Type 0
OnStoreTo word P (Store to _ stamp) = to ≡ word → P stamp
OnStoreTo word P _ = ⊤

-- each store to the word has a stamp of at most this number
abbrev pub StampsUpTo : List Step → ℕ → ℕ → Type 0
StampsUpTo log word number = All (OnStoreTo word (λ stamp. stamp ≤ number)) log

-- the word carries these bits and this stamp: no store to it has a greater stamp, and from this one on its bits are
-- these
pub record Carries (log : List Step) (word bits stamp : ℕ) : Type 0 where
  pub greatest : StampsUpTo log word stamp
  pub there : bits_at log word stamp ≡ bits

-- the bits of a store fill at most half a word
abbrev pub FitsHalf : Step → Type 0
FitsHalf (Store _ bits _) = bits < 2 ^ 32
FitsHalf _ = ⊤
