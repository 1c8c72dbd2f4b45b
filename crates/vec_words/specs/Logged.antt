-- The log of the words: the stores and the commits that were made, the oldest first. A commit carries its caller and
-- its call's data.
use Rattle.std.specs.Prelude.{◌≡◌, ◌==◌, ◌+◌, ◌-◌, ◌*◌, ◌/◌, ◌%◌, ◌^◌, ◌<◌, ◌≤◌, ◌⊎◌, ℕ, Bool, List, [], ◌∷◌, map}
use Rattle.std.specs.Prelude.{filter, fold, if◌then◌else◌}
use Rattle.std.specs.Int.{bit_at}
use Rattle.std.specs.List.{range_with_len}
use Rattle.vec_world.specs.declared.step.Step.{Step}
use Rattle.vec_world.specs.declared.step.Step.TheVariants.{Store, Commit}
use Rattle.vec_world.specs.Log.{bits_at, HasStore, IsCommitted, IsSettled}
use Rattle.vec_world.specs.World.{word_of, stamp_of, CarriesWord}
use Rattle.vec_words.specs.declared.logged.Logged.{Logged}
use Rattle.vec_words.specs.declared.logged.Logged.TheVariants.{Stored, Committed}
use Rattle.vec_words.specs.declared.logged.Sight.{Sight}

-- how many words one connector's vector has
abbrev pub words_of : ℕ → ℕ
words_of len = (len + 31) / 32

-- the number of a word of a connector's vector: the vectors lie one behind the other, the first connector's first
abbrev pub word_number : ℕ → ℕ → ℕ → ℕ
word_number len conn word = (conn - 1) * words_of len + word

-- the bit of an index, in the bits of its word
abbrev pub bit_in : ℕ → ℕ → Bool
bit_in bits index = bit_at bits (index % 32) == 1

-- the indices whose bits a word holds
unfoldable pub indices_of : ℕ → List ℕ
indices_of word = range_with_len (32 * word) 32

-- the test of an index by a word's bits
abbrev pub sight : ℕ → ℕ → ℕ → ℕ → Sight
sight bits at sure index = record { index = index; bit = bit_in bits index; at = at; sure = sure }

-- a commit: its number, its caller and its call's data
pub record CallRecord (D : Type 0) : Type 0 where
  pub number : ℕ
  pub caller : ℕ
  pub about : D

module _ {D : Type 0} where
  -- the same step without the caller and the data
  abbrev pub step_of : Logged D → Step
  step_of (Stored word bits stamp) = Store word bits stamp
  step_of (Committed number caller about) = Commit number

  abbrev pub steps_of : List (Logged D) → List Step
  steps_of log = map step_of log

  -- the number of the last commit, 0 where there is none
  abbrev pub count_after : ℕ → Logged D → ℕ
  count_after count (Stored word bits stamp) = count
  count_after count (Committed number caller about) = number

  abbrev pub count_of : List (Logged D) → ℕ
  count_of log = fold count_after 0 log

  -- the number of the stores since the last commit, 0 where there is none
  abbrev pub flying_after : ℕ → Logged D → ℕ
  flying_after flying (Stored word bits stamp) = stamp
  flying_after flying (Committed number caller about) = 0

  abbrev pub flying_of : List (Logged D) → ℕ
  flying_of log = fold flying_after 0 log

  -- the word as the log leaves it: the bits and the stamp of the last store to it
  abbrev pub left_after : ℕ → ℕ → Logged D → ℕ
  left_after word left (Stored to bits stamp) = if to == word then word_of bits stamp else left
  left_after word left (Committed number caller about) = left

  abbrev pub left_in : List (Logged D) → ℕ → ℕ
  left_in log word = fold (left_after word) 0 log

  -- the commits of a log, in order
  abbrev pub commits_of : List (Logged D) → List (CallRecord D)
  commits_of [] = []
  commits_of (Stored word bits stamp ∷ log) = commits_of log
  commits_of (Committed number caller about ∷ log) =
      record { number = number; caller = caller; about = about } ∷ commits_of log

  -- the calls of one caller among commits, each with its number and its data
  abbrev pub calls_in : ℕ → List (CallRecord D) → List (ℕ × D)
  calls_in caller commits = map (λ c. (c.number, c.about)) (filter (λ c. c.caller == caller) commits)

  -- the calls of one caller in a log
  abbrev pub calls_of : ℕ → List (Logged D) → List (ℕ × D)
  calls_of caller log = calls_in caller (commits_of log)

  -- What holds of a log beside the number in flight, 0 where there is none. The count is 0 or a commit's number, and
  -- no commit is above it. The stamp of a store is at most the count, or is the number in flight. Each word has a
  -- stamp of these, and from that stamp on its bits are those that the log leaves in it.
  pub record IsOrderly (log : List (Logged D)) (flying : ℕ) : Type 0 where
    pub small : count_of log < 2 ^ 32
    pub count : (count_of log ≡ 0) ⊎ IsCommitted (steps_of log) (count_of log)
    pub commits : (number : ℕ) → IsCommitted (steps_of log) number → number ≤ count_of log
    pub stores : (word stamp : ℕ) → HasStore (steps_of log) word stamp → (stamp ≤ count_of log) ⊎ (stamp ≡ flying)
    pub stamps : (word : ℕ) → IsSettled (steps_of log) (count_of log) flying (stamp_of (left_in log word))
    pub words : (word : ℕ) → CarriesWord (steps_of log) word (left_in log word)

  -- the number is none, or committed, or the one in flight
  abbrev pub IsIssued : List (Logged D) → ℕ → ℕ → Type 0
  IsIssued log flying number = (number ≡ 0) ⊎ (IsCommitted (steps_of log) number ⊎ (number ≡ flying))

  -- The test shows the bit as it stood at its number. Or it shows the bit as it stood just below, and then the number
  -- is above all that the pass had seen complete.
  abbrev pub Tells : List (Logged D) → ℕ → Sight → Type 0
  Tells log word test =
      (test.bit ≡ bit_in (bits_at (steps_of log) word test.at) test.index)
      ⊎ ((test.sure < test.at) × (test.bit ≡ bit_in (bits_at (steps_of log) word (test.at - 1)) test.index))

  -- a test of one connector's vector, by the log and the number in flight; the operator, 0, tests nothing
  pub record IsHonest (log : List (Logged D)) (flying len conn : ℕ) (test : Sight) : Type 0 where
    pub connector : 0 < conn
    pub within : test.index / 32 < words_of len
    pub not_before : test.sure ≤ test.at
    pub issued : IsIssued log flying test.at
    pub tells : Tells log (word_number len conn (test.index / 32)) test
