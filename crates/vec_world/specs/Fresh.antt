-- The law of a load: what it finds in a word stood at a numbered point of the log.
use Rattle.std.specs.Prelude.{◌≡◌, ◌-◌, ◌<◌, ◌≤◌, ◌⊎◌, ℕ, List, All, length, max, take, drop, slice_get, Some}
use Rattle.vec_world.specs.declared.step.Step.{Step}
use Rattle.vec_world.specs.declared.step.Step.TheVariants.{Load}
use Rattle.vec_world.specs.declared.world.World.{World}
use Rattle.vec_world.specs.Log.{bits_at, HasStore, IsCommitted}
use Rattle.vec_world.specs.World.{bits_of, stamp_of, word_at, known_by, world_of}

-- The bits tell what the log has of the word at this number; or, where the number wasn't committed yet, what it has
-- just below the number, and then the store of that number to the word came later.
abbrev pub Tells : List Step → List Step → ℕ → ℕ → ℕ → ℕ → Type 0
Tells log later count word bits number =
    (bits ≡ bits_at log word number)
    ⊎ ((count < number) × (bits ≡ bits_at log word (number - 1)) × HasStore later word number)

-- what the pass knows once it has loaded the word: the larger of what it knew and the word's stamp
abbrev pub known_at_load : World → ℕ → ℕ → ℕ
known_at_load world pass word = max (known_by world pass) (stamp_of (word_at world word))

-- what was logged after `before`, by the time of `after`
abbrev pub logged_since : World → World → List Step
logged_since before after = drop (length before.log) after.log

-- the load of this word by this pass, in the world `before`, tells what the log of `after` has
abbrev pub TellsWord : World → World → ℕ → ℕ → Type 0
TellsWord before after pass word =
    Tells after.log (logged_since before after) before.count word (bits_of (word_at before word))
    (known_at_load before pass word)

-- at each place of the list that is a load within range, the load tells what the log of the whole list has
abbrev pub EachLoadTells : ℕ → ℕ → List Step → Type 0
EachLoadTells words passes steps =
    (place pass word : ℕ) → slice_get steps place ≡ Some (Load pass word) → pass < passes → word < words
    → TellsWord (world_of words passes (take place steps)) (world_of words passes steps) pass word

-- the number is none, or committed, or in flight; and it isn't above the larger of the count and the number in flight
abbrev pub IsGenuine : World → ℕ → Type 0
IsGenuine world number =
    ((number ≡ 0) ⊎ (IsCommitted world.log number ⊎ (number ≡ world.flying)))
    × (number ≤ max world.count world.flying)

-- each number that a pass knows, that a note carries, or that a word is stamped with, is genuine
pub record HasGenuineNumbers (world : World) : Type 0 where
  pub known : All (IsGenuine world) world.known
  pub notes : All (IsGenuine world) world.notes
  pub stamps : All (λ word. IsGenuine world (stamp_of word)) world.words
