-- Texts line by line: a list of slots is what is still to come, and each line fills the first of them, which may open
-- others in its place.
use Rattle.std.specs.Prelude.{◌≡◌, List, [], ◌∷◌, ◌++◌}

abbrev pub Every : {X : Type 0} → (X → Type 0) → List X → Type 0
Every P [] = Unit {0}
Every P (x ∷ xs) = P x × Every P xs

-- what a line that fills a slot opens
module _ {Slot Line : Type 0} (Opens : Slot → Line → List Slot → Type 0) where
  abbrev pub Steps : List Slot → Line → List Slot → Type 0
  Steps [] line next = ⊥
  Steps (slot ∷ slots) line next = (more : List Slot) × Opens slot line more × (next ≡ more ++ slots)

  -- behind these lines, these slots are left
  abbrev pub Goes : List Slot → List Line → List Slot → Type 0
  Goes slots [] left = slots ≡ left
  Goes slots (line ∷ lines) left = (next : List Slot) × Steps slots line next × Goes next lines left

  -- some lines fill them all
  abbrev pub AreFilled : List Slot → Type 0
  AreFilled slots = (lines : List Line) × Goes slots lines []
