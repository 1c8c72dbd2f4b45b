-- What the links of a closed cell have to do with its history.
use Rattle.std.specs.Prelude.{◌≡◌, ℕ, Bool, List, Option, option_map}
use Rattle.struct_machine.specs.CfIo.Count.{RisesBy}
use Rattle.struct_machine.specs.CfLink.Links.{Telling, Tells, IsAsTold, calls_after}

module _ {L : Type 0} (calls : L → Option ℕ) (downs : L → Option (List ℕ)) (faults : L → ℕ) where
  -- A link that gave these answers, as it was and as it is, where the history has so many marks of its facility: its
  -- faults rose by as many, or more; its calls rose by as many as the answers are; and where it tells which calls are
  -- down, it answered so at those that it lists, and no others.
  pub record IsCountedAs (answers : List Bool) (marks : ℕ) (old new : L) : Type 0 where
    pub marked : RisesBy marks (faults old) (faults new)
    pub counted : calls new ≡ option_map (calls_after answers) (calls old)
    pub told : (told : Telling) → Tells calls downs faults told old → IsAsTold told answers
