-- What a link is once it was asked.
use Rattle.std.specs.Prelude.{◌≡◌, ℕ, ◌≤◌, Bool, true, false, List, Option, option_map}
use Rattle.cf_io.specs.Count.{Rises, one_more}
use Rattle.cf_link.specs.Tells.{AnswersAsTold}

module _ {L : Type 0} (calls : L → Option ℕ) (downs : L → Option (List ℕ)) (faults : L → ℕ) where
  -- a link that was asked once more, and was down or wasn't
  pub record IsAsked (down : Bool) (old new : L) : Type 0 where
    pub cause : down ≡ true → Rises (faults old) (faults new)
    pub never_fall : faults old ≤ faults new
    pub counted : calls new ≡ option_map one_more (calls old)
    pub same : downs new ≡ downs old
    pub as_told : AnswersAsTold (calls old) (downs old) (down ≡ true)

  -- a link that was asked once more, or is as it was; one that wasn't asked isn't down
  abbrev pub IsAskedWhere : (asked down : Bool) → L → L → Type 0
  IsAskedWhere true down old new = IsAsked down old new
  IsAskedWhere false down old new = (down ≡ false) × (new ≡ old)
