-- What a link tells of its calls, and of those that it answers Down.
use Rattle.std.specs.Prelude.{ℕ, List, ◌∷◌, Option, None, Some, ◌↔◌}
use Rattle.cf_io.specs.Count.{IsListed}

-- a link that tells at least one call that is answered Down tells its calls too
abbrev pub TellsEnough : Option ℕ → Option (List ℕ) → Type 0
TellsEnough None (Some (number ∷ numbers)) = ⊥
TellsEnough _ _ = Unit {0}

-- the next call is answered Down exactly where it is told to be. Where no call is counted, none is told to be
abbrev pub AnswersAsTold : Option ℕ → Option (List ℕ) → Type 0 → Type 0
AnswersAsTold calls None down = Unit {0}
AnswersAsTold None (Some downs) down = ¬ down
AnswersAsTold (Some calls) (Some downs) down = down ↔ IsListed downs calls
