-- Links that were asked many times.
use Rattle.std.specs.Prelude.{◌≡◌, ◌↔◌, ℕ, Bool, true, ◌==◌, if◌then◌else◌, List, [], ◌∷◌, ◌++◌, fold, Option, None, Some}
use Rattle.cf_io.specs.Count.{one_more, IsListed}
use Rattle.cf_link.specs.Asks.{IsAsked}
use Rattle.cf_link.specs.declared.links.Links.{Links}
use Rattle.cf_types.specs.declared.numbers.CfId.{CfId}
use Rattle.cf_types.specs.Forms.{IsFacility}

abbrev pub link_at : {L : Type 0} → Links L → CfId → L
link_at links cf =
    if cf.0 == 1 then links.one else if cf.0 == 2 then links.two else if cf.0 == 3 then links.three else links.four

-- ---- counts

-- a count of calls, of which each is one more
abbrev pub count_more : ℕ → Bool → ℕ
count_more count answer = one_more count

abbrev pub calls_after : List Bool → ℕ → ℕ
calls_after answers calls = fold count_more calls answers

-- What a link tells: how many calls there have been, and which are answered Down.
pub record Telling : Type 0 where
  pub calls : ℕ
  pub downs : List ℕ

abbrev pub counted : Option ℕ → ℕ
counted None = 0
counted (Some count) = count

-- these answers, from the first on, are those that it tells
abbrev pub IsAsTold : Telling → List Bool → Type 0
IsAsTold told answers =
    (front : List Bool) (answer : Bool) (more : List Bool) → answers ≡ front ++ answer ∷ more
    → (answer ≡ true) ↔ IsListed told.downs (calls_after front told.calls)

module _ {L : Type 0} (calls : L → Option ℕ) (downs : L → Option (List ℕ)) (faults : L → ℕ) where
  -- a link that was asked so often, and answered so
  abbrev pub IsAskedAll : List Bool → L → L → Type 0
  IsAskedAll [] old new = new ≡ old
  IsAskedAll (down ∷ answers) old new =
      (middle : L) × IsAsked calls downs faults down old middle × IsAskedAll answers middle new

  -- the links to the facilities, of which each was asked so often and answered so, and no other
  pub record AreAsked (answers : CfId → List Bool) (old new : Links L) : Type 0 where
    pub asked : (cf : CfId) → IsFacility cf → IsAskedAll (answers cf) (link_at old cf) (link_at new cf)
    pub others : (cf : CfId) → ¬ IsFacility cf → answers cf ≡ []

  -- the link tells this of its calls; one that doesn't count them tells none that is down
  pub record Tells (told : Telling) (link : L) : Type 0 where
    pub calls_are : told.calls ≡ counted (calls link)
    pub downs_are : downs link ≡ Some told.downs
