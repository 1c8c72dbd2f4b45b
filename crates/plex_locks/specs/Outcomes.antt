-- What outcomes say of locks: what a connector holds by its own, and what it was granted.
use Rattle.std.specs.Prelude.{◌≡◌, ◌≢◌, ◌==◌, ◌%◌, ◌++◌, ℕ, Bool, true, false, not, if◌then◌else◌, List, [], ◌∷◌, Some, Contains, filter, flat_map, slice_get}
use Rattle.std.specs.Option.{MatchOption}
use Rattle.plex_script.specs.CfTypes.declared.resources.Resource.{Resource}
use Rattle.lock_words.specs.declared.view.Hold.{Hold}
use Rattle.lock_words.specs.Values.{Admits, held_as, says_excl}
use Rattle.lock_words.specs.View.{hold}
use Rattle.plex_locks.specs.declared.requests.Request.{Request}
use Rattle.plex_locks.specs.declared.requests.Request.TheVariants.{Obtain, Release}
use Rattle.plex_locks.specs.declared.outcomes.Outcome.{Outcome}
use Rattle.plex_locks.specs.declared.outcomes.Outcome.TheVariants.{Granted, Held, Contended, Raced, Freed, NotHeld}
use Rattle.plex_locks.specs.declared.outcomes.Done.{Done}

-- the word of a resource, of so many
abbrev pub word_of : ℕ → Resource → ℕ
word_of entries r = r.hash % entries

abbrev pub resource_of : Request → Resource
resource_of (Obtain r excl) = r
resource_of (Release r) = r

abbrev pub is_granted : Outcome → Bool
is_granted Granted = true
is_granted (Held excl) = false
is_granted (Contended value) = false
is_granted Raced = false
is_granted Freed = false
is_granted NotHeld = false

abbrev pub is_freed : Outcome → Bool
is_freed Granted = false
is_freed (Held excl) = false
is_freed (Contended value) = false
is_freed Raced = false
is_freed Freed = true
is_freed NotHeld = false

-- ---- what a connector holds

-- a connector holds these words, and then also what this outcome leaves to it
abbrev pub then_holds : ℕ → List Hold → Request → Outcome → List Hold
then_holds entries held (Obtain r excl) outcome =
    if is_granted outcome then held ++ hold (word_of entries r) excl ∷ [] else held
then_holds entries held (Release r) outcome =
    if is_freed outcome then filter (λ (x : Hold). not (x.word == word_of entries r)) held else held

-- what it holds in the end
abbrev pub left_by : ℕ → List Hold → List Done → List Hold
left_by entries held [] = held
left_by entries held (done ∷ later) = left_by entries (then_holds entries held done.request done.outcome) later

-- what may come of an attempt at a word that isn't held: that others hold it is told of a value that doesn't admit
-- the state
abbrev pub IsTry : Bool → Outcome → Type 0
IsTry excl Granted = Unit {0}
IsTry excl (Held e) = ⊥
IsTry excl (Contended value) = ¬ Admits value excl
IsTry excl Raced = Unit {0}
IsTry excl Freed = ⊥
IsTry excl NotHeld = ⊥

-- the outcome of a request of a connector that holds these words
abbrev pub IsOutcome : ℕ → List Hold → Request → Outcome → Type 0
IsOutcome entries held (Obtain r excl) outcome =
    MatchOption (held_as held (word_of entries r)) (IsTry excl outcome) (λ e. outcome ≡ Held e)
IsOutcome entries held (Release r) outcome =
    MatchOption (held_as held (word_of entries r)) (outcome ≡ NotHeld) (λ e. outcome ≡ Freed)

-- each outcome goes with what the connector's own earlier outcomes left it to hold
abbrev pub FollowsOwn : ℕ → List Hold → List Done → Type 0
FollowsOwn entries held [] = Unit {0}
FollowsOwn entries held (done ∷ later) =
    IsOutcome entries held done.request done.outcome
    × FollowsOwn entries (then_holds entries held done.request done.outcome) later

-- ---- what a connector was granted

abbrev pub grant_in : ℕ → Request → Outcome → List Hold
grant_in entries (Obtain r excl) outcome = if is_granted outcome then hold (word_of entries r) excl ∷ [] else []
grant_in entries (Release r) outcome = []

abbrev pub granted_by : ℕ → List Done → List Hold
granted_by entries dones = flat_map (λ (done : Done). grant_in entries done.request done.outcome) dones

-- another connector than this one was granted the word in that state
abbrev pub HasOther : ℕ → List (List Done) → ℕ → ℕ → Bool → Type 0
HasOther entries all place word excl =
    (other : ℕ) × (theirs : List Done) × (other ≢ place) × (slice_get all other ≡ Some theirs)
    × Contains (granted_by entries theirs) (hold word excl)

-- what an outcome tells of others was another connector's
abbrev pub IsOfOthers : ℕ → List (List Done) → ℕ → ℕ → Outcome → Type 0
IsOfOthers entries all place word Granted = Unit {0}
IsOfOthers entries all place word (Held excl) = Unit {0}
IsOfOthers entries all place word (Contended value) = HasOther entries all place word (says_excl value)
IsOfOthers entries all place word Raced = (excl : Bool) × HasOther entries all place word excl
IsOfOthers entries all place word Freed = Unit {0}
IsOfOthers entries all place word NotHeld = Unit {0}
