-- Work that words ask for is of one kind.
use Rattle.plex_run.proofs.Imports.{◌≡◌, ℕ, ◌⊎◌, List, Option, None, Some, arith, String, Way, Work, Say}

-- the way that words ask for is found
pub way_found : {A : Type 0} (words : List (String A)) {work : Option Work} → (Say words (Work.Script Way.InTurn)
    → work ≡ Some (Work.Script Way.InTurn)) → (Say words (Work.Script Way.OnThreads) → work ≡ Some
    (Work.Script Way.OnThreads)) → (way : Way) → Say words (Work.Script way) → work ≡ Some (Work.Script way)
way_found words in_turn on_threads Way.InTurn said = in_turn said
way_found words in_turn on_threads Way.OnThreads said = on_threads said

-- where no work is found, the words ask for none
pub nothing_said : {A : Type 0} (words : List (String A)) {work : Option Work} → work ≡ None → ((way : Way)
    → Say words (Work.Script way) → work ≡ Some (Work.Script way)) → ((n : ℕ) → Say words (Work.Load n) → work ≡ Some
    (Work.Load n)) → (Say words Work.Locks → work ≡ Some Work.Locks) → (Say words Work.Check → work ≡ Some Work.Check)
    → (said : Work) × Say words said → ⊥
nothing_said words none scripts load locks check (Work.Script way, it) = cc (none, scripts way it)
nothing_said words none scripts load locks check (Work.Load n, it) = cc (none, load n it)
nothing_said words none scripts load locks check (Work.Locks, it) = cc (none, locks it)
nothing_said words none scripts load locks check (Work.Check, it) = cc (none, check it)

-- the statuses of a load
pub not_two : (status : ℕ) → (status ≡ 0) ⊎ ((status ≡ 5) ⊎ (status ≡ 6)) → status ≡ 2 → ⊥
not_two status statuses is = grind arith
