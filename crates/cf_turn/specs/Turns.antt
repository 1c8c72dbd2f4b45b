-- The rule of a lock: one word, one slot, and for each seat its turns and the key.
use Rattle.std.specs.Prelude.{◌≡◌, ℕ, ◌+◌, ◌<◌, ◌⊎◌, List, [], ◌∷◌, Option, Some, None, sum_by}
use mathlib.Core.Option.{some, none}
use lib.ListN.{get_elem?}
use Rattle.atomic_table.specs.Table.{State, Me, Step}
use Rattle.cf_turn.specs.declared.turns.Stand.{Stand}

module _ {K : Type 0} where
  -- a seat that has no turn
  abbrev pub stand_waiting : K → Stand K
  stand_waiting key = record { turns = 0; key = Some key }

  -- a seat that has the turn
  abbrev pub stand_in_turn : K → Stand K
  stand_in_turn key = record { turns = 1; key = Some key }

  -- a seat that another took in
  abbrev pub stand_spent : Stand K
  stand_spent = record { turns = 0; key = None }

  -- a seat without its turns
  abbrev pub without_turns : Stand K → Stand K
  without_turns v = record { turns = 0; key = v.key }

  -- a seat with the turns of two
  abbrev pub both : Stand K → Stand K → Stand K
  both v w = record { turns = v.turns + w.turns; key = v.key }

  -- the turns of all seats
  abbrev pub turns_of : List (Stand K) → ℕ
  turns_of = sum_by (λ v. v.turns)

  -- a seat knows no other key
  abbrev pub Knows : K → Stand K → Type 0
  Knows key v = (k : K) → v.key ≡ Some k → k ≡ key

  -- each seat knows no other key
  abbrev pub AllKnow : K → List (Stand K) → Type 0
  AllKnow key views = (seat : ℕ) (v : Stand K) → get_elem? views seat ≡ some v → Knows key v

module _ {V K : Type 0} where
  -- The word is 0, no seat has the turn, and the slot is at home with a value that fits
  abbrev pub IsFree : (V → Type 0) → State (Option V) (Stand K) → Type 0
  IsFree fits s = (s.words ≡ 0 ∷ []) × (turns_of s.views ≡ 0) ×
      ((value : V) × (s.homes ≡ some (Some value) ∷ []) × fits value)

  -- the word is 1, just one seat has the turn, and the slot is out
  abbrev pub IsTaken : State (Option V) (Stand K) → Type 0
  IsTaken s = (s.words ≡ 1 ∷ []) × (turns_of s.views ≡ 1) × (s.homes ≡ none ∷ [])

  -- the lock is free, and what lies in it stands to the key, or it is taken; no seat knows another key
  abbrev pub Kept : (K → V → Type 0) → K → State (Option V) (Stand K) → Type 0
  Kept stands key s = AllKnow key s.views × (IsFree (stands key) s ⊎ IsTaken s)

  -- the seat has the turn, and the slot with it
  abbrev pub HasTurn : Me (Option V) (Stand K) → Type 0
  HasTurn me = (me.0.turns ≡ 1) × ((held : Option V) × (me.1 ≡ (0, held) ∷ []))

  -- the seat has the turn, and the slot with a value that fits
  abbrev pub HasValue : (V → Type 0) → Me (Option V) (Stand K) → Type 0
  HasValue fits me = (me.0.turns ≡ 1) × ((value : V) × (me.1 ≡ (0, Some value) ∷ []) × fits value)

  -- a new seat knows what the first one did, and has no turn
  abbrev pub Starts : Step (Option V) → Me (Option V) (Stand K) → ℕ → Me (Option V) (Stand K) → Type 0
  Starts s before found after = after.0 ≡ without_turns before.0

  -- where 0 was found the seat has the turn, and a value that stands to the key; else it is as it was
  abbrev pub Tries : (K → V → Type 0) → Step (Option V) → Me (Option V) (Stand K) → ℕ → Me (Option V) (Stand K)
      → Type 0
  Tries stands s before found after = (found ≡ 0 → (key : K) → before.0.key ≡ Some key → HasValue (stands key) after)
      ×
      (0 < found → after ≡ before)
