-- What becomes of the tests that callers show, while a judge goes over a history.
use Rattle.std.specs.Prelude.{◌≡◌, ℕ, ◌+◌, Bool, List, [], ◌∷◌, length, map}
use Rattle.cf_types.specs.declared.forms.StrForm.{StrForm}
use Rattle.cf_types.specs.declared.numbers.ConnId.{ConnId}
use Rattle.cf_types.specs.Forms.{IsCaller}
use Rattle.engine_api.specs.declared.histories.Entry.{Entry}
use Rattle.engine_api.specs.Machine.{Machine}
use Rattle.engine_api.specs.Meaning.{Meaning}
use Rattle.struct_machine.specs.StructureView.{stands_at}
use Rattle.vector_waits.specs.Waits.{QueueView, AreRising, IsQueue, AreSettled, before_block, behind_block, untold}

-- two lists of the same length, one by one
abbrev pub Pairs : {X : Type 0} → (X → X → Type 0) → (olds news : List X) → Type 0
Pairs over [] [] = Unit {0}
Pairs over [] (new ∷ news) = ⊥
Pairs over (old ∷ olds) [] = ⊥
Pairs over (old ∷ olds) (new ∷ news) = over old new × Pairs over olds news

-- the same tests, whatever is told of them
pub record HasTestsOf (old new : QueueView) : Type 0 where
  pub conn : new.conn ≡ old.conn
  pub waits : map untold new.waits ≡ map untold old.waits

-- the tests of a caller, in the order of their numbers
pub record IsRising (queue : QueueView) : Type 0 where
  pub caller : IsCaller queue.conn
  pub rising : AreRising queue.waits

-- ---- a step

abbrev pub IsBegun : (old new : QueueView) → Type 0
IsBegun old new = new ≡ record old { waits = map untold old.waits; next = 0 }

abbrev pub IsAskedBefore : ℕ → (ConnId → ℕ → Bool) → (old new : QueueView) → Type 0
IsAskedBefore number stood old new =
    new ≡ record old { waits = map (before_block number (stood old.conn)) old.waits }

pub record IsAskedBehind (number : ℕ) (stood : ConnId → ℕ → Bool) (old new : QueueView) : Type 0 where
  pub asked : new ≡ record old {
    waits = map (behind_block number (stood old.conn)) old.waits;
    next = new.next;
  }
  pub queue : IsQueue (number + 1) new

-- asked of two machines, before a block and behind it
abbrev pub IsToldAt : {C R I S : Type 0} → Meaning C R I S → (before behind : Machine S) → ℕ → (old new : QueueView)
    → Type 0
IsToldAt meaning before behind number old new = (between : QueueView)
    × IsAskedBefore number (stands_at meaning before) old between
    × IsAskedBehind number (stands_at meaning behind) between new

-- ---- what is known of a queue behind some entries

pub record IsAsked {C R I S : Type 0} (meaning : Meaning C R I S) (form : StrForm) (history : List (Entry C R))
    (queue : QueueView) : Type 0 where
  pub queue_on : IsQueue (length history + 1) queue
  pub settled : AreSettled meaning form history queue
