-- The rule that holds between any two steps.
use Rattle.std.specs.Prelude.{◌≡◌, ◌*◌, ◌/◌, ◌^◌, ◌<◌, ◌≤◌, ℕ, suc, List, true, All, length, slice_index}
use mathlib.Core.Option.{some}
use lib.ListN.{get_elem?}
use Rattle.atomic_table.specs.Table.{State}
use Rattle.vec_world.specs.Log.{IsSettled}
use Rattle.vec_words.specs.declared.logged.Logged.{Logged}
use Rattle.vec_words.specs.declared.logged.Sight.{Sight}
use Rattle.vec_words.specs.declared.view.View.{View}
use Rattle.vec_words.specs.declared.view.Shape.{Shape}
use Rattle.vec_words.specs.Logged.{words_of, word_number, steps_of, count_of, flying_of, left_in, calls_of, IsOrderly}
use Rattle.vec_words.specs.Logged.{Tells}

-- what the views of all seats have in common: the log and the seat that has it, the seat that makes passes and the
-- next pass's number, and the seat of each pass by its owner
pub record Roll (D : Type 0) : Type 0 where
  pub log : List (Logged D)
  pub holder : ℕ
  pub maker : ℕ
  pub next : ℕ
  pub seat_of : ℕ → ℕ

module _ {D : Type 0} where
  -- the number is none, or committed and at most the count, or the number of the stores since the last commit
  abbrev pub Settled : List (Logged D) → ℕ → Type 0
  Settled log number = IsSettled (steps_of log) (count_of log) (flying_of log) number

  -- the log is orderly beside the number of the stores since the last commit
  abbrev pub IsSound : List (Logged D) → Type 0
  IsSound log = IsOrderly log (flying_of log)

  -- a test, as the rule keeps it
  pub record IsKept (log : List (Logged D)) (len conn : ℕ) (test : Sight) : Type 0 where
    pub connector : 0 < conn
    pub within : test.index / 32 < words_of len
    pub not_before : test.sure ≤ test.at
    pub seen : test.sure ≤ count_of log
    pub settled : Settled log test.at
    pub tells : Tells log (word_number len conn (test.index / 32)) test

  -- what the rule says of one seat's view
  pub record Fits (len : ℕ) (roll : Roll D) (seat : ℕ) (view : View D) : Type 0 where
    pub keeps : view.keeps ≡ true → (seat ≡ roll.holder) × (view.log ≡ roll.log)
    pub makes : view.makes ≡ true → (seat ≡ roll.maker) × (view.next ≡ roll.next)
    pub passes : view.passes ≡ true → (seat ≡ roll.seat_of view.owner) × (view.owner < roll.next) ×
        (view.mine ≡ calls_of view.owner roll.log)
    pub known : Settled roll.log view.known
    pub sure : view.sure ≤ count_of roll.log
    pub tests : All (IsKept roll.log len view.owner) view.tests

  abbrev pub AllFit : ℕ → Roll D → List (View D) → Type 0
  AllFit len roll views = (seat : ℕ) (view : View D) → get_elem? views seat ≡ some view → Fits len roll seat view

  -- the first word is the count, and each other word is as the log leaves it
  pub record AreLeft (shape : Shape) (log : List (Logged D)) (words : List ℕ) : Type 0 where
    pub count : slice_index words 0 ≡ count_of log
    pub length_is : length words ≡ suc (shape.conns * words_of shape.len)
    pub vectors : (word : ℕ) → word < shape.conns * words_of shape.len → slice_index words (suc word) ≡ left_in log
        word

  pub record Kept (shape : Shape) (table : State ℕ (View D)) : Type 0 where
    pub roll : Roll D
    pub sound : IsSound roll.log
    pub left : AreLeft shape roll.log table.words
    pub fit : AllFit shape.len roll table.views

  -- what `learn` tells of a view that holds the log, where it found this count
  pub record Shows (len : ℕ) (view : View D) (count : ℕ) : Type 0 where
    pub count_is : count ≡ count_of view.log
    pub small : count < 2 ^ 32
    pub sure : view.sure ≤ count
    pub known : Settled view.log view.known
    pub counted : Settled view.log count
    pub mine : view.mine ≡ calls_of view.owner view.log
    pub tests : All (IsKept view.log len view.owner) view.tests
