-- What the links answered, as a history tells it.
use Rattle.std.specs.Prelude.{ℕ, ◌==◌, Bool, false, List, [], ◌∷◌, ◌++◌, length, filter, fold}
use Rattle.cf_types.specs.declared.numbers.CfId.{CfId}
use Rattle.engine_api.specs.declared.asks.What.{What}
use Rattle.engine_api.specs.declared.asks.What.TheVariants as what
use Rattle.engine_api.specs.declared.histories.Entry.{Entry}
use Rattle.engine_api.specs.LinkAsks.{links_asked, has, answers_to}
use Rattle.cf_types.specs.declared.forms.StrForm.{StrForm}
use Rattle.cf_types.specs.declared.numbers.ConnId.{ConnId}
use Rattle.engine_api.specs.Meaning.{Meaning}
use Rattle.engine_api.specs.Machine.{Machine, opening, step, loss_step}

-- where a reading of a history stands: the state at which the group at its end began, the marks of that group, and the
-- state now
pub record Reading (S : Type 0) : Type 0 where
  pub began : S
  pub marks : List CfId
  pub now : S

abbrev pub begun : {S : Type 0} → S → Reading S
begun state = record { began = state; marks = []; now = state }

module _ {C R I S : Type 0} (meaning : Meaning C R I S) (form : StrForm) where
  abbrev pub read_what : Reading (Machine S) → ConnId → What C → Reading (Machine S)
  read_what reading by (what.Call ask) = begun (step meaning form reading.now by ask).machine
  read_what reading by (what.Lost cf) =
      record {
        began = reading.began;
        marks = reading.marks ++ cf ∷ [];
        now = (loss_step meaning form reading.now cf).machine;
      }

  abbrev pub read_entry : Reading (Machine S) → Entry C R → Reading (Machine S)
  read_entry reading entry = read_what reading entry.by entry.what

  abbrev pub read_all : List (Entry C R) → Reading (Machine S)
  read_all history = fold read_entry (begun (opening meaning form)) history

  -- the answer of a facility's link that a call's group tells, where the call asked it
  abbrev pub answers_in : Reading (Machine S) → ConnId → What C → CfId → List Bool
  answers_in reading by (what.Call ask) cf =
      answers_to (has reading.marks) (links_asked meaning form reading.began by ask) cf
  answers_in reading by (what.Lost lost) cf = []

  abbrev pub answers_from : Reading (Machine S) → List (Entry C R) → CfId → List Bool
  answers_from reading [] cf = []
  answers_from reading (entry ∷ entries) cf =
      answers_in reading entry.by entry.what cf ++ answers_from (read_entry reading entry) entries cf

  -- one for each group that asks the link: true where it has a mark of the facility
  abbrev pub answers : List (Entry C R) → CfId → List Bool
  answers history cf = answers_from (begun (opening meaning form)) history cf

  -- how many groups ask the link
  abbrev pub asked : List (Entry C R) → CfId → ℕ
  asked history cf = length (answers history cf)

-- how many marks a history has of a facility
abbrev pub is_mark_as : {C : Type 0} → CfId → What C → Bool
is_mark_as cf (what.Call ask) = false
is_mark_as cf (what.Lost lost) = lost.0 == cf.0

abbrev pub marks_at : {C R : Type 0} → List (Entry C R) → CfId → ℕ
marks_at history cf = length (filter (λ entry. is_mark_as cf entry.what) history)

abbrev pub trues : List Bool → ℕ
trues answers = length (filter (λ answer. answer) answers)
