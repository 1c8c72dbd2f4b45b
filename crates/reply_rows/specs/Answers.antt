-- Replies on the content of a structure, and on what stands around it.
use Rattle.std.specs.Prelude.{◌≡◌, ℕ, List, Option, None, Some}
use Rattle.line_rows.specs.Rows.{Row, IsForth}
use Rattle.reply_rows.specs.declared.sides.Side.{Side}
use Rattle.reply_rows.specs.declared.sides.Side.TheVariants.{Common, Content, Around}

-- how they are printed, how those on the content are read and how those on what stands around it, and on which of
-- these sides each stands
pub record Answers (R : Type 0) : Type 0 where
  pub words : R → List (List ℕ)
  pub content : List (List ℕ) → Option R
  pub around : List (List ℕ) → Option R
  pub side : R → Side

-- where nothing stands around the content
abbrev pub alone : {R : Type 0} → Row R → Answers R
alone row = record { words = row.words; content = row.values; around = λ ws. None; side = λ r. Content }

-- what is read on one side
abbrev pub answer_at : {R : Type 0} → Answers R → Side → List (List ℕ) → Option R
answer_at answers Common ws = None
answer_at answers Content ws = answers.content ws
answer_at answers Around ws = answers.around ws

-- what is read on a side prints so, and each is read on its own
pub record AreAnswers {R : Type 0} (In : R → Type 0) (answers : Answers R) : Type 0 where
  pub content : IsForth In answers.words answers.content
  pub around : IsForth In answers.words answers.around
  pub own : (r : R) → In r → answer_at answers (answers.side r) (answers.words r) ≡ Some r
