-- What is read of a text, line by line: from a place and so many lines to another place.
use Rattle.std.specs.Prelude.{ℕ, List, ◌++◌}
use Rattle.report_texts.specs.CheckModel.RunShown.PlexScript.declared.scripts.Script.{Script}
use Rattle.report_texts.specs.Texts.{IsFirstUnread}
use Rattle.report_fronts.specs.Fronts.{Stands}
use Rattle.report_fronts.specs.Slots.{Slot}

-- how far a text is read: the place that is next, and how many lines there were
abbrev pub At : Type 0
At = ℕ × ℕ

module _ (script : Script) (text : List ℕ) where
  -- wherever these slots come next, these lines fill them, and leave these others
  abbrev pub Reads : At → List Slot → At → List (List ℕ) → List Slot → Type 0
  Reads from slots to more left =
      (lines : List (List ℕ)) (under : List Slot) → Stands script text from.0 from.1 lines (slots ++ under)
      → Stands script text to.0 to.1 (lines ++ more) (left ++ under)

  -- wherever these slots come next, this is the first line that is no report's
  abbrev pub Stops : At → List Slot → ℕ → Type 0
  Stops from slots n =
      (lines : List (List ℕ)) (under : List Slot) → Stands script text from.0 from.1 lines (slots ++ under)
      → IsFirstUnread script text n
