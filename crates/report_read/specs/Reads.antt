-- What a reader's result says: the slots that it fills and the lines that fill them, or the first line that is no
-- report's.
use Rattle.std.specs.Prelude.{◌≡◌, ◌≤◌, ℕ, List, [], length, map, replicate, slice_get, take, Some, All}
use Rattle.report_texts.specs.CheckModel.RunShown.PlexScript.declared.scripts.Script.{Script}
use Rattle.report_texts.specs.PlexReport.Report.{lines_each}
use Rattle.report_texts.specs.Texts.{IsFirstUnread}
use Rattle.report_fronts.specs.Slots.{Slot, slots_each}
use Rattle.report_fronts.specs.Slots.Slot.{Exactly}
use Rattle.report_fronts.specs.Steps.{Reads, Stops}
use Rattle.report_read.specs.declared.cursor.Cursor.{Cursor}
use Rattle.report_read.specs.declared.cursor.TextBad.{TextBad}
use Rattle.report_read.specs.declared.cursor.TextBad.TheVariants as bad
use Rattle.report_read.specs.Lines.{at_of, IsPlaced}

-- the line that an error tells is the text's first unread one; want of memory tells nothing
abbrev pub TellsLine : Script → List ℕ → TextBad → Type 0
TellsLine script text (bad.Line line) = IsFirstUnread script text line
TellsLine script text (bad.NoMemory cause) = Unit {0}

-- a slot for just each of these lines
abbrev pub exact_slots : List (List ℕ) → List Slot
exact_slots lines = map (λ line. Exactly line) lines

module _ (script : Script) (text : List ℕ) (from : Cursor) where
  -- these slots are read here, to the other place; they open these, and these lines fill them
  pub record IsRead (slots : List Slot) (lines : List (List ℕ)) (left : List Slot) (to : Cursor) : Type 0 where
    pub reads : Reads script text (at_of from) slots (at_of to) lines left
    pub placed : IsPlaced text to

  -- these slots aren't filled here: the line that is told is the first that is no report's
  abbrev pub IsStop : List Slot → TextBad → Type 0
  IsStop slots (bad.Line line) = Stops script text (at_of from) slots line
  IsStop slots (bad.NoMemory cause) = Unit {0}

  -- so many of one slot are read: these, one line each
  pub record AreRead {X : Type 0} (slot : Slot) (line : X → List ℕ) (P : X → Type 0) (n : ℕ) (xs : List X)
      (to : Cursor) : Type 0 where
    pub long : length xs ≡ n
    pub each : All P xs
    pub read : IsRead (replicate n slot) (map line xs) [] to

  -- a slot for each of so many numbers is read, with what it opens: each has its lines
  pub record AreEachRead {X : Type 0} (slot : ℕ → Slot) (lines : ℕ → X → List (List ℕ)) (P : ℕ → X → Type 0) (n : ℕ)
      (xs : List X) (to : Cursor) : Type 0 where
    pub long : length xs ≡ n
    pub each : (k : ℕ) (x : X) → slice_get xs k ≡ Some x → P k x
    pub read : IsRead (slots_each slot n 0) (lines_each lines 0 xs) [] to

  -- the first of these lines are read, each just so
  pub record AreFirstRead (wanted : List (List ℕ)) (k : ℕ) (to : Cursor) : Type 0 where
    pub few : k ≤ length wanted
    pub read : IsRead (exact_slots (take k wanted)) (take k wanted) [] to
