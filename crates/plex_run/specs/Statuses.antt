-- What each status says of what the program did, whichever of its words asked for it: said once, over a task, and over
-- a word that reads a text.
use Rattle.std.specs.Prelude.{◌≡◌, ◌≢◌, ◌⊎◌, ◌↔◌, ℕ, ◌<◌, Bool, List, Option, IfSome, IsTrue}
use Rattle.plex_run.specs.Written.{Output, HasFailed, Writes, WritesFront, Gains, BreaksOff}
use Rattle.plex_run.specs.StatusLines.{script_line, memory_line, too_long_line}

-- ---- tasks

-- something that is done, and told: the kind of what comes of it, and what may come; the status with which that is told
-- where no write fails, 0 or one above 7; what is written of it, and what more holds once that was written whole; and
-- whether it is made in parts, so that memory may lack between two of them
pub record Task : Type 1 where
  pub Outcome : Type 0
  pub Comes : Outcome → Type 0
  pub status : Outcome → ℕ
  pub told : Outcome → List ℕ
  pub Seals : Outcome → Type 0
  pub in_parts : Bool

-- what came has the status 0, and was told: whole, and nothing else
abbrev pub TellsWhole : Task → Output → Type 0
TellsWhole task out =
    (it : task.Outcome) × task.Comes it × (task.status it ≡ 0) × task.Seals it × Writes out (task.told it)

-- what came has this status, and was told: whole and nothing else, unless a write failed, and then a front of it
abbrev pub TellsMarked : Task → ℕ → Output → Type 0
TellsMarked task status out =
    (it : task.Outcome) × task.Comes it × (task.status it ≡ status) × Gains out (task.told it)

-- what came has the status 0, and a front of it was told
abbrev pub TellsFront : Task → Output → Type 0
TellsFront task out =
    (it : task.Outcome) × task.Comes it × (task.status it ≡ 0) × WritesFront out (task.told it)

-- that there was no memory was told: alone, or behind a front of what came where that is made in parts
abbrev pub TellsNoMemory : Task → Output → Type 0
TellsNoMemory task out =
    Gains out memory_line
    ⊎ (IsTrue task.in_parts
    × ((it : task.Outcome) × task.Comes it × BreaksOff out (task.told it) memory_line))

-- a task ends so: what each status says of what came of it, and of what was written
pub record EndsTask (task : Task) (out : Output) (status : ℕ) : Type 0 where
  pub done : status ≡ 0 → TellsWhole task out
  pub marked : 7 < status → TellsMarked task status out
  pub front : status ≡ 5 → HasFailed out × TellsFront task out
  pub no_memory : status ≡ 6 → TellsNoMemory task out

-- ---- words that read a text

-- a word of the program that reads a text: which texts are too long for it, with the limit that is told; the line for
-- which a text is refused, and what is told of it; which texts are taken, and what is done with one; and which status such a text has where no read
-- failed and there was memory
pub record Word : Type 1 where
  pub IsTooLong : List ℕ → ℕ → Type 0
  pub Refuses : List ℕ → ℕ → List ℕ → Type 0
  pub Takes : List ℕ → Type 0
  pub task : List ℕ → Task
  pub Settles : List ℕ → ℕ → Type 0

-- the text is refused for some line of it
abbrev pub IsRefusedBy : Word → List ℕ → Type 0
IsRefusedBy word text = (line : ℕ) × (told : List ℕ) × word.Refuses text line told

-- the text is too long, for some limit
abbrev pub IsLong : Word → List ℕ → Type 0
IsLong word text = (limit : ℕ) × word.IsTooLong text limit

-- the limit that the text is too long for was told
abbrev pub WritesLong : Word → List ℕ → Output → Type 0
WritesLong word text out = (limit : ℕ) × word.IsTooLong text limit × Gains out (too_long_line limit)

-- the line for which the text is refused was told, and why
abbrev pub WritesRefusal : Word → List ℕ → Output → Type 0
WritesRefusal word text out =
    (line : ℕ) × (told : List ℕ) × word.Refuses text line told × Gains out (script_line line told)

-- 7 is the status of exactly the texts that are too long, and 3 of exactly the others that are refused
abbrev pub IsExact : Word → List ℕ → ℕ → Type 0
IsExact word text status =
    ((status ≡ 7) ↔ IsLong word text)
    × ((status ≡ 3) ↔ ((IsLong word text → ⊥) × IsRefusedBy word text))

-- a text that is taken, and isn't too long, has the status that the word says
abbrev pub IsSettled : Word → List ℕ → ℕ → Type 0
IsSettled word text status = word.Takes text → (IsLong word text → ⊥) → word.Settles text status

-- a word ends so over this text: what each status says of the text and of what was written, and which status it is
-- where no read failed and there was memory
pub record EndsText (word : Word) (text : List ℕ) (out : Output) (status : ℕ) : Type 0 where
  pub task : EndsTask (word.task text) out status
  pub refused : status ≡ 3 → WritesRefusal word text out
  pub long : status ≡ 7 → WritesLong word text out
  pub exact : status ≢ 4 → status ≢ 6 → IsExact word text status
  pub settled : status ≢ 4 → status ≢ 6 → IsSettled word text status

-- this holds of some text: of the one that is left, where it is told
abbrev pub OfText : Option (List ℕ) → (List ℕ → Type 0) → Type 0
OfText left Holds = (text : List ℕ) × IfSome left (λ bytes. text ≡ bytes) × Holds text
