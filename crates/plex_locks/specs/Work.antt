-- A connector at work with its hand.
use Rattle.std.specs.Prelude.{◌≡◌, ◌<◌, ◌++◌, ℕ, Bool, List, [], Some, Contains, All, map, slice_get, length, drop}
use Rattle.std.specs.List.{range_with_len}
use Rattle.plex_script.specs.CfTypes.declared.numbers.ConnId.{ConnId}
use Rattle.plex_script.specs.CfTypes.declared.names.Name16.{Name16}
use Rattle.lock_words.specs.declared.got.Got.TheVariants as got
use Rattle.lock_words.specs.declared.view.Hold.{Hold}
use Rattle.lock_words.specs.View.{grant, reading}
use Rattle.lock_words.specs.Hands.{HandSeen, LocksSeen, Answers}
use Rattle.plex_script.specs.declared.scripts.Line.{Line}
use Rattle.plex_locks.specs.declared.requests.Request.{Request}
use Rattle.plex_locks.specs.declared.requests.Task.{Task}
use Rattle.plex_locks.specs.declared.outcomes.Outcome.{Outcome}
use Rattle.plex_locks.specs.declared.outcomes.Outcome.TheVariants.{Granted, Held, Contended, Raced, Freed, NotHeld}
use Rattle.plex_locks.specs.declared.outcomes.Done.{Done}
use Rattle.plex_locks.specs.Requests.{tasks_by}
use Rattle.plex_locks.specs.Outcomes.{word_of, resource_of, left_by, granted_by, FollowsOwn}

-- the same hand of the same words
pub record IsSameHand (old new : HandSeen) : Type 0 where
  pub table : new.table ≡ old.table
  pub words : new.words ≡ old.words
  pub number : new.number ≡ old.number

-- an attempt at a word ended so
abbrev pub IsTried : ℕ → Bool → HandSeen → HandSeen → Outcome → Type 0
IsTried word excl old new Granted = Answers word excl old new got.Granted
IsTried word excl old new (Held e) = ⊥
IsTried word excl old new (Contended value) = Answers word excl old new (got.Contended value)
IsTried word excl old new Raced = (seen : ℕ) × (found : ℕ) × Answers word excl old new (got.Raced seen found)
IsTried word excl old new Freed = ⊥
IsTried word excl old new NotHeld = ⊥

-- the hand has read what an outcome tells of a word
abbrev pub HasRead : HandSeen → ℕ → Outcome → Type 0
HasRead hand word Granted = Unit {0}
HasRead hand word (Held excl) = Unit {0}
HasRead hand word (Contended value) = (0 < value) × Contains hand.read (reading hand.number word value)
HasRead hand word Raced = (value : ℕ) × (0 < value) × Contains hand.read (reading hand.number word value)
HasRead hand word Freed = Unit {0}
HasRead hand word NotHeld = Unit {0}

abbrev pub ReadsDone : HandSeen → Done → Type 0
ReadsDone hand done = HasRead hand (word_of hand.words (resource_of done.request)) done.outcome

-- what a hand's outcomes say of it
pub record IsWorked (hand : HandSeen) (dones : List Done) : Type 0 where
  pub own : FollowsOwn hand.words [] dones
  pub held : hand.held ≡ left_by hand.words [] dones
  pub ever : hand.ever ≡ map (λ (x : Hold). grant hand.number x.word x.excl) (granted_by hand.words dones)
  pub read : All (ReadsDone hand) dones

-- a connector at work
pub record AtLocks : Type 0 where
  pub name : Name16
  pub by : ConnId
  pub hand : HandSeen
  pub tasks : List Task
  pub done : List Done

-- the connectors of a script, each with its hand; none did anything yet
pub record AreIdle (connectors : List Name16) (lines : List Line) (dealt : List HandSeen) (workers : List AtLocks) :
    Type 0 where
  pub names : map (λ (w : AtLocks). w.name) workers ≡ connectors
  pub hands : map (λ (w : AtLocks). w.hand) workers ≡ dealt
  pub numbers : map (λ (w : AtLocks). w.by.0) workers ≡ range_with_len 1 (length workers)
  pub tasks : All (λ (w : AtLocks). w.tasks ≡ tasks_by w.by lines) workers
  pub done : All (λ (w : AtLocks). w.done ≡ []) workers

-- so many connectors of a script have their hands, and these hands are left
pub record IsDealt (connectors : List Name16) (lines : List Line) (dealt : List HandSeen) (place : ℕ)
    (left : List HandSeen) (workers : List AtLocks) : Type 0 where
  pub count : length workers ≡ place
  pub names : map (λ (w : AtLocks). w.name) workers ++ drop place connectors ≡ connectors
  pub hands : map (λ (w : AtLocks). w.hand) workers ++ left ≡ dealt
  pub numbers : map (λ (w : AtLocks). w.by.0) workers ≡ range_with_len 1 place
  pub tasks : All (λ (w : AtLocks). w.tasks ≡ tasks_by w.by lines) workers
  pub done : All (λ (w : AtLocks). w.done ≡ []) workers

-- a connector whose hand is one of these words
pub record IsReady (locks : LocksSeen) (worker : AtLocks) : Type 0 where
  pub table : worker.hand.table ≡ locks.table
  pub words : worker.hand.words ≡ locks.words
  pub worked : IsWorked worker.hand worker.done

abbrev pub asked_by : List Done → List Request
asked_by dones = map (λ (done : Done). done.request) dones

abbrev pub asked_in : List Task → List Request
asked_in tasks = map (λ (task : Task). task.request) tasks

-- what stays the same of a connector at work
pub record IsStill (old new : AtLocks) : Type 0 where
  pub name : new.name ≡ old.name
  pub by : new.by ≡ old.by
  pub tasks : new.tasks ≡ old.tasks
  pub number : new.hand.number ≡ old.hand.number

-- a connector has done its tasks
pub record HasWorked (locks : LocksSeen) (before after : AtLocks) : Type 0 where
  pub ready : IsReady locks after
  pub still : IsStill before after
  pub asked : asked_by after.done ≡ asked_in before.tasks

-- each connector has done its tasks
pub record HaveWorked (locks : LocksSeen) (before after : List AtLocks) : Type 0 where
  pub callers : length after ≡ length before
  pub each : (c : ℕ) (worker : AtLocks) → slice_get after c ≡ Some worker
      → (idler : AtLocks) × (slice_get before c ≡ Some idler) × HasWorked locks idler worker
