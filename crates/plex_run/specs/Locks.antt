-- What doing a script's locks in words means: which scripts are taken, what is told of one, and what each status
-- says.
use Rattle.std.specs.Prelude.{◌≡◌, ◌⊎◌, ℕ, List, Some, None, codes, false}
use Rattle.plex_load.specs.PlexScript.declared.faults.Why.{Why}
use Rattle.plex_load.specs.PlexScript.declared.scripts.Script.{Script}
use Rattle.plex_load.specs.PlexScript.Scripts.{IsScript, IsFault}
use Rattle.plex_locks.specs.declared.told.Locked.{Locked}
use Rattle.plex_locks.specs.Others.{first_other}
use Rattle.plex_locks.specs.Told.{IsLocked, locks_text}
use Rattle.plex_run.specs.declared.locks.Untaken.{Untaken}
use Rattle.plex_run.specs.declared.locks.Untaken.TheVariants as untaken
use Rattle.plex_run.specs.Written.{Output}
use Rattle.plex_run.specs.StatusLines.{why_word}
use Rattle.plex_run.specs.Statuses.{Task, Word, EndsText}
use Rattle.plex_run.specs.Outcome.{IsTooLong}

-- ---- texts

-- the text says this script, and lock words can do all of it
pub record IsTaken (text : List ℕ) (script : Script) : Type 0 where
  pub says : IsScript text script
  pub all : first_other text script ≡ None

-- a text isn't taken for what is told of this line: it is the first faulty one, or the first of a script that lock
-- words can't do
abbrev pub IsUntakenAt : List ℕ → ℕ → List ℕ → Type 0
IsUntakenAt text line told =
    ((why : Why) × IsFault text line why × (told ≡ why_word why))
    ⊎ ((script : Script) × IsScript text script × (first_other text script ≡ Some line) × (told ≡ codes "NOTWORDS"))

-- why a text isn't taken: this line is the first faulty one, or the first that lock words can't do; or there was no
-- memory
abbrev pub TellsUntaken : List ℕ → Untaken → Type 0
TellsUntaken text (untaken.Fault line why) = IsFault text line why
TellsUntaken text (untaken.NotWords line) =
    (script : Script) × IsScript text script × (first_other text script ≡ Some line)
TellsUntaken text (untaken.NoMemory cause) = Unit {0}

-- ---- what each status says of the text that came

-- what comes of a text that is taken: what became of its script's locks, which is true
abbrev pub locking : List ℕ → Task
locking text =
    record {
      Outcome = Script × Locked;
      Comes = λ it. IsTaken text it.0 × IsLocked it.0 it.1;
      status = λ it. 0;
      told = λ it. locks_text it.0 it.1;
      Seals = λ it. Unit {0};
      in_parts = false;
    }

-- the word for which a script's locks are done in words. A script that is taken has the status 0, or 5.
abbrev pub locks_word : Word
locks_word =
    record {
      IsTooLong = IsTooLong;
      Refuses = IsUntakenAt;
      Takes = λ text. (script : Script) × IsTaken text script;
      task = locking;
      Settles = λ text status. (status ≡ 0) ⊎ (status ≡ 5);
    }

-- the locks of a text end so. What came has the status 0, so no status above 7 comes.
abbrev pub EndsLocks : List ℕ → Output → ℕ → Type 0
EndsLocks text out status = EndsText locks_word text out status
