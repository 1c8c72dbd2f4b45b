-- What a load means: what its run is, and what each status says of it.
use Rattle.std.specs.Prelude.{◌≡◌, ◌⊎◌, ℕ, List, None, false}
use Rattle.plex_load.specs.PlexScript.Printed.{script_text}
use Rattle.run_laws.specs.Readings.{Reading}
use Rattle.plex_load.specs.Generated.{load_script}
use Rattle.plex_load.specs.Summary.{summary}
use Rattle.plex_run.specs.declared.way.Way.TheVariants as ways
use Rattle.plex_run.specs.Written.{Output}
use Rattle.plex_run.specs.Statuses.{Task, EndsTask}
use Rattle.plex_run.specs.Wires.{Wires}
use Rattle.plex_run.specs.Outcome.{IsRun, full_of}

-- ---- runs

-- the text of the script that a number makes
abbrev pub load_text : ℕ → List ℕ
load_text n = script_text (load_script n)

-- what is told of a run of it
abbrev pub summary_of : ℕ → Reading → List ℕ
summary_of n reading = summary n reading.histories reading.transcripts

-- that text says that script, and a run of it on threads left this reading; no journal got full
abbrev pub IsLoadRun : Wires → ℕ → Reading → Type 0
IsLoadRun links n reading =
    IsRun links ways.OnThreads (load_text n) (load_script n) reading × (full_of (load_script n) reading ≡ None)

-- ---- what each status says

-- what comes of a load: such a run, told by its summary
abbrev pub loading : Wires → ℕ → Task
loading links n =
    record {
      Outcome = Reading;
      Comes = IsLoadRun links n;
      status = λ reading. 0;
      told = summary_of n;
      Seals = λ reading. Unit {0};
      in_parts = false;
    }

-- the load of n ends so, with no other status than these three
pub record EndsLoad (links : Wires) (n : ℕ) (out : Output) (status : ℕ) : Type 0 where
  pub task : EndsTask (loading links n) out status
  pub statuses : (status ≡ 0) ⊎ ((status ≡ 5) ⊎ (status ≡ 6))
