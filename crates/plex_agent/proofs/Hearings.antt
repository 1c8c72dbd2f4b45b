-- Hearings: none, and one after another.
use Rattle.plex_agent.proofs.Imports.{refl, arith, PassShown, IsLater, pass_at, AtWork, Hears}

pub later_same : (pass : PassShown) → IsLater pass pass
later_same pass = record { known = omega arith; sure = omega arith; same = refl }

pub later_then : (first second third : PassShown) → IsLater first second → IsLater second third → IsLater first third
later_then first second third one two = grind arith

pub hears_none : (worker : AtWork) → Hears worker worker
hears_none worker =
    record { owner = refl; passes = refl; later = λ on. later_same (pass_at worker.desk on); shown = refl }

pub hears_then : (first second third : AtWork) → Hears first second → Hears second third → Hears first third
hears_then first second third one two = grind (arith, later_then)
