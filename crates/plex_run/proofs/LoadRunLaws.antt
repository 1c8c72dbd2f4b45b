-- The run of a load: its script can be run, and fills no journal.
use Rattle.plex_run.proofs.Imports.{◌≡◌, ℕ, ◌≤◌, ◌⊎◌, inr, Option, Some, None, refl, subst, arith, Name16, Script, script_text, IsRunnable, most_calls, Reading, load_script, IsLoad, Wires, CanFill, IsRun, IsRunOf, full_of, Output, HasFailed, Writes, WritesFront, Gains, memory_line, IsLoadRun, EndsLoad, summary_of, Way}
use Rattle.plex_run.proofs.{OutcomeLaws.AreFresh, OutcomeLaws.is_run, RunnableLaws.runnable}
use Rattle.plex_run.proofs.{TextLaws.task_without_memory, TextLaws.task_told, FullLaws.AreWithin, FullLaws.can_fill}

pub load_runnable : (script : Script) → IsLoad script → IsRunnable script
load_runnable script load = runnable script load.formed

-- ---- journals

-- a journal that can be full takes more calls
none_fills : (script : Script) (full : Option Name16) → IsLoad script → CanFill script full → full ≡ None
none_fills script None load can = refl
none_fills script (Some name) load can =
    let few : most_calls script can.0 ≤ 3008 = load.calls can.0 in absurd (omega (arith, few, can.4))

-- ---- the run

pub load_run : {links : Wires} (n : ℕ) {script : Script} {reading : Reading} → AreFresh → AreWithin
    → script ≡ load_script n → IsLoad script → IsRunOf links Way.OnThreads script reading → IsLoadRun links n reading
load_run {links} n {script = script} {reading = reading} fresh within is load run =
    subst (λ (s : Script). IsRun links Way.OnThreads (script_text s) s reading × (full_of s reading ≡ None)) is (
      is_run links Way.OnThreads (script_text script) script reading fresh within load.says run,
      none_fills script (full_of script reading) load (can_fill script reading within run.shows),
    )

-- ---- ends

-- there was no memory for the run
pub load_without_memory : (links : Wires) (n : ℕ) (out : Output) (status : ℕ) → status ≡ 6 → Gains out memory_line
    → EndsLoad links n out status
load_without_memory links n out status six tells =
    record { task = task_without_memory six tells; statuses = inr (inr six) }

-- the summary of the run was written, as far as it was
pub load_ends : (links : Wires) (n : ℕ) (reading : Reading) (out : Output) (status : ℕ) → IsLoadRun links n reading
    → (status ≡ 0 → Writes out (summary_of n reading))
    → (status ≡ 5 → HasFailed out × WritesFront out (summary_of n reading)) → (status ≡ 6 → Gains out memory_line)
    → (status ≡ 0) ⊎ ((status ≡ 5) ⊎ (status ≡ 6)) → EndsLoad links n out status
load_ends links n reading out status run whole front memory statuses = grind (arith, task_told)
