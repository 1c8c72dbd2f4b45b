-- What the runs on one thread and on many leave is what a run leaves.
use Rattle.plex_run.proofs.Imports.{◌≡◌, ℕ, List, length, Option, Result, Ok, Err, IfOk, arith, slice_get_within, get_within, NoMemory, CfId, Telling, Script, ShowsHistories, AreTelling, AreRunLinks, serial_run, Finished, marks_facilities, Way, wires, IsRunOf, AreMarked, journal_limit, reading_of}

module _ {L : Type 0} (calls : L → Option ℕ) (downs : L → Option (List ℕ)) (faults : L → ℕ) (old new : List L)
    (script : Script) where
  marked : (it : Finished) → ShowsHistories journal_limit script it.histories it.transcripts
      → AreRunLinks calls downs faults script.structures it.histories old new → AreMarked (reading_of it)
  marked it shows asked x entries there =
      let form = get_within script.structures x
      (let within = slice_get_within it.histories x entries there in omega (arith, within, shows.structures)) in
      let right = shows.histories_right x form.0 entries form.1 there in
      marks_facilities form.0 entries right.legal (λ cf other. asked.others x form.0 entries cf form.1 there other)

  -- on one thread
  pub serial_run_is : (result : Result Finished NoMemory) (by : Way) → ((told : ℕ → CfId → Telling) → AreTelling
      calls downs faults told (length script.structures) old → IfOk result (λ it. (it.histories ≡ (serial_run
      journal_limit told script).histories) × (it.transcripts ≡ (serial_run journal_limit told script).transcripts)))
      → IfOk result (λ it. ShowsHistories journal_limit script it.histories it.transcripts)
      → IfOk result (λ it. AreRunLinks calls downs faults script.structures it.histories old new)
      → IfOk result (λ it. IsRunOf (wires calls downs faults old new) by script (reading_of it))
  serial_run_is (Ok it) by exact shows asked = grind (arith, marked)
  serial_run_is (Err e) by exact shows asked = tt

  -- on threads
  pub threads_run_is : (result : Result Finished NoMemory) (by : Way) → by ≡ Way.OnThreads
      → IfOk result (λ it. ShowsHistories journal_limit script it.histories it.transcripts)
      → IfOk result (λ it. AreRunLinks calls downs faults script.structures it.histories old new)
      → IfOk result (λ it. IsRunOf (wires calls downs faults old new) by script (reading_of it))
  threads_run_is (Ok it) by on_threads shows asked = grind (arith, marked)
  threads_run_is (Err e) by on_threads shows asked = tt
