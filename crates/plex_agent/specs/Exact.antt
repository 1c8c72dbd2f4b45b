-- That a run is the script's, over links that tell which calls they answer Down.
use Rattle.std.specs.Prelude.{◌≡◌, ℕ, List, length, Option, Result, IfOk}
use Rattle.plex_board.specs.CfTypes.NoMemory.declared.wants.NoMemory.{NoMemory}
use Rattle.plex_board.specs.CfTypes.declared.numbers.CfId.{CfId}
use Rattle.plex_board.specs.CfLink.Links.{Telling}
use Rattle.plex_board.specs.PlexScript.declared.scripts.Script.{Script}
use Rattle.plex_board.specs.RunLinks.{AreTelling}
use Rattle.plex_board.specs.Serial.{serial_run}
use Rattle.plex_agent.specs.declared.in_turn.Finished.{Finished}

-- where the links tell which calls they answer Down, what is left is the script's run over links that tell so
abbrev pub IsSerialRun : {L : Type 0} → (L → Option ℕ) → (L → Option (List ℕ)) → (L → ℕ) → ℕ → Script → List L
    → Result Finished NoMemory → Type 0
IsSerialRun calls downs faults limit script links finished =
    (told : ℕ → CfId → Telling) → AreTelling calls downs faults told (length script.structures) links
    → IfOk finished (λ it. (it.histories ≡ (serial_run limit told script).histories)
    × (it.transcripts ≡ (serial_run limit told script).transcripts))
