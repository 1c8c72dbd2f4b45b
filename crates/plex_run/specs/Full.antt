-- Which structure's journal got full.
use Rattle.std.specs.Prelude.{ℕ, ◌==◌, Bool, false, List, Option, option_map, find}
use Rattle.std.specs.List.{list_any, enumerate_from}
use Rattle.plex_load.specs.CfTypes.declared.names.Name16.{Name16}
use Rattle.plex_load.specs.CfTypes.declared.forms.StrForm.{StrForm}
use Rattle.plex_load.specs.PlexScript.declared.transcripts.AgentEnd.{AgentEnd}
use Rattle.plex_load.specs.PlexScript.declared.transcripts.AgentEnd.TheVariants.{Done, JournalFull, NoMemory}
use Rattle.plex_load.specs.PlexScript.declared.transcripts.Transcript.{Transcript}

-- a caller's work ended at the full journal of this structure
abbrev pub ends_full_at : ℕ → AgentEnd → Bool
ends_full_at place Done = false
ends_full_at place (JournalFull on) = on.0 == place
ends_full_at place (NoMemory cause) = false

abbrev pub is_full_at : List Transcript → ℕ → Bool
is_full_at transcripts place = list_any (λ (transcript : Transcript). ends_full_at place transcript.end) transcripts

-- the name of the first structure at whose full journal a caller's work ended
abbrev pub full_structure : List StrForm → List Transcript → Option Name16
full_structure structures transcripts =
    option_map (λ (place : ℕ × StrForm). place.1.name) (find (λ place. is_full_at transcripts place.0)
    (enumerate_from 0 structures))
