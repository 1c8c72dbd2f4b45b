-- The report of a run: the policy, the history of each structure, and the transcript of each caller.
use Rattle.std.specs.Prelude.{◌≡◌, ℕ, ◌+◌, ◌==◌, ◌<◌, ◌≤◌, List, [], ◌∷◌, ◌++◌, length, take, map, filter, codes, slice_get}
use Rattle.std.specs.List.{flat_map, sum_by}
use Rattle.std.specs.Option.{option_map_or}
use Rattle.plex_report.specs.declared.spots.Spot.{Spot}
use Rattle.plex_report.specs.declared.spots.Spot.TheVariants.{Within, Past}
use Rattle.plex_script.specs.CfTypes.declared.forms.Pref.{Pref}
use Rattle.plex_script.specs.declared.asks.AnyHistory.{AnyHistory}
use Rattle.plex_script.specs.declared.scripts.Script.{Script}
use Rattle.plex_script.specs.declared.transcripts.Transcript.{Transcript}
use Rattle.plex_script.specs.PlexSpell.Words.{line_text}
use Rattle.plex_script.specs.PlexPlain.PolicyLines.{facility_line, structure_lines, connector_line}
use Rattle.plex_report.specs.Lines.{history_lines, transcript_lines}

-- the facilities CF1 to CF4 by number
abbrev pub with_number : ℕ → List Pref → List Pref
with_number n facilities = filter (λ facility. facility.cf.0 == n) facilities

abbrev pub by_number : List Pref → List Pref
by_number facilities =
    with_number 1 facilities ++ with_number 2 facilities ++ with_number 3 facilities ++ with_number 4 facilities

-- the lines of each, one after another; the first has this number
abbrev pub lines_each : {X : Type 0} → (ℕ → X → List (List ℕ)) → ℕ → List X → List (List ℕ)
lines_each lines first [] = []
lines_each lines first (x ∷ xs) = lines first x ++ lines_each lines (first + 1) xs

abbrev pub structures_lines : Script → List (List ℕ)
structures_lines script = lines_each (λ i form. structure_lines form) 0 script.structures

abbrev pub histories_lines : Script → List AnyHistory → List (List ℕ)
histories_lines script histories = lines_each (λ i history. history_lines script i history) 0 histories

-- the operator is caller 0, and the connectors follow
abbrev pub transcripts_lines : Script → List Transcript → List (List ℕ)
transcripts_lines script transcripts =
    lines_each (λ i transcript. transcript_lines script i transcript) 0 transcripts

-- the lines behind the facilities
abbrev pub lines_behind : Script → List AnyHistory → List Transcript → List (List ℕ)
lines_behind script histories transcripts =
    structures_lines script
    ++ (map connector_line script.connectors
    ++ (histories_lines script histories ++ (transcripts_lines script transcripts ++ codes "END" ∷ [])))

abbrev pub report_lines : Script → List AnyHistory → List Transcript → List (List ℕ)
report_lines script histories transcripts =
    map facility_line (by_number script.facilities) ++ lines_behind script histories transcripts

-- each line of the report, with its line feed
abbrev pub report : Script → List AnyHistory → List Transcript → List ℕ
report script histories transcripts = flat_map line_text (report_lines script histories transcripts)

-- ---- places of lines

-- the k-th line is this one of this section, or it stands so far behind all sections; each has a heading and its
-- items
abbrev pub IsSpot : {X : Type 0} → (X → ℕ) → List X → ℕ → Spot → Type 0
IsSpot size sections k (Within section line) =
    (section < length sections) × (k ≡ sum_by (λ x. size x + 1) (take section sections) + line)
    × (line ≤ option_map_or size (slice_get sections section) 0)
IsSpot size sections k (Past lines) = k ≡ sum_by (λ x. size x + 1) sections + lines
