-- How many calls a script can bring to a structure, and how many entries they make.
use Rattle.std.specs.Prelude.{ℕ, ◌+◌, ◌*◌, ◌≤◌, ◌==◌, if◌then◌else◌, List, length, sum_by}
use Rattle.cf_types.specs.declared.numbers.StrNo.{StrNo}
use Rattle.plex_script.specs.declared.asks.AnyHistory.{AnyHistory}
use Rattle.plex_script.specs.declared.scripts.Line.{Line}
use Rattle.plex_script.specs.declared.scripts.Script.{Script}
use Rattle.plex_script.specs.Agent.{first_step, most_asks}
use Rattle.plex_script.specs.Heard.{length_on}

-- how many calls a line makes at most: its call, and as often as it is asked again, an event round and the call; or an
-- event round alone
abbrev pub most_of_line : Line → ℕ
most_of_line line = most_asks (first_step line.act line.retry)

-- how many calls lines make on a structure at most
abbrev pub most_of_lines : StrNo → List Line → ℕ
most_of_lines on lines = sum_by (λ line. if line.on.0 == on.0 then most_of_line line else 0) lines

-- how many calls a script makes on a structure at most: those of its lines, and one as each connector departs
abbrev pub most_calls : Script → StrNo → ℕ
most_calls script on = most_of_lines on script.lines + length script.connectors

-- and how many entries they make: marks of two links that are down may stand before each
abbrev pub most_entries : Script → StrNo → ℕ
most_entries script on = 3 * most_calls script on

-- no history is longer than that
abbrev pub IsWithinScript : Script → List AnyHistory → Type 0
IsWithinScript script histories = (on : StrNo) → length_on histories on ≤ most_entries script on
