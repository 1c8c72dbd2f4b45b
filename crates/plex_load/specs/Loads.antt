-- What holds of each script that a number makes.
use Rattle.std.specs.Prelude.{◌≡◌, ℕ, ◌+◌, ◌≤◌, ◌==◌, if◌then◌else◌, length, sum_by}
use Rattle.plex_script.specs.CfTypes.declared.numbers.StrNo.{StrNo}
use Rattle.plex_script.specs.declared.scripts.Line.{Line}
use Rattle.plex_script.specs.declared.scripts.Script.{Script}
use Rattle.plex_script.specs.Agent.{first_step, most_asks}
use Rattle.plex_script.specs.Limits.{KeepsLimits}
use Rattle.plex_script.specs.Printed.{script_text}
use Rattle.plex_script.specs.Scripts.{IsScript}
use Rattle.plex_script.specs.WellFormed.{IsWellFormed}

-- ---- how much is called

-- how many calls a line makes on a structure at most
abbrev pub asks_on : StrNo → Line → ℕ
asks_on on line = if line.on.0 == on.0 then most_asks (first_step line.act line.retry) else 0

-- how many calls a script makes on a structure at most: those of its lines, and one as each connector departs
abbrev pub asks_of : Script → StrNo → ℕ
asks_of script on = sum_by (asks_on on) script.lines + length script.connectors

-- ---- the whole

pub record IsLoad (script : Script) : Type 0 where
  pub limits : KeepsLimits script
  pub formed : IsWellFormed script
  pub says : IsScript (script_text script) script
  pub lines : length script.lines ≡ 4004
  pub calls : (on : StrNo) → asks_of script on ≤ 3008
