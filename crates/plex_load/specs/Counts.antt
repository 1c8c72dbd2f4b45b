-- The entries that are calls of a connector.
use Rattle.std.specs.Prelude.{◌==◌, ◌&&◌, Bool, true, false}
use Rattle.plex_script.specs.CfTypes.declared.numbers.ConnId.{ConnId}
use Rattle.plex_script.specs.EngineApi.declared.asks.What.{What}
use Rattle.plex_script.specs.EngineApi.declared.asks.What.TheVariants as what
use Rattle.plex_script.specs.EngineApi.declared.histories.Entry.{Entry}

abbrev pub is_call : {C : Type 0} → What C → Bool
is_call (what.Call ask) = true
is_call (what.Lost cf) = false

abbrev pub is_call_by : {C R : Type 0} → ConnId → Entry C R → Bool
is_call_by conn entry = entry.by.0 == conn.0 && is_call entry.what
