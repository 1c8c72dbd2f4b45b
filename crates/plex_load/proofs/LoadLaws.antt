-- What holds of each load.
use Rattle.plex_load.proofs.Imports.{arith, ◌≡◌, ℕ, sym, subst, Script, script_text, IsScript, IsWellFormed, script-formed, script-reads, load_script, IsLoad}
use Rattle.plex_load.proofs.Numbering.{load_numbered}
use Rattle.plex_load.proofs.{EachLine.length-load, LoadCalls.load_calls, LoadLimits.load-keeps}

-- its printed text says the load, with the same numbers of lines
pub load-says : (n : ℕ) → IsScript (script_text (load_script n)) (load_script n)
load-says n = grind (arith, load_numbered, script-reads, load-keeps)

pub load-formed : (n : ℕ) → IsWellFormed (load_script n)
load-formed n = script-formed (script_text (load_script n)) (load_script n) (load-says n)

pub load-holds : (n : ℕ) → IsLoad (load_script n)
load-holds n = record {
  limits = load-keeps n;
  formed = load-formed n;
  says = load-says n;
  lines = length-load n;
  calls = load_calls n;
}

pub holds_of_load : (n : ℕ) (script : Script) → script ≡ load_script n → IsLoad script
holds_of_load n script is = subst IsLoad (sym is) (load-holds n)
