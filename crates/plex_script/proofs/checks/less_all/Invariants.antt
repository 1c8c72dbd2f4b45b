use Rattle.plex_script.proofs.Imports.{◌≡◌, drop, units_of, all_prefs, remainder}
use Rattle.plex_script.proofs.checks.less_all.Given as goal

abbrev pub invariant-loop-form : goal.invariant-loop-form
invariant-loop-form l = remainder l.left (units_of (all_prefs (drop l.form-index l.structures)) l.cf) ≡ remainder
    l.units (units_of (all_prefs l.structures) l.cf)
