use Rattle.plex_script.proofs.Imports.{◌≡◌, drop, units_of, remainder}
use Rattle.plex_script.proofs.checks.less.Given as goal

abbrev pub invariant-loop-pref : goal.invariant-loop-pref
invariant-loop-pref l = remainder l.left (units_of (drop l.pref-index l.prefs) l.cf) ≡ remainder l.units
    (units_of l.prefs l.cf)
