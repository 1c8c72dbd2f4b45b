-- The facilities that are left give what all of them give.
use Rattle.plex_shell.proofs.Imports.{◌≡◌, filter, drop, place_for, is_candidate, candidates}
use Rattle.plex_shell.proofs.shell.Shell.place.Given as goal

abbrev pub invariant-loop-pref : goal.invariant-loop-pref
invariant-loop-pref l = (l.pref-items ≡ l.self.form.prefs) × (place_for l.units (filter (is_candidate l.self.shell
    l.by) (drop l.pref-index l.pref-items)) ≡ place_for l.units (candidates l.self.form l.self.shell l.by))
