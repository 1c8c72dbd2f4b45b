-- The greatest so far, and those that are left, give the greatest of all.
use Rattle.plex_shell.proofs.Imports.{◌≡◌, filter, drop, fold, map, max, greatest_units, is_candidate, candidates}
use Rattle.plex_shell.proofs.shell.Shell.greatest_units.Given as goal

abbrev pub invariant-loop-pref : goal.invariant-loop-pref
invariant-loop-pref l = (l.pref-items ≡ l.self.form.prefs)
    × (fold max l.most (map (λ pref. pref.units) (filter (is_candidate l.self.shell l.by)
    (drop l.pref-index l.pref-items))) ≡ greatest_units (candidates l.self.form l.self.shell l.by))
