-- None of the facilities so far is a candidate.
use Rattle.plex_shell.proofs.Imports.{◌≡◌, filter, drop, is_candidate, candidates}
use Rattle.plex_shell.proofs.shell.Shell.has_candidate.Given as goal

abbrev pub invariant-loop-pref : goal.invariant-loop-pref
invariant-loop-pref l = (l.pref-items ≡ l.self.form.prefs) × (filter
    (is_candidate l.self.shell l.by) (drop l.pref-index l.pref-items) ≡ candidates l.self.form l.self.shell l.by)
