use Rattle.plex_script.proofs.Imports.{◌≡◌, drop, facility_units}
use Rattle.plex_script.proofs.checks.facility_units.Given as goal

abbrev pub invariant-loop-facility : goal.invariant-loop-facility
invariant-loop-facility l = facility_units (drop l.facility-index l.facilities) l.cf ≡ facility_units l.facilities
    l.cf
