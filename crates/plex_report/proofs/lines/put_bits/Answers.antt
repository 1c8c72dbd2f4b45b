use Rattle.plex_report.proofs.Imports.{◌≡◌, ◌-◌, append-nil, append_assoc, arith}
use Rattle.plex_report.proofs.Digits.{digits_end}
use Rattle.plex_report.proofs.lines.put_bits.Goals as goal

pub returns : goal.returns
returns c = let none : 32 - c.digits._i ≡ 0 = omega arith in grind (arith, digits_end, append-nil, append_assoc)
