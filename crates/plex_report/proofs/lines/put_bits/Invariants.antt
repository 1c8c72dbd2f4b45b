use Rattle.plex_report.proofs.Imports.{◌≡◌, ◌-◌, ◌++◌, binary_digits}
use Rattle.plex_report.proofs.lines.put_bits.Given as goal

-- with the digits that are left the line is what it is to be
abbrev pub invariant-digits : goal.invariant-digits
invariant-digits l = l.line.items ++ binary_digits (32 - l._i) l.left ≡ l.initial.line.items
    ++ binary_digits 32 l.bits
