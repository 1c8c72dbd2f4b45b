-- The headings of histories and transcripts, as rows of words.
use Rattle.std.specs.Prelude.{ℕ, List}
use Rattle.line_rows.specs.Rows.{Row, done, led, and_then}
use Rattle.line_rows.specs.Singles.{number}

-- a word, a name, and how many lines follow: a number of 64 bits
abbrev pub heading_row : List ℕ → List ℕ → Row (ℕ × Unit {0})
heading_row word name = led word (led name (and_then (number 18446744073709551615) done))
