-- Which calls a line's items show: a test of a bit or a word shows none, and a run shows those on its structure alone.
use Rattle.plex_script.proofs.Imports.{arith, ◌≡◌, ℕ, List, [], StrForm, StrNo, Shown, ShowsTest, ShowsWord, numbers_on}

pub test_numbers : (form : StrForm) (place : StrNo) (index : ℕ) (items : List Shown) (on : StrNo)
    → ShowsTest form place index items → numbers_on on items ≡ []
test_numbers form place index items on shows = grind arith

pub word_numbers : (form : StrForm) (place : StrNo) (word : ℕ) (items : List Shown) (on : StrNo)
    → ShowsWord form place word items → numbers_on on items ≡ []
word_numbers form place word items on shows = grind arith
