-- Places in a text, and the line that begins at one.
use Rattle.std.specs.Prelude.{◌≡◌, ◌≤◌, ◌+◌, ℕ, true, List, ◌∷◌, ◌++◌, length, drop}
use Rattle.report_fronts.specs.Cuts.{is_free}
use Rattle.report_fronts.specs.Steps.{At}
use Rattle.report_read.specs.declared.cursor.Cursor.{Cursor}

-- how far a text is read
abbrev pub at_of : Cursor → At
at_of cursor = (cursor.at, cursor.count)

-- the place is one of this text; each line before it has a feed
pub record IsPlaced (text : List ℕ) (cursor : Cursor) : Type 0 where
  pub within : cursor.at ≤ length text
  pub few : cursor.count ≤ cursor.at

-- this line begins here, and behind its feed is the other place
pub record IsCut (text : List ℕ) (from : Cursor) (line : List ℕ) (to : Cursor) : Type 0 where
  pub free : is_free line ≡ true
  pub is : drop from.at text ≡ line ++ 10 ∷ drop to.at text
  pub count : to.count ≡ from.count + 1
  pub placed : IsPlaced text to
