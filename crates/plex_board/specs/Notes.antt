-- What a note does to a pass.
use Rattle.std.specs.Prelude.{max, Option, None, Some}
use Rattle.plex_board.specs.Passes.{PassShown, NoteShown}

-- the pass once it was told a note: each of its numbers is the larger of both
abbrev pub with_note : NoteShown → PassShown → PassShown
with_note note pass = record pass { known = max pass.known note.known; sure = max pass.sure note.sure }

abbrev pub with_any_note : Option NoteShown → PassShown → PassShown
with_any_note None pass = pass
with_any_note (Some note) pass = with_note note pass
