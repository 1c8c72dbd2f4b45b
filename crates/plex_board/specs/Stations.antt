-- What a station has beside its structure's cell.
use Rattle.std.specs.Prelude.{◌≡◌, ℕ}
use Rattle.plex_script.specs.CfTypes.declared.forms.Kind.{Kind}
use Rattle.plex_board.specs.Types.{type_of_kind}
use Rattle.plex_board.specs.Passes.{NoteShown}
use Rattle.plex_board.specs.Cells.{CellShown, IsNoteOf}

-- a note of the same structure
abbrev pub IsOfSame : NoteShown → NoteShown → Type 0
IsOfSame first note = (note.str_type ≡ first.str_type) × (note.words ≡ first.words)

-- a station's box has notes of its cell, and its kind and the length of its vectors are the cell's
pub record IsKept {L : Type 0} (cell : CellShown L) (first : NoteShown) (kind : Kind) (vector : ℕ) : Type 0 where
  pub notes : IsNoteOf cell first
  pub kind_is : kind ≡ cell.form.kind
  pub type_is : cell.str_type ≡ type_of_kind kind
  pub vector_is : vector ≡ cell.form.vector
  pub len_is : cell.words.len ≡ vector
