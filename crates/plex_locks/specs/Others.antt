-- Which scripts lock words can do: the first line that asks something else.
use Rattle.std.specs.Prelude.{◌==◌, ◌+◌, ◌-◌, ℕ, Bool, if◌then◌else◌, List, [], ◌∷◌, Option, None, Some, codes}
use Rattle.plex_script.specs.CfTypes.declared.forms.StrForm.{StrForm}
use Rattle.plex_script.specs.CfTypes.Forms.{is_lock}
use Rattle.plex_script.specs.PlexSpell.Words.{lines_of, words_of, begins_with}
use Rattle.plex_script.specs.Scripts.{line_number}
use Rattle.plex_script.specs.declared.scripts.Script.{Script}
use Rattle.plex_locks.specs.Requests.{other_line}

-- the place of the first structure that isn't the one lock structure
abbrev pub second_structure : List StrForm → Option ℕ
second_structure [] = None
second_structure (form ∷ forms) = Some 1

abbrev pub other_structure : List StrForm → Option ℕ
other_structure [] = None
other_structure (form ∷ forms) = if is_lock form.kind then second_structure forms else Some 0

abbrev pub is_declaring : List ℕ → Bool
is_declaring line = begins_with (codes "STRUCTURE") (words_of line)

-- the number of the line that declares the structure at this place, behind so many lines
abbrev pub declaring : ℕ → ℕ → List (List ℕ) → Option ℕ
declaring place count [] = None
declaring place count (line ∷ lines) =
    if is_declaring line
    then (if place == 0 then Some (line_number (count + 1)) else declaring (place - 1) (count + 1) lines)
    else declaring place (count + 1) lines

abbrev pub other_from : Option ℕ → List ℕ → Script → Option ℕ
other_from (Some place) text script = declaring place 0 (lines_of text)
other_from None text script = other_line script.lines

-- the number of the first line of a script's text that asks something else
abbrev pub first_other : List ℕ → Script → Option ℕ
first_other text script = other_from (other_structure script.structures) text script
