-- The lines of a policy in plain form.
use Rattle.std.specs.Prelude.{ℕ, List, [], ◌∷◌, map, codes}
use Rattle.std.specs.Fmt.{decimal}
use Rattle.cf_types.specs.declared.names.Name16.{Name16}
use Rattle.cf_types.specs.declared.forms.Pref.{Pref}
use Rattle.cf_types.specs.declared.forms.StrForm.{StrForm}
use Rattle.plex_spell.specs.FormWords.{form_tokens}
use Rattle.plex_spell.specs.Tokens.{name_word}
use Rattle.plex_spell.specs.Words.{line_of}
use Rattle.plex_plain.specs.Naming.{facility_word}
use Rattle.plex_plain.specs.PlainWords.{plain_words}

abbrev pub facility_line : Pref → List ℕ
facility_line facility = line_of (codes "FACILITY" ∷ facility_word facility.cf ∷ decimal facility.units ∷ [])

abbrev pub form_line : StrForm → List ℕ
form_line form = line_of (codes "STRUCTURE" ∷ name_word form.name ∷ plain_words [] [] (form_tokens form.kind form))

abbrev pub pref_line : StrForm → Pref → List ℕ
pref_line form pref = line_of (codes "PREF" ∷ name_word form.name ∷ facility_word pref.cf ∷ decimal pref.units ∷ [])

abbrev pub connector_line : Name16 → List ℕ
connector_line name = line_of (codes "CONNECTOR" ∷ name_word name ∷ [])

-- a structure, and where its instances may stand
abbrev pub structure_lines : StrForm → List (List ℕ)
structure_lines form = form_line form ∷ map (pref_line form) form.prefs
