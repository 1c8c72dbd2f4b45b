-- What a reader makes of the words of a line of a policy.
use Rattle.std.specs.Prelude.{ℕ, if◌then◌else◌, List, [], ◌∷◌, Option, None, codes}
use Rattle.cf_types.specs.declared.limits.TheConstants.{CAPACITY, CONNECTORS, VECTOR_BITS, HEADERS, LIST_LOCKS, UNITS}
use Rattle.cf_types.specs.declared.names.Name16.{Name16}
use Rattle.cf_types.specs.declared.forms.Kind.TheVariants as kind
use Rattle.plex_plain.specs.PlexSpell.declared.rigour.Rigour.{Rigour}
use Rattle.plex_plain.specs.PlexSpell.Words.{same_word, begins_with, words_behind}
use Rattle.plex_plain.specs.PlexSpell.Tokens.{Declared}
use Rattle.plex_plain.specs.PlexSpell.Places.{◌>>=◌, on_first, new_name_of}
use Rattle.plex_plain.specs.PlexSpell.Patterns.{Place, Values, values_at}
use Rattle.plex_plain.specs.PlexSpell.Patterns.Place.{Amount, ANewFacility, AFacility, AStructure, ANewName, Either, SomeRefs}
use Rattle.plex_script.specs.declared.declarations.Declaration.{Declaration}
use Rattle.plex_script.specs.declared.declarations.Declaration.TheVariants.{Facility, Structure, Pref, Connector}
use Rattle.plex_script.specs.LineReading.{whole_read}

abbrev pub some_units : Place
some_units = Amount 1 UNITS

abbrev pub facility_places : List Place
facility_places = ANewFacility ∷ some_units ∷ []

abbrev pub facility_from : Values facility_places → Declaration
facility_from v = Facility (record { cf = v.0; units = v.1.0 })

abbrev pub pref_places : List Place
pref_places = AStructure ∷ AFacility ∷ some_units ∷ []

abbrev pub pref_from : Values pref_places → Declaration
pref_from v = Pref v.0 (record { cf = v.1.0; units = v.1.1.0 })

abbrev pub a_disposition : Place
a_disposition = Either (codes "KEEP") (codes "DELETE")

abbrev pub cache_places : List Place
cache_places = Amount 1 CAPACITY ∷ Amount 1 CAPACITY ∷ Amount 1 CONNECTORS ∷ Amount 1 VECTOR_BITS ∷ a_disposition ∷ []

abbrev pub cache_from : Name16 → Values cache_places → Declaration
cache_from name v =
    Structure (record {
      name = name;
      kind = kind.Cache;
      caps = record { entries = v.0; elements = v.1.0 };
      conns = v.1.1.0;
      vector = v.1.1.1.0;
      keep = v.1.1.1.1.0;
      prefs = [];
    })

abbrev pub list_places : List Place
list_places = Amount 1 CAPACITY ∷ Amount 1 CAPACITY ∷ Amount 1 CONNECTORS ∷ Amount 1 VECTOR_BITS ∷ a_disposition
    ∷ Amount 1 HEADERS ∷ Amount 0 LIST_LOCKS ∷ SomeRefs ∷ []

abbrev pub list_from : Name16 → Values list_places → Declaration
list_from name v =
    Structure (record {
      name = name;
      kind = kind.List v.1.1.1.1.1.0 v.1.1.1.1.1.1.0 v.1.1.1.1.1.1.1.0;
      caps = record { entries = v.0; elements = v.1.0 };
      conns = v.1.1.0;
      vector = v.1.1.1.0;
      keep = v.1.1.1.1.0;
      prefs = [];
    })

abbrev pub lock_places : List Place
lock_places = Amount 1 CAPACITY ∷ Amount 1 CAPACITY ∷ Amount 1 CONNECTORS ∷ a_disposition ∷ []

abbrev pub lock_from : Name16 → Values lock_places → Declaration
lock_from name v =
    Structure (record {
      name = name;
      kind = kind.Lock;
      caps = record { entries = v.0; elements = v.1.0 };
      conns = v.1.1.0;
      vector = 0;
      keep = v.1.1.1.0;
      prefs = [];
    })

-- behind the name of a structure
abbrev pub form_at : Rigour → Declared → Name16 → List (List ℕ) → Option (Declaration × List (List ℕ))
form_at rigour declared name words =
    if begins_with (codes "CACHE") words then values_at rigour declared cache_places (cache_from name)
    (words_behind words)
    else if begins_with (codes "LIST") words then values_at rigour declared list_places (list_from name)
    (words_behind words)
    else if begins_with (codes "LOCK") words then values_at rigour declared lock_places (lock_from name)
    (words_behind words)
    else None

abbrev pub structure_at : Rigour → Declared → List (List ℕ) → Option (Declaration × List (List ℕ))
structure_at rigour declared words = on_first (new_name_of rigour) words >>= (λ name. form_at rigour declared name.0
    name.1)

abbrev pub declared_at : Rigour → Declared → List (List ℕ) → Option (Declaration × List (List ℕ))
declared_at rigour declared [] = None
declared_at rigour declared (verb ∷ words) =
    if same_word verb (codes "FACILITY") then values_at rigour declared facility_places facility_from words
    else if same_word verb (codes "STRUCTURE") then structure_at rigour declared words
    else if same_word verb (codes "PREF") then values_at rigour declared pref_places pref_from words
    else if same_word verb (codes "CONNECTOR") then values_at rigour declared (ANewName ∷ []) (λ v. Connector v.0)
    words
    else None

abbrev pub declaration_at : Rigour → Declared → List (List ℕ) → Option Declaration
declaration_at rigour declared words = declared_at rigour declared words >>= whole_read
