-- The forms of structures that a policy may state.
use Rattle.std.specs.Prelude.{◌≡◌, ◌≢◌, ℕ, ◌≤◌, Bool, true, false, All, AllPairs}
use Rattle.cf_types.specs.declared.limits.TheConstants.{FACILITIES, CONNECTORS, CAPACITY, VECTOR_BITS, HEADERS, LIST_LOCKS, UNITS}
use Rattle.cf_types.specs.declared.numbers.ConnId.{ConnId}
use Rattle.cf_types.specs.declared.numbers.CfId.{CfId}
use Rattle.cf_types.specs.declared.forms.Caps.{Caps}
use Rattle.cf_types.specs.declared.forms.Kind.{Kind}
use Rattle.cf_types.specs.declared.forms.Kind.TheVariants as kind
use Rattle.cf_types.specs.declared.forms.Pref.{Pref}
use Rattle.cf_types.specs.declared.forms.StrForm.{StrForm}

-- the number of a facility; that of a connector
abbrev pub IsFacility : CfId → Type 0
IsFacility cf = (1 ≤ cf.0) × (cf.0 ≤ FACILITIES)

abbrev pub IsConnector : ConnId → Type 0
IsConnector conn = (1 ≤ conn.0) × (conn.0 ≤ CONNECTORS)

-- a caller: the operator or a connector
abbrev pub IsCaller : ConnId → Type 0
IsCaller conn = conn.0 ≤ CONNECTORS

-- entries, and elements or records, from 1 on
pub record IsCapacity (caps : Caps) : Type 0 where
  pub some_entries : 1 ≤ caps.entries
  pub most_entries : caps.entries ≤ CAPACITY
  pub some_elements : 1 ≤ caps.elements
  pub most_elements : caps.elements ≤ CAPACITY

-- the three kinds of structure
abbrev pub is_cache : Kind → Bool
is_cache kind.Cache = true
is_cache (kind.List headers locks refs) = false
is_cache kind.Lock = false

abbrev pub is_list : Kind → Bool
is_list kind.Cache = false
is_list (kind.List headers locks refs) = true
is_list kind.Lock = false

abbrev pub is_lock : Kind → Bool
is_lock kind.Cache = false
is_lock (kind.List headers locks refs) = false
is_lock kind.Lock = true

-- bits, from 1 on; a lock structure has no vectors
abbrev pub IsVectorOf : Kind → ℕ → Type 0
IsVectorOf kind.Cache vector = (1 ≤ vector) × (vector ≤ VECTOR_BITS)
IsVectorOf (kind.List headers locks refs) vector = (1 ≤ vector) × (vector ≤ VECTOR_BITS)
IsVectorOf kind.Lock vector = vector ≡ 0

-- headers, from 1 on, and lock entries
abbrev pub IsKind : Kind → Type 0
IsKind kind.Cache = Unit {0}
IsKind (kind.List headers locks refs) = (1 ≤ headers) × (headers ≤ HEADERS) × (locks ≤ LIST_LOCKS)
IsKind kind.Lock = Unit {0}

abbrev pub IsPref : Pref → Type 0
IsPref pref = IsFacility pref.cf × (1 ≤ pref.units) × (pref.units ≤ UNITS)

pub record IsForm (form : StrForm) : Type 0 where
  pub kind : IsKind form.kind
  pub caps : IsCapacity form.caps
  pub some_conns : 1 ≤ form.conns
  pub most_conns : form.conns ≤ CONNECTORS
  pub vector : IsVectorOf form.kind form.vector
  pub prefs : All IsPref form.prefs
  pub apart : AllPairs (λ pref other. pref.cf.0 ≢ other.cf.0) form.prefs
