-- Data that is kept as bytes and seen as a list.
use Rattle.std.specs.Prelude.{◌≡◌, ℕ, ◌+◌, ◌-◌, ◌/◌, ◌≤◌, ◌<◌, List, length, Option, None, Some}
use Rattle.cf_types.specs.Term.{fault_at}
use Rattle.cf_types.specs.declared.limits.TheConstants.{BODY_BYTES, ELEMENT_BYTES}
use Rattle.cf_types.specs.declared.bodies.BodyFault.{BodyFault}
use Rattle.cf_types.specs.declared.bodies.BodyFault.TheVariants.{BadName, TooLong, NoMemory}

-- which fault of a text that should be data is named; want of memory says nothing of the text
abbrev pub IsBodyFaultOf : List ℕ → BodyFault → Type 0
IsBodyFaultOf text (TooLong len) = (BODY_BYTES < length text) × (len ≡ length text)
IsBodyFaultOf text (BadName at) = (length text ≤ BODY_BYTES) × (fault_at text ≡ Some at)
IsBodyFaultOf text (NoMemory cause) = Unit {0}

-- how many elements data take, where there are any; one that is filled in part counts whole
abbrev pub elements_of : Option (List ℕ) → ℕ
elements_of None = 0
elements_of (Some bytes) = (length bytes + (ELEMENT_BYTES - 1)) / ELEMENT_BYTES
