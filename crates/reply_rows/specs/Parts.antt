-- Words and rows that several kinds of replies share.
use Rattle.std.specs.Prelude.{ℕ, Bool, List, Option, codes}
use Rattle.cf_types.specs.declared.names.Name16.{Name16}
use Rattle.cf_types.specs.declared.numbers.ConnId.{ConnId}
use Rattle.cf_types.specs.declared.numbers.EntryId.{EntryId}
use Rattle.cf_types.specs.declared.resources.Resource.{Resource}
use Rattle.line_rows.specs.Rows.{Single, Row, done, led, and_then}
use Rattle.line_rows.specs.Singles.{number, a_name, a_connector, marked, either, or_word, joined, as_one}

abbrev pub small : Single ℕ
small = number 4294967295

abbrev pub an_id : Single EntryId
an_id =
    as_one (λ (id : EntryId). id.0) (λ n. (let id : EntryId = record { 0 = n } in id))
    (marked 35 (number 18446744073709551615))

abbrev pub a_resource : Single Resource
a_resource =
    as_one (λ (r : Resource). (r.name, r.hash))
    (λ (p : Name16 × ℕ). (let r : Resource = record { name = p.0; hash = p.1 } in r)) (joined 64 a_name small)

abbrev pub a_state : Single Bool
a_state = either (codes "EXCL") (codes "SHR")

abbrev pub a_change : Single Bool
a_change = either (codes "CHANGED") (codes "UNCHANGED")

-- whether a capacity that is altered has reached its target
abbrev pub a_progress : Single Bool
a_progress = either (codes "DONE") (codes "MORE")

abbrev pub a_holder : List Name16 → Single (Option ConnId)
a_holder connectors = or_word (codes "NONE") (a_connector connectors)

-- a word alone; a word and a value; a word and two values
abbrev pub plain : List ℕ → Row (Unit {0})
plain word = led word done

abbrev pub with_one : {A : Type 0} → List ℕ → Single A → Row (A × Unit {0})
with_one word one = led word (and_then one done)

abbrev pub with_two : {A B : Type 0} → List ℕ → Single A → Single B → Row (A × (B × Unit {0}))
with_two word one other = led word (and_then one (and_then other done))
