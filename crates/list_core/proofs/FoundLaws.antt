-- What is known of a record that a command names.
use Rattle.list_core.proofs.Imports.{arith, ◌≡◌, ℕ, Bool, true, List, Option, IfSome, list_any, false≢true, any_is_found, At, Key16, Lists, all_records, is_id, record_of, lists_without, the_record, with_record, with_new_key, put_back, with_new_data, renewed, IsFound, updated_with}

pub found-any : (lists : Lists) (at : At) → IsFound lists at → list_any (is_id (the_record lists at).id)
    (all_records lists) ≡ true
found-any lists at is = grind (arith, any_is_found)

-- it has the name of the one with its id
pub found-named : (lists : Lists) (at : At) → IsFound lists at
    → IfSome (record_of (the_record lists at).id lists) (λ old. old.name ≡ (the_record lists at).name)
found-named lists at is = grind arith

-- it is the record that is taken out and put back
pub found-put_back : (head : Bool) (header : ℕ) (key : Option Key16) (lists : Lists) (at : At) → IsFound lists at →
    put_back head header key (record_of (the_record lists at).id lists) (lists_without (the_record lists at).id lists)
    ≡ with_record head header (with_new_key key (the_record lists at)) (lists_without (the_record lists at).id lists)
found-put_back head header key lists at is = grind (arith, false≢true)

-- it is the record with the new data, or else with its own
pub found-renewed : (lists : Lists) (at : At) (body adj : Option (List ℕ)) → IsFound lists at
    → renewed (updated_with adj (the_record lists at)) body (record_of (the_record lists at).id lists)
    ≡ with_new_data body adj (the_record lists at)
found-renewed lists at body adj is = grind (arith, false≢true)

pub ruleset found_told = (found-put_back, found-named, found-renewed)
