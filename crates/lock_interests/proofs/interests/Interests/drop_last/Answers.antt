use Rattle.lock_interests.proofs.Imports.{◌≡◌, ◌-◌, Some, length, ◌∙◌, arith, slice_get, length-map, AreInterests, interests_without-last, with_record, interests_of}
use Rattle.lock_interests.proofs.ReadLaws.{last-joined, last_there}
use Rattle.lock_interests.proofs.interests.Interests.drop_last.Goals as goal

pub returns-in-Some-clause-interests : goal.returns-in-Some-clause-interests
returns-in-Some-clause-interests c =
    let owners = c.self.inside.owners.owners in
    let records = c.self.inside.records.records in
    let are : AreInterests (interests_of owners records) = grind arith in
    let there : slice_get owners (length owners - 1) ≡ Some c.in-Some.last = grind arith in
    c.remove.ensures.interests ∙ rw (← c.self.view_is) (interests_without-last (interests_of owners records)
    (with_record records c.in-Some.last) are (last-joined owners records c.in-Some.last there))

pub returns-in_default-clause-interests : goal.returns-in_default-clause-interests
returns-in_default-clause-interests c = grind (arith, length-map, last_there)
