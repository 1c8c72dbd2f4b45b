use Rattle.lock_interests.proofs.Imports.{◌≡◌, true, sym, subst₂, ap, ◌∙◌, has_interest, InterestsView, AreOwned}
use Rattle.lock_model.specs.Interests as interests
use Rattle.lock_interests.proofs.CountLaws.{has-joined, owned-altered}
use Rattle.lock_interests.proofs.interests.Interests.change.Goals as goal

pub invariant_of-self : goal.invariant_of-self
invariant_of-self c =
    let w = c.args.w.now in
    let owners = c.self.inside.owners.owners in
    let records = c.self.inside.records.records in
    let has : has_interest w.r w.conn owners ≡ true = has-joined w.r w.conn owners records
    ∙ ap (λ (v : InterestsView). interests.has_interest w.r w.conn v.interests) c.self.view_is
    ∙ sym c.has_interest.ensures ∙ c.if-has_interest.true in
    subst₂ AreOwned (sym c.set.ensures.owners) (sym c.give_record.ensures.records)
    (owned-altered w.r w.conn w.excl w.rec owners records has c.self.invariant)
