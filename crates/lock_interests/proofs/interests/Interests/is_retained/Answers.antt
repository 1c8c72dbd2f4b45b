use Rattle.lock_interests.proofs.Imports.{◌==◌, ◌∙◌, ap, find, Held, is_held_retained}
use Rattle.lock_interests.proofs.{OwnerLaws.find_both, OwnerLaws.retained-found, ReadLaws.retained-joined}
use Rattle.lock_interests.proofs.interests.Interests.is_retained.Goals as goal

pub returns : goal.returns
returns c = rw (← c.self.view_is) (c.is_held_retained.ensures
    ∙ ap is_held_retained (c.find_by.ensures ∙ ap (find (λ (held : Held). held.conn.0 == c.args.conn.0))
    c.owners.ensures ∙ find_both c.args.r.now c.args.conn c.self.inside.owners.owners)
    ∙ retained-found c.args.r.now c.args.conn c.self.inside.owners.owners c.len.ensures.owners.one_each
    ∙ retained-joined c.args.r.now c.args.conn c.self.inside.owners.owners c.self.inside.records.records)
