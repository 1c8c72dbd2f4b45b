use Rattle.lock_table.proofs.Imports.{◌≡◌, map, false, refl, sym, ◌∙◌, none_placed, Held, is_interest, in_retention}
use Rattle.lock_table.proofs.EntryLaws.{masked_same, changed_put, changed_none, retention_else}
use Rattle.lock_table.proofs.entry.Entry.set_retained.Goals as goal

put : (c : goal.After-put_retention)
    → c.put_retention.new.owners ≡ map (in_retention c.args.r.now c.args.conn c.args.retained) c.self.inside.owners
put c =
    let d : Held = record { r = c.args.r.now; conn = c.args.conn; excl = false; retained = false } in
    changed_put c.args.r.now c.args.conn _ (retention_else c.args.r.now c.args.conn c.args.retained) _
    (λ (x : Held). record x { retained = c.args.retained }) _ _ d (λ x e. rw e refl)
    (rw c.self.view_is c.requires) (sym c.place_of.ensures ∙ c.in-Some.is) (c.put_retention.ensures d)

pub invariant_of-self : goal.invariant_of-self
invariant_of-self c = rw (put c) (masked_same c.self.inside.mask _ _ (λ x. refl) c.self.invariant)

pub returns-in-Some : goal.returns-in-Some
returns-in-Some c = rw (← c.self.view_is) (put c)

pub returns-in_default : goal.returns-in_default
returns-in_default c = rw (← c.self.view_is)
    (changed_none c.args.r.now c.args.conn _ (retention_else c.args.r.now c.args.conn c.args.retained)
    _ (none_placed (is_interest c.args.r.now c.args.conn) _ (sym c.place_of.ensures ∙ c.in_default.is)))
