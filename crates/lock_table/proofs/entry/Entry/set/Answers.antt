use Rattle.lock_table.proofs.Imports.{◌≡◌, map, false, refl, sym, ◌∙◌, none_placed, Held, is_interest, in_state}
use Rattle.lock_table.proofs.EntryLaws.{masked_same, changed_put, changed_none, state_else}
use Rattle.lock_table.proofs.entry.Entry.set.Goals as goal

put : (c : goal.After-put_state)
    → c.put_state.new.owners ≡ map (in_state c.args.r.now c.args.conn c.args.excl) c.self.inside.owners
put c =
    let d : Held = record { r = c.args.r.now; conn = c.args.conn; excl = false; retained = false } in
    changed_put c.args.r.now c.args.conn _ (state_else c.args.r.now c.args.conn c.args.excl) _
    (λ (x : Held). record x { excl = c.args.excl }) _ _ d (λ x e. rw e refl)
    (rw c.self.view_is c.requires) (sym c.place_of.ensures ∙ c.in-Some.is) (c.put_state.ensures d)

pub invariant_of-self : goal.invariant_of-self
invariant_of-self c = rw (put c) (masked_same c.self.inside.mask _ _ (λ x. refl) c.self.invariant)

pub returns-in-Some : goal.returns-in-Some
returns-in-Some c = rw (← c.self.view_is) (put c)

pub returns-in_default : goal.returns-in_default
returns-in_default c =
    rw (← c.self.view_is) (changed_none c.args.r.now c.args.conn _ (state_else c.args.r.now c.args.conn c.args.excl)
    _ (none_placed (is_interest c.args.r.now c.args.conn) _ (sym c.place_of.ensures ∙ c.in_default.is)))
