use Rattle.list_kept.proofs.Imports.{◌≡◌, ℕ, Option, None, false, length, nat_lt, position, unwrap_or, refl, sym, ap, ◌∙◌, position_or_len, any_is_placed, has_id, unplaced}
use Rattle.list_kept.proofs.keeping.Kept.header_of.Goals as goal

pub returns-in-None : goal.returns-in-None
returns-in-None c =
    let lists = c.self.inside.store.lists in
    let absent = unplaced c.args.id lists (sym c.header_of.ensures.header ∙ c.in-None.is) in
    let nowhere : nat_lt (position_or_len (has_id c.args.id) lists) (length lists) ≡ false =
    sym (any_is_placed (has_id c.args.id) lists) ∙ absent in
    let none : position (has_id c.args.id) lists ≡ None = rw nowhere refl in
    rw (← c.self.view_is) (ap (λ (o : Option ℕ). unwrap_or o 0) (sym none))
