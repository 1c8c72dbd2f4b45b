-- What proofs here name of other crates, and of this one's definitions. Declares nothing.
pub use Rattle.std.proofs.Common.{◌≡◌, ℕ, zero, suc, ◌+◌, ◌<◌, ◌≤◌, eqb, List, [], ◌∷◌, ◌++◌, set, get_or, Option, Some, unwrap_or, sym, refl, ap, ◌∙◌, subst, inl, inr, ⊎_elim, arith, rules}
pub use Rattle.std.proofs.lemmas.List.Sums.{sum_by-cons, sum_by-append}
pub use lib.ListN.{get_elem?}
pub use mathlib.Core.Option.{some, none, some-injective, some-ne-none}
pub use prog.Atomic.{either}
pub use Rattle.atomic_table.proofs.Lists.{at_set, at_snoc, set_else}
pub use Rattle.atomic_table.specs.Table.{State, Me, Act, step, keeps, takes, gives, Valid, carried_after, homes_after, put_back, Allows, Enters, Splits, Joins, rest}
pub use Rattle.cf_turn.specs.Turns.{stand_waiting, stand_in_turn, stand_spent, without_turns, both, turns_of, Knows, AllKnow, IsFree, IsTaken, Kept, Starts, Tries}
pub use Rattle.cf_turn.specs.declared.turns.Stand.{Stand}
