-- What proofs here name of other crates, and of this one's definitions. Declares nothing.
pub use Rattle.std.proofs.Common.{◌≡◌, ◌≢◌, ◌+◌, ◌<◌, ℕ, zero, suc, Bool, true, false, List, [], ◌∷◌, ◌++◌, length, set, get_or, All, AllPairs, Contains, Option, refl, sym, ap, ◌∙◌, subst, ⊎_elim, arith, append-nil, slice_index, ◌==◌, ◌*◌, not, filter, Some, None, eq-eqb, ne_eqb, if◌then◌else◌, ◌≤◌, ◌⊎◌, inl, inr, true≢false, length-append, ◌-◌, ◌%◌, ◌^◌, cond, ◌&&◌, sum_by, eq-zero-or-pos, map, append_assoc}
pub use Rattle.std.proofs.lemmas.Bool.{eqb-true, eqb-false}
pub use Rattle.std.proofs.lemmas.List.{get_or-set_same, get_or-set_other, length-set, get_or_default}
pub use Rattle.std.proofs.lemmas.List.Elements.{All-weaker, All-nil, All-cons, All-append, All-map, All-contains, All-contains_itself, Contains-append_left, Contains-append_right, Contains-push, All-push, All-filter, All-head, All-tail}
pub use Rattle.std.proofs.lemmas.List.FromFn.{get_or-range_with_len, length-range_with_len, map-range_with_len_more}
pub use Rattle.std.proofs.lemmas.List.Sums.{sum_by_push, sum_by-cons, sum_by-append, get_or-le-sum_by}
pub use Rattle.std.specs.List.{range_with_len}
pub use Rattle.std.specs.Slots.{slots_items}
pub use lib.ListN.{get_elem?}
pub use mathlib.Core.Logic.{dite}
pub use mathlib.Core.Option.{some, some-injective, some-ne-none}
pub use native.Mathlib.Decide.{ℕ_discrete}
pub use prog.Atomic.{either}
pub use Rattle.atomic_table.proofs.Lists.{at_set, set_here, set_else, at_longer}
pub use Rattle.atomic_table.specs.Seated.{TableId}
pub use Rattle.atomic_table.specs.Table.{Me, Allows, Splits, Joins, State, keeps}
pub use Rattle.atomic_table.specs.declared.shared.Seat.{Seat}
pub use Rattle.lock_words.specs.Hands.{HandSeen, LocksSeen, hand_seen, IsHand, IsGathered, IsLast, AreAll, IsOthers, HasValue, all_held, IsLocks, new_hand, hand_released}
pub use Rattle.lock_words.specs.Rule.{total, IsSpent, IsOwn, IsAnswered, IsLive, AllFit, Kept}
pub use Rattle.lock_words.specs.Values.{tally, AreCompatible, says_excl, held_as, noted, IsValue, Admits, Adds, is_hold}
pub use Rattle.lock_words.specs.View.{grant, spent_view, joined, hold, reading, looked, granted, tried, released, Becomes, without_right, next_view, fresh_view}
pub use Rattle.lock_words.specs.declared.view.View.{View}
pub use Rattle.lock_words.specs.declared.{view.Grant.Grant, view.Hold.Hold, view.Reading.Reading, view.Size.Size}
