-- What proofs here name of other crates, and of this one's definitions. Declares nothing.
pub use Rattle.cf_types.proofs.Imports.{map-append, set-get_or, length-replicate, take_more, get_or-take, length-take-le, take_more_set, filter-append, All-nil, All-cons, All-head, All-tail, All-contains, All-weaker, Contains-push_cases, Contains-append_left, Contains-push, All-append, All-map, All-push, All-pop, length-range_with_len, get_or-range_with_len, map-range_with_len_more, all_pairs_push, fold-append, range_with_len, get_elem?, some, some-injective, some-ne-none, dec_le}
pub use Rattle.vec_world.proofs.Imports.{HasStore, IsOpen, IsCommitted, bits_at, IsSettled, StampsUpTo, bits_of, stamp_of, word_of, CarriesWord}
pub use Rattle.std.proofs.Common.{◌≡◌, ◌^◌, ◌<◌, ◌≤◌, ℕ, List, [], ◌∷◌, ◌++◌, refl, sym, subst, inl, inr, ⊎_elim, arith, ◌≢◌, map, ap, ◌∙◌, ne_eqb, append-nil, All, if◌then◌else◌, ◌==◌, ◌⊎◌, ◌-◌, ◌/◌, zero, suc, length, set, max, Contains, ◌+◌, ◌*◌, mul-le-mul_right, suc-mul, Bool, true, false, true≢false, replicate, slice_index, take, get_or, Some, append_assoc, slice_get, drop, get_or-drop, drop-set-lt, drop-drop, length-set, get_or-set_other, get_or-set_same, rules}
pub use Rattle.std.proofs.lemmas.Bool.{cases_eq}
pub use Rattle.std.proofs.lemmas.Option.{slice_get_within, get_or_from_slice_get, slice_get-get_or}
pub use Rattle.std.specs.Prelude.{⊤}
pub use Rattle.atomic_table.proofs.Lists.{at_set, set_again}
pub use Rattle.atomic_table.specs.Seated.{TableId}
pub use Rattle.atomic_table.specs.Table.{Me, keeps, opening, Allows, Splits, Joins}
pub use Rattle.vec_world.proofs.LogLaws.{Carries-at, Leaves, Moves, leaves-commit, store-cases, settled-max, settled-below, bits_at-push_store, bits_at-push_above, bits_at-push_other, bits_at-push_commit, Carries-nil, Carries-push_other, Carries-push_commit, CarriesWord-push_store, stamp_of-word_of, StampsUpTo-from_each, settled-store, settled-commit}
pub use Rattle.vec_world.specs.declared.{step.Step.Step, step.Step.TheVariants.Store, step.Step.TheVariants.Commit}
pub use Rattle.vec_words.specs.Logged.{steps_of, count_of, flying_of, CallRecord, commits_of, calls_in, calls_of, left_in, IsOrderly, Tells, bit_in, words_of, word_number, sight, IsIssued, IsHonest, step_of, count_after, flying_after, left_after}
unfoldable pub use Rattle.vec_words.specs.Logged.{indices_of}
pub use Rattle.vec_words.specs.Rule.{Settled, IsKept, Roll, Fits, AllFit, Shows, AreLeft, Kept}
pub use Rattle.vec_words.specs.Stores.{IsAt, IsWithin, IsSpared, store_of, stores_of, StoresEach, AreDistinct}
pub use Rattle.vec_words.specs.Tokens.{IsBegun, WordTable, PassSeen, SeatSeen, pass_seen, seat_seen, IsShown, learned_pass, new_pass, IsFirst}
pub use Rattle.vec_words.specs.View.{with_log, note_view, blank_view, first_view, made_one, next_pass, note_of, told_of, without_log, log_alone, tested_of, learned_of, Becomes, stored_to, committed_of}
pub use Rattle.vec_words.specs.declared.logged.Logged.TheVariants.{Stored, Committed}
pub use Rattle.vec_words.specs.declared.view.Shape.{Shape}
pub use Rattle.vec_words.specs.declared.{logged.Logged.Logged, logged.Sight.Sight, stores.Place.Place, view.View.View}
