-- What proofs here name of other crates, and of this one's definitions. Declares nothing.
pub use Rattle.cf_types.proofs.Imports.{drop_all, length-map, none_past_head, nat_list_eq_equiv, pointwise, slice_cmp, texts_ties, list_all, IsPermutation, keys_of, lookup, nat_cmp, is_lt, is_eq, name_before, same_name}
unfoldable pub use Rattle.cf_types.proofs.Imports.{IsDistinct}
pub use Rattle.cf_lists.proofs.Imports.{in_turn, IsKeyOrder, insertion, pairwise}
unfoldable pub use Rattle.cf_lists.proofs.Imports.{arranged}
pub use Rattle.std.proofs.Common.{◌≡◌, ℕ, zero, suc, ◌+◌, ◌-◌, ◌≤◌, ◌<◌, Bool, true, false, not, cond, List, [], ◌∷◌, Option, None, Some, option_map, slice_get, length, drop, refl, sym, ap, ◌∙◌, arith, ◌&&◌, filter, subst, nat_eq, option_to_list, Ordering, ◌==◌, map, ◌++◌}
pub use Rattle.std.proofs.lemmas.Bool.{and_parts, not-true, false≢true}
pub use Rattle.std.proofs.lemmas.Map.{lookup-none}
pub use Rattle.std.specs.declared.cmp.Ordering.TheVariants.{Less, Equal, Greater}
pub use Rattle.cf_lists.proofs.BinLaws.{arranged_in_turn, keyed-arranged}
pub use Rattle.cf_lists.proofs.FilterLaws.{filter_absorbed, filter-filter, filter_nothing, filter_swap, list_all_always, length-filter-le}
pub use Rattle.cf_lists.proofs.InsertionLaws.{filter-insertion_out}
pub use Rattle.cf_lists.proofs.PairwiseLaws.{FindsPlace, pairwise-filter, pairwise-insertion}
pub use Rattle.cf_lists.proofs.SortLaws.{arranged-filter, sorted_is}
pub use Rattle.cf_lists.proofs.TieLaws.{ordered_filters}
pub use Rattle.cf_lists.proofs.ViewLaws.{length_arranged}
pub use Rattle.cf_types.proofs.ResourceLaws.{same_name-eq, same_name-refl, name_before-trans, name_before-else}
pub use Rattle.cf_types.specs.declared.names.Name16.{Name16}
pub use Rattle.cache_classes.specs.Castout.{name_of, last_name, later, is_named, names_without, names_with, is_of_class, names_in, names_of, count_of, names_set, room_taken}
pub use Rattle.cache_classes.specs.ClassBatch.{Entry, changed_at, entries_in, classes_in, Writes}
pub use Rattle.cache_classes.specs.declared.changed.Changed.{Changed}
