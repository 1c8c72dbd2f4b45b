-- What proofs here name of other crates, and of this one's definitions. Declares nothing.
pub use Rattle.cf_types.proofs.Imports.{nat_tests, length-map, none_past_head, IsEquivalence, and_equiv, on_equiv, nat_list_eq_equiv, list_any, list_all, IsPermutation, keys_of, lookup, Part, same_part, resource_before, same_resource}
unfoldable pub use Rattle.cf_types.proofs.Imports.{IsDistinct}
pub use Rattle.cf_lists.proofs.Imports.{in_turn, IsKeyOrder, insertion, pairwise}
unfoldable pub use Rattle.cf_lists.proofs.Imports.{arranged}
pub use Rattle.std.proofs.Common.{◌≡◌, ℕ, ◌+◌, Bool, true, false, not, ◌&&◌, cond, List, [], ◌∷◌, Option, Some, None, is_some, option_map, length, filter, find, map, refl, sym, ap, ◌∙◌, subst, nat_eq, option_to_list, ◌||◌, ◌==◌, nat_lt, arith, zero, suc, ◌<◌, ◌++◌, slice_get, drop}
pub use Rattle.std.proofs.lemmas.Bool.{false≢true, and_from, not-true, and_parts}
pub use Rattle.std.proofs.lemmas.Map.{lookup-none}
pub use Rattle.cf_lists.proofs.BinLaws.{arranged_in_turn, keyed-arranged}
pub use Rattle.cf_lists.proofs.EntryKeyLaws.{resource_order}
pub use Rattle.cf_lists.proofs.EntryPlaceLaws.{insertion_agree}
pub use Rattle.cf_lists.proofs.FilterLaws.{filter_all, filter_absorbed, filter-filter, filter_nothing, filter_swap, any_is_found, all_from_none, list_all_always, list_all_weaker, list_all-filter_same}
pub use Rattle.cf_lists.proofs.ImageLaws.{map-filtered}
pub use Rattle.cf_lists.proofs.InsertionLaws.{filter-insertion_out, list_all-insertion, list_any-insertion}
pub use Rattle.cf_lists.proofs.KeyLaws.{length_without}
pub use Rattle.cf_lists.proofs.PairwiseLaws.{pairwise-filter, pairwise-insertion, pairwise-insertion_any, FindsPlace}
pub use Rattle.cf_lists.proofs.SortLaws.{arranged-filter, sorted_is}
pub use Rattle.cf_lists.proofs.TieLaws.{ordered_filters}
pub use Rattle.cf_lists.proofs.ViewLaws.{length_arranged}
pub use Rattle.cf_types.proofs.ResourceLaws.{same_part-eq, same_part-refl, same_resource-eq, same_resource-refl, same_part_comm}
pub use Rattle.cf_types.specs.declared.{numbers.ConnId.ConnId, resources.Resource.Resource}
pub use Rattle.indexmap.proofs.CallerLemmas.{filter-RetainsPairs}
pub use Rattle.lock_record.specs.Book.{Key, key_eq, key_of, part_at, recorded, records_in, Writes, Book}
pub use Rattle.lock_record.specs.Recorded.{is_of, record_of, has_record, part_of, part_before, records_with, records_without, records_without_conn, are_apart, AreRecords, is_record, stands_before, in_order, is_part_by, resource_at, resource_of, resources_by}
pub use Rattle.lock_record.specs.declared.recorded.Record.{Record}
