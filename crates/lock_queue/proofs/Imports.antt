-- What proofs here name of other crates, and of this one's definitions. Declares nothing.
pub use Rattle.cf_types.proofs.Imports.{nth_from_yields_List, YieldsList-from_filter, YieldsList-from_rest, filter-append, list_any, list_all, IsPermutation, is_lt, ordering_reverse, same_part, resource_before, resource_cmp, same_resource, resource_up_to}
unfoldable pub use Rattle.cf_lists.proofs.Imports.{arranged, joined}
pub use Rattle.cf_lists.proofs.Imports.{insertion, pairwise, placed_on, later_of, last_of}
pub use Rattle.std.proofs.Common.{◌≡◌, ℕ, ◌+◌, ◌<◌, ◌≤◌, Bool, true, false, not, Option, Some, None, is_some, sum_by, List, [], ◌∷◌, ◌++◌, map, filter, drop, get_or, length, refl, sym, ap, ◌∙◌, arith, ◌&&◌, ◌||◌, take, replicate, option_map, rules, tests, subst, cond, ◌-◌}
pub use Rattle.std.proofs.lemmas.Bool.{and_from, and_parts, not-true, false≢true}
pub use Rattle.std.proofs.lemmas.List.{append_assoc, append-nil, map-append, get_or_default, length-append, length-map}
pub use Rattle.std.proofs.lemmas.List.Sums.{sum_by-append, sum_by-cons, prefix_len-le-length}
pub use Rattle.std.specs.declared.cmp.Ordering.{Ordering}
pub use Rattle.std.specs.declared.cmp.Ordering.TheVariants.{Less, Equal, Greater}
pub use Rattle.cf_lists.proofs.EntryKeyLaws.{resource_order}
pub use Rattle.cf_lists.proofs.EntryTableLaws.{one_less, none_out, seen_none, table_none, of_seen, found, at_is, kept_in, found_in, put_seen, put_table, cut_out, entry_apart, there_in, taken_seen, taken_bins}
pub use Rattle.cf_lists.proofs.FilterLaws.{any_is_found, length-filter-le, list_all_weaker, list_all-filter_same, list_all_always, none_filtered}
pub use Rattle.cf_lists.proofs.InsertionLaws.{length-insertion, sum_by-insertion, insert-prefix_len}
pub use Rattle.cf_lists.proofs.KeyLaws.{sum_by_without, none_placed}
pub use Rattle.cf_lists.proofs.MapLaws.{mapped_more}
pub use Rattle.cf_lists.proofs.PairwiseLaws.{FindsPlace, pairwise-filter, pairwise-insertion, pairwise-insertion_any}
pub use Rattle.cf_lists.proofs.PassLaws.{counted_next, counted_past, length-kept_append, left_seen, left_table, joined_next, joined_past, filtered_step, pass_begins, pass_goes, pass_fits, pass_ends}
pub use Rattle.cf_lists.proofs.RankLaws.{length_seen, placed_some, last_more}
pub use Rattle.cf_lists.proofs.SortLaws.{neighbours, sorted_is, arranged-filter}
pub use Rattle.cf_types.proofs.ResourceLaws.{same_part-eq, same_part-refl, resource_cmp_total, same_part_comm, same_resource-eq}
pub use Rattle.cf_types.specs.declared.{numbers.ConnId.ConnId, resources.Resource.Resource}
pub use Rattle.lock_queue.specs.Tables.{part_of, resource_of, waiters_in, one_where, is_ahead, AreEntries}
pub use Rattle.lock_queue.specs.Waiters.{is_waiter, waits, waiter_of, waiters_without, waiters_with, stands_before, are_apart, recorded_by, recorded_of, recorded_in, is_on, IsQueue, waiters_of, is_by, waiters_without_conn, first_of}
pub use Rattle.lock_queue.specs.declared.waiters.Waiter.{Waiter}
