-- What proofs here name of other crates, and of this one's definitions. Declares nothing.
pub use Rattle.cf_types.proofs.Imports.{nth_from_yields_List, YieldsList-from_first, append_assoc, append-nil, map-append, length-append, length-map, filter-append, list_any-append, position-Some, list_any, list_all, remove, IsPermutation, is_member, with_member, without_member, same_part, same_resource, resource_up_to, resource_before}
unfoldable pub use Rattle.cf_lists.proofs.Imports.{joined}
pub use Rattle.cf_lists.proofs.Imports.{insertion, pairwise, later_of, last_of, resource_by, placed_on}
pub use Rattle.std.proofs.Common.{◌≡◌, ℕ, ◌+◌, ◌<◌, ◌≤◌, Bool, true, false, not, List, [], ◌∷◌, ◌++◌, map, filter, drop, get_or, length, refl, sym, ap, ◌∙◌, arith, ◌≢◌, ◌==◌, ◌&&◌, ◌||◌, if◌then◌else◌, cond, nat_lt, Some, None, position, set, subst, option_map, ◌-◌, take, is_some, replicate}
pub use Rattle.std.proofs.lemmas.Bool.{and_parts, not-true, eqb-true, eq-eqb, false≢true, lt-ltb, and_from, ne_eqb}
pub use Rattle.cf_lists.proofs.EntryKeyLaws.{resource_order}
pub use Rattle.cf_lists.proofs.EntrySpotLaws.{no_place, any_kept, set_placed, map_placed}
pub use Rattle.cf_lists.proofs.EntryTableLaws.{one_less, none_out, in_order, seen_none, table_none, of_seen, found, at_is, few_in, put_seen, put_table, last_front, last_stop, last_agree, last_put, entry_apart, changed_seen, changed_table, not_here, there_in, taken_seen, taken_bins}
pub use Rattle.cf_lists.proofs.FilterLaws.{filter_all, filter_none, all_from_none, any-filter, list_any-map, list_all_weaker, list_all-filter_same, list_all_always, length-filter-le, none_filtered}
pub use Rattle.cf_lists.proofs.InsertionLaws.{length-insertion}
pub use Rattle.cf_lists.proofs.KeyLaws.{remove_placed, none_placed}
pub use Rattle.cf_lists.proofs.MapLaws.{mapped_more}
pub use Rattle.cf_lists.proofs.PairwiseLaws.{FindsPlace, pairwise-filter, pairwise-insertion, pairwise-insertion_any, pairwise-map}
pub use Rattle.cf_lists.proofs.PassLaws.{mapped_step, pass_goes, pass_fits, filtered_step, counted_next, counted_past, length-kept_append, left_seen, left_table, all_changed_seen, all_changed_table, joined_next, joined_past}
pub use Rattle.cf_lists.proofs.RankLaws.{last_more, length_seen, placed_some}
pub use Rattle.cf_lists.proofs.SortLaws.{neighbours, sorted_is, arranged-filter}
pub use Rattle.cf_types.proofs.ResourceLaws.{same_part-eq, same_part-refl, resource_up_to-trans, resource_up_to-either, same_part_comm}
pub use Rattle.cf_types.specs.declared.resources.Resource.{Resource}
pub use Rattle.cf_types.specs.declared.{limits.TheConstants.SET_NUMBERS, numbers.ConnId.ConnId}
pub use Rattle.lock_table.specs.EntryView.{owners_left}
pub use Rattle.lock_table.specs.Holdings.{has_interest, owners_without, are_apart, is_by, is_interest, owners_without_active, in_state, in_retention, in_retention_of, owners_with, IsOwners, owners_of, owners_retained_of, is_on, owners_retained}
pub use Rattle.lock_table.specs.Masks.{IsMasked}
pub use Rattle.lock_table.specs.Tables.{part_of, resource_of, one_where, owners_in, AreEntries}
pub use Rattle.lock_table.specs.declared.holdings.Held.{Held}
