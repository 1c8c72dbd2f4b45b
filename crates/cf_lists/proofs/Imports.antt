-- What proofs here name of other crates, and of this one's definitions. Declares nothing.
pub use Rattle.cf_types.proofs.Imports.{nat_tests, eqb_tells, filter-append, filter_agree, length-filter_both, sum_by-filter_both, list_any-append, list_all-append, find-append, find_at, list_all-map, sum_by-IsPermutation, IsPartitionPoint-from_clause, list_any, list_all, position_or_len, prefix_len, remove, insert, IsPartitionPoint, IsPartitionedBy, IsPermutation, option_or, is_lt, is_eq, ordering_reverse, same_resource, resource_before, resource_up_to, Part, same_part}
pub use Rattle.std.proofs.Common.{◌≡◌, ℕ, ◌+◌, ◌-◌, ◌<◌, Bool, true, false, not, ◌&&◌, ◌||◌, nat_lt, cond, List, [], ◌∷◌, ◌++◌, length, map, filter, get_or, take, drop, set, position, Option, Some, None, is_some, refl, sym, ap, ◌∙◌, arith, suc, zero, ◌≢◌, ◌==◌, subst, ◌≤◌, find, slice_get, option_map, replicate, sum_by, length-drop, drop-cons, ◌⊎◌, inl, inr, rules}
pub use Rattle.std.proofs.lemmas.Bool.{or_parts, cases_Bool, cond_both, true_from_ne_false, or_cases, or_left, and_parts, and_from, false≢true, eqb-true, eq-eqb, not-true, not_from_false, or_right, lt-ltb}
pub use Rattle.std.proofs.lemmas.List.{append_assoc, map-append, map-id, length-map, length-append, nil_from_length, take_all, append-nil, get_or-set_same, get_or-set_other, set-get_or, length-replicate, length-set, get_or_default, take-append-drop, take_more, take_more_set, drop-set-lt, take-append-le, drop-append-le, drop_all, map-set}
pub use Rattle.std.proofs.lemmas.List.{drop-drop}
pub use Rattle.std.proofs.lemmas.List.Edits.{insert_end}
pub use Rattle.std.proofs.lemmas.Option.{unwrap_or-slice_get, slice_get-map, slice_get_within, slice_get_cases}
pub use Rattle.std.proofs.lemmas.List.Sums.{length-filter, AllPass-from_list_all, sum_by-cons, prefix_len_is}
pub use Rattle.std.specs.LinkedList.{linked_list_len}
pub use Rattle.std.specs.declared.cmp.Ordering.{Ordering}
pub use Rattle.std.specs.declared.cmp.Ordering.TheVariants.{Less, Equal, Greater}
pub use Rattle.cf_types.proofs.ResourceLaws.{same_resource-eq, same_resource-refl, resource_cmp_total, resource_up_to-trans, resource_up_to-either, same_resource-is, same_part-eq, same_part-refl, same_part_comm}
pub use Rattle.cf_types.specs.declared.resources.Resource.{Resource}
pub use Rattle.cf_lists.specs.Bins.{is_keyed, in_turn, AreAtHome, IsKeyOrder}
unfoldable pub use Rattle.cf_lists.specs.Bins.{arranged, joined}
pub use Rattle.cf_lists.specs.Fronts.{front, emptied}
pub use Rattle.cf_lists.specs.Insertions.{insertion}
pub use Rattle.cf_lists.specs.Lists.{records_of, all_records, IsLastFull, is_id, ids_apart, has_id, record_of, lists_without, lists_with, lists_replaced, replaced_by, spot_of, records_without, with_records, lists_popped, count_of}
pub use Rattle.cf_lists.specs.Orders.{stands}
pub use Rattle.cf_lists.specs.Pairwise.{pairwise}
pub use Rattle.cf_lists.specs.Prefixes.{shortest_prefix}
pub use Rattle.cf_lists.specs.RecordPrefixes.{goes_first}
pub use Rattle.cf_lists.specs.Tables.{resource_by, is_on, is_part, are_apart, slot_in, seen_in, IsTable, placed_on, later_of, last_of}
