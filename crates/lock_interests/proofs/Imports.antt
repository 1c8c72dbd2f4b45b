-- What proofs here name of other crates, and of this one's definitions. Declares nothing.
pub use Rattle.cf_types.proofs.Imports.{YieldsList-from_first, append_assoc, length-map, filter_agree, length-filter_both, sum_by-cons, option_or, Part, same_part, resource_up_to, same_resource}
pub use Rattle.cf_lists.proofs.Imports.{insertion, pairwise}
pub use Rattle.lock_model.proofs.Imports.{records_of, records_owned, stays, with_retained, interests_left, with_alteration}
pub use Rattle.lock_record.proofs.Imports.{is_record, is_of, record_of, has_record, records_with, records_without, records_without_conn, AreRecords}
pub use Rattle.lock_table.proofs.Imports.{owners_left, is_interest, has_interest, owners_with, owners_without, in_state, in_retention_of, IsOwners, is_on, is_by, owners_of, owners_retained, owners_without_active, in_retention, are_apart, resource_of}
pub use Rattle.std.proofs.Common.{◌≡◌, ℕ, suc, ◌+◌, Bool, true, false, not, ◌&&◌, ◌||◌, ◌==◌, cond, List, [], ◌∷◌, Option, Some, None, is_some, option_map, filter, find, map, length, refl, sym, ap, ◌∙◌, subst, arith, zero, ◌<◌, ◌++◌, drop, get_or, if◌then◌else◌, option_to_list, ◌≤◌, ◌-◌, subst₂, rules, tests}
pub use Rattle.std.proofs.lemmas.Bool.{and_parts, and_from, false≢true, eqb-true}
pub use Rattle.std.proofs.lemmas.Iterator.Search.{all_from_yields_List, find_from_yields_List}
pub use Rattle.std.proofs.lemmas.Option.{slice_get-map, slice_get-get_or}
pub use Rattle.std.specs.List.{list_any, list_all, slice_get, filter_map, cons_option}
pub use Rattle.cf_lists.proofs.FilterLaws.{filter_nothing, any_is_found, find-filter, list_any-map, list_all_weaker, list_all-filter, find_none, none_filtered, all_found, found_passes, filter_swap, filter_absorbed, length-filter-le}
pub use Rattle.cf_lists.proofs.ImageLaws.{map-filtered, map-insertion, map-either, map-both}
pub use Rattle.cf_lists.proofs.InsertionLaws.{list_all-insertion, list_any-insertion, length-insertion, find-insertion_past, find-insertion_here}
pub use Rattle.cf_lists.proofs.KeyLaws.{none_later, length_without, later_apart, AllFound, found_filter}
pub use Rattle.cf_types.proofs.ResourceLaws.{same_part-eq, same_part-refl, same_part_comm, same_resource_comm, both_implied}
pub use Rattle.cf_types.specs.declared.resources.Resource.{Resource}
pub use Rattle.cf_types.specs.declared.{events.Event.Event, events.Letter.Letter, numbers.ConnId.ConnId}
pub use Rattle.lock_model.proofs.ItemLaws.{interests_without-last}
pub use Rattle.lock_model.specs.Commands.RtDelete.{without_record}
pub use Rattle.lock_model.specs.Interests.{Interest, interests_with, interests_changed, interests_without, are_compatible, may_own, manager_of, interest_of, AreInterests}
pub use Rattle.lock_model.specs.LockQueue.declared.waiters.Waiter.{Waiter}
pub use Rattle.lock_record.proofs.RecordLaws.{records-filter, records-with}
pub use Rattle.lock_record.specs.declared.recorded.Record.{Record}
pub use Rattle.lock_table.proofs.HoldingLaws.{owners-with, owners-in_state}
pub use Rattle.lock_table.specs.declared.holdings.Held.{Held}
pub use Rattle.lock_interests.specs.InterestsView.{with_record, interests_of, records_put, records_given, AreOwned, letters_told, record_read, records_read, held_read, read_in, is_held_retained, retained_at, retained_all, InterestsView, interests_view}
pub use Rattle.lock_interests.specs.declared.interests.Interests.TheInside.{Inside}
