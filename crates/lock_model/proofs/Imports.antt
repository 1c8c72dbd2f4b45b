-- What proofs here name of other crates, and of this one's definitions. Declares nothing.
pub use Rattle.std.proofs.Common.{◌≡◌, ℕ, ◌+◌, ◌≤◌, Bool, true, false, not, cond, List, [], ◌∷◌, Option, Some, None, is_some, length, map, refl, ap, ◌∙◌, arith, ◌&&◌, find, ◌==◌, filter, sum_by, sym, subst, ◌-◌, ◌++◌, append-nil, append_assoc, length-append, fold, ◌||◌, take, Contains}
pub use Rattle.std.proofs.lemmas.Bool.{and_parts, and_from, not-true, leb-true, or_left, eqb-true, or_right, false≢true, or_parts, eq-eqb}
pub use Rattle.std.proofs.lemmas.Bool.Decides.{nat_tests}
pub use Rattle.std.proofs.lemmas.List.{length-map, map-append, take_at, take-append-drop, take_all, take_more}
pub use Rattle.std.proofs.lemmas.List.Elements.{filter-append, All-contains}
pub use Rattle.std.proofs.lemmas.List.Folds.{list_any-append, list_all-map, list_all-append}
pub use Rattle.std.proofs.lemmas.List.Sums.{sum_by-append, sum_by-cons, AllPass-from_list_all}
pub use Rattle.std.proofs.lemmas.Map.Views.{any-filter_same}
pub use Rattle.std.proofs.lemmas.Option.{get_or_from_slice_get}
pub use Rattle.std.specs.List.{list_all, list_any, slice_get}
pub use Rattle.std.specs.Option.{option_or}
pub use Rattle.cf_lists.proofs.FilterLaws.{list_all-filter, list_all-filter_same, list_all_always, all_from_none, any_is_found, length-filter-le, sum_by-filter-le, list_all_weaker, list_all_both, filter_all, filter_swap}
pub use Rattle.cf_lists.proofs.InsertionLaws.{list_all-insertion, length-insertion, list_any-insertion, sum_by-insertion}
pub use Rattle.cf_lists.proofs.PairwiseLaws.{pairwise-filter, FindsPlace, pairwise-insertion, pairwise-insertion_any, pairwise-map, pairwise_front}
pub use Rattle.cf_lists.specs.Insertions.{insertion}
pub use Rattle.cf_lists.specs.Pairwise.{pairwise}
pub use Rattle.cf_types.proofs.ResourceLaws.{same_part-eq, same_part-refl, same_part_comm, same_resource_comm, resource_up_to-either, resource_up_to-trans}
pub use Rattle.cf_types.specs.Forms.{is_lock}
pub use Rattle.cf_types.specs.Resources.{same_part, Part, resource_up_to}
pub use Rattle.cf_types.specs.declared.lock_commands.Decision.TheVariants.{Keep, Deny, Notify}
pub use Rattle.cf_types.specs.declared.lock_commands.LockCmd.TheVariants.{Obtain, Alter, Release, Decide, RtRead, RtDelete}
pub use Rattle.cf_types.specs.declared.resources.Resource.{Resource}
pub use Rattle.cf_types.specs.declared.{events.Letter.Letter, forms.Caps.Caps, forms.Kind.Kind, numbers.ConnId.ConnId}
pub use Rattle.cf_types.specs.declared.{lock_commands.Decision.Decision, lock_commands.LockCmd.LockCmd}
pub use Rattle.cf_types.specs.declared.{refusals.Refusal.Refusal}
pub use Rattle.engine_api.proofs.FrontLaws.{FrontLaws, fronts}
pub use Rattle.engine_api.specs.Items.{Fits, IsNoMore, IsNoMoreOf}
pub use Rattle.engine_api.specs.declared.shapes.Shape.{Shape}
pub use Rattle.lock_queue.proofs.WaiterLaws.{queue-filter, queue-with}
pub use Rattle.lock_queue.specs.Waiters.{is_waiter, waits, waiters_without, stands_before, is_on, waiters_of, are_apart, waiters_without_conn, waiters_with, IsQueue}
pub use Rattle.lock_queue.specs.declared.waiters.Waiter.{Waiter}
pub use Rattle.lock_table.specs.declared.holdings.Held.{Held}
pub use Rattle.lock_model.specs.Contents.{Content, IsContent, is_due, records_of, records_in, records_owned, no_content, owner, items, content_with, content_without_last, without_last, entries_of_item, records_of_item, need_of, OwnersAreCompatible}
pub use Rattle.lock_model.specs.Departures.{stays, with_retained, interests_left, resources_of, departure_of, with_returned}
pub use Rattle.lock_model.specs.Grants.{settlement_of, held_by, interests_granted, grant, with_alteration, content_granted, granted_letter, Settlement, with_letters_before, grants, grant_each}
pub use Rattle.lock_model.specs.Interests.{Interest, is_of, has_interest, interests_with, interests_without, interests_changed, may_own, AreInterests, parts_apart, may_coexist, owners_agree, stands_up_to}
pub use Rattle.lock_model.specs.Meaning.{lock_meaning}
pub use Rattle.lock_model.specs.Refusals.{interested_refusal, records_refusal}
pub use Rattle.lock_model.specs.Requests.{content_asked, wait_settlement}
pub use Rattle.lock_model.specs.Step.{cause, done}
pub use Rattle.lock_model.specs.declared.items.LockItem.{LockItem}
pub use Rattle.lock_model.specs.declared.items.LockItem.TheVariants.{Owner, Waits}
pub use Rattle.cf_lists.proofs.EntryPlaceLaws.{insertion_behind}
pub use Rattle.engine_api.proofs.CauseLaws.{none_hold}
