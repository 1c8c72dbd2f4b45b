-- What proofs here name of other crates, and of this one's definitions. Declares nothing.
pub use Rattle.cf_types.proofs.Imports.{length-map, length-take, slice_get-get_or, is_lock, Part, same_part}
pub use Rattle.engine_api.proofs.Imports.{first_refusal, Held}
pub use Rattle.lock_model.proofs.Imports.{settlement_of, with_letters_before, grants, grant, held_by, content_granted, granted_letter, Settlement, grant_each, lock_meaning, cause, OwnersAreCompatible, records_refusal}
pub use Rattle.lock_queue.proofs.Imports.{IsQueue, waiters_without_conn, is_on, waiter_of, first_of, waiters_without, waiters_of, waiters_with, recorded_by, recorded_of, recorded_in}
pub use Rattle.std.proofs.Common.{ℕ, not, ◌&&◌, ◌||◌, map, sum_by, ◌≡◌, ◌+◌, ◌-◌, ◌≤◌, ◌<◌, [], ◌∷◌, List, Option, Some, None, false, Result, Ok, Err, OnOk, OnErr, ◌++◌, length, length-append, sym, ap, subst, ◌∙◌, arith, Bool, true, cond, filter, find, refl, if◌then◌else◌, drop, fold, append_assoc, append-nil, get_or, take}
pub use Rattle.std.proofs.lemmas.List.Sums.{sum_by-cons, sum_by_more, sum_by_more_le, sum_by-take-le}
pub use Rattle.std.specs.List.{list_any, list_all, slice_get}
pub use Rattle.std.specs.List.Sorted.{IsPermutation}
pub use Rattle.std.proofs.lemmas.Bool.{and_from, and_parts, not-true, false≢true}
pub use Rattle.std.proofs.lemmas.List.{drop_more}
pub use Rattle.std.proofs.lemmas.List.Sorted.{list_any-IsPermutation}
pub use Rattle.std.proofs.Math.ListN.{drop_of_length-le}
pub use Rattle.cf_lists.proofs.EntryKeyLaws.{resource_order}
pub use Rattle.cf_lists.proofs.FilterLaws.{length-filter-le, sum_by-filter-le, filter_swap, filter_absorbed, filter_none, any_is_found, all_from_none, list_all_weaker}
pub use Rattle.cf_lists.proofs.InsertionLaws.{list_any-insertion}
pub use Rattle.cf_lists.proofs.OrderLaws.{ordered_same}
pub use Rattle.cf_lists.proofs.PairwiseLaws.{FindsPlace, pairwise-filter, pairwise-insertion}
pub use Rattle.cf_lists.proofs.SortLaws.{neighbours}
pub use Rattle.cf_lists.specs.Bins.{in_turn}
pub use Rattle.cf_lists.specs.Insertions.{insertion}
pub use Rattle.cf_lists.specs.Pairwise.{pairwise}
pub use Rattle.cf_types.proofs.ResourceLaws.{same_part-eq, same_part-refl, same_resource-eq, same_resource-refl}
pub use Rattle.cf_types.specs.Resources.{same_resource, resource_before}
pub use Rattle.cf_types.specs.declared.resources.Resource.{Resource}
pub use Rattle.cf_types.specs.declared.{forms.Caps.Caps, lock_commands.Decision.TheVariants.Deny}
pub use Rattle.cf_types.specs.declared.{lock_commands.LockCmd.LockCmd, numbers.ConnId.ConnId}
pub use Rattle.cf_types.specs.declared.{refusals.Refusal.Refusal, refusals.Refusal.TheVariants.NoRecord}
pub use Rattle.engine_api.proofs.FrontLaws.{content-placed}
pub use Rattle.lock_model.proofs.CommandLaws.{content-done, items-done}
pub use Rattle.lock_model.proofs.ContentLaws.{items_in}
pub use Rattle.lock_model.proofs.DepartureLaws.{content_left, led_departed, content-returned}
pub use Rattle.lock_model.proofs.EngineLaws.{elements-items, entries-items, back-content}
pub use Rattle.lock_model.proofs.ItemLaws.{owner-next, waiter-next, waiters_of-first, lock-fronts, content-without_last, waiters_without-last}
pub use Rattle.lock_model.specs.Contents.{Content, IsContent, records_in, items, need_of, content_with, content_without_last, records_of, records_waiting}
pub use Rattle.lock_model.specs.Departures.{with_returned, with_retained, resources_with, departure_of, interests_left, resources_of}
pub use Rattle.lock_model.specs.Interests.{is_by as is_by_owner}
pub use Rattle.lock_model.specs.Interests.{Interest, may_own, interests_without}
pub use Rattle.lock_model.specs.Refusals.{record_refusal}
pub use Rattle.lock_model.specs.declared.items.LockItem.{LockItem}
pub use Rattle.lock_model.specs.declared.items.LockItem.TheVariants.{Owner, Waits}
pub use Rattle.lock_queue.proofs.CountLaws.{recorded_less, recorded_more}
pub use Rattle.lock_queue.specs.Waiters.{is_by as is_by_waiter}
pub use Rattle.lock_queue.specs.declared.waiters.Waiter.{Waiter}
pub use Rattle.lock_core.specs.Awaited.{is_awaited, awaited_of, waiting_for, begins_with}
unfoldable pub use Rattle.lock_core.specs.Awaited.{each_once}
pub use Rattle.lock_core.specs.EngineView.{IsCounted, EngineView}
pub use Rattle.lock_core.specs.Plans.{plan_for}
pub use Rattle.lock_core.specs.Stock.{content_placed, if_grantable, next_of, HasRoom, Stock}
pub use Rattle.lock_core.specs.declared.plans.Plan.{Plan}
pub use Rattle.engine_api.proofs.CauseLaws.{none_hold}
