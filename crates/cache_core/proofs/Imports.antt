-- What proofs here name of other crates, and of this one's definitions. Declares nothing.
pub use Rattle.cf_types.proofs.Imports.{filter_agree, filter-append, length-filter_both, sum_by-filter_both, fold-map, list_all-append, sum_by-cons, sum_by-append, range_with_len, list_all, option_to_list, is_cache, Gains}
pub use Rattle.cache_rows.proofs.Imports.{stands, regs_with, ends_with_name, regs_without_name, same_name-sym, reclaimed_for, same_name-eq}
pub use Rattle.cache_model.proofs.Imports.{is_among, regs_spared, Content, no_content, content_with, regs_without_row, content_without_last, IsContent, cache_meaning, is_reclaimable, reclaim_order, victims, is_row_of, elements_in, IsDirectory, row_of, cause, after, IsOrderly, row_or_new, new_row, has_row, Deed, Copies, after_deed, after_run, copy_in, reply_copy, Copy, copies_done, copies_unless, copies_after, row_copy, Calls, Leaves, Forgets, Uncast, Uncasts, uncast_cast, uncast_unlocked, uncast_unless, uncast_after}
pub use Rattle.cf_lists.proofs.Imports.{pairwise, shortest_prefix}
pub use Rattle.engine_api.proofs.Imports.{first_refusal}
pub use Rattle.std.proofs.Common.{◌≡◌, ℕ, ◌+◌, ◌-◌, ◌≤◌, ◌<◌, Bool, true, false, not, ◌&&◌, ◌||◌, List, [], ◌∷◌, ◌++◌, None, Some, length, drop, filter, get_or, map, add-one, append_assoc, refl, sym, ap, ◌∙◌, arith, suc, zero, Option, option_map, slice_get, append-nil, subst, cond, length-append, sum_by, fold, take, leb, Result, Ok, Err, OnOk, OnErr, IsTrue, vec_len}
pub use Rattle.std.proofs.lemmas.Bool.{and_from, eq-eqb, and_parts, cases_lt, le-leb, lt-leb}
pub use Rattle.std.proofs.lemmas.List.{drop_more, map-append, drop_all, length-map}
pub use Rattle.std.proofs.lemmas.Option.{slice_get-map}
pub use Rattle.std.proofs.lemmas.Result.{IfOk-weaker}
pub use Rattle.std.specs.declared.alloc.Global.{Global}
pub use Rattle.std.specs.declared.vec.Vec.{Vec}
pub use Rattle.cache_model.proofs.ContentLaws.{content-done, content-without, orderly-content}
pub use Rattle.cache_model.proofs.EngineLaws.{alone-next, cache-fronts, content-without_last, content-nothing, leave-content, content-moved, need-front, need-leave}
pub use Rattle.cache_model.proofs.RoomLaws.{request_spared}
pub use Rattle.cache_model.proofs.RowLaws.{size}
pub use Rattle.cache_model.specs.CacheRegs.declared.registrations.Registration.{Registration}
pub use Rattle.cache_model.specs.Commands.CoStats.{class_counts}
pub use Rattle.cache_model.specs.declared.{items.CacheItem.CacheItem, requests.Request.Request}
pub use Rattle.cache_rows.proofs.CacheRegs.BitLaws.{falls_filter, stands_kept, gains_then_falls}
pub use Rattle.cache_rows.proofs.LookupLaws.{named-row, named-has}
pub use Rattle.cf_lists.proofs.FilterLaws.{filter-filter, filter_all, list_all_always, length-filter-le, filter_swap, sum_by-filter-le}
pub use Rattle.cf_lists.proofs.PrefixLaws.{shortest_prefix-nil, shortest_prefix_agree, shortest_prefix-map}
pub use Rattle.cf_types.proofs.GainsLaws.{Falls, gains_falls, gains_none}
pub use Rattle.cf_types.specs.declared.cache_commands.CacheCmd.TheVariants.{Read, Write}
pub use Rattle.cf_types.specs.declared.refusals.Refusal.TheVariants.{DirectoryFull}
pub use Rattle.cf_types.specs.declared.{cache_commands.CacheCmd.CacheCmd, cache_commands.CacheReply.CacheReply}
pub use Rattle.cf_types.specs.declared.{effects.BitChange.BitChange, forms.Caps.Caps, names.Name16.Name16}
pub use Rattle.cf_types.specs.declared.{numbers.ConnId.ConnId, refusals.Refusal.Refusal}
pub use Rattle.engine_api.proofs.FrontLaws.{content-placed}
pub use Rattle.cache_core.specs.EngineView.{EngineView, content_of}
pub use Rattle.cache_core.specs.Measure.{room_for, is_enough, reclaimable_of, reclaimable_from}
pub use Rattle.cache_core.specs.Plans.{plan_unless, plan_for, IsSpared, IsIndexed}
pub use Rattle.cache_core.specs.declared.{plans.Plan.Plan, room.Reclaimable.Reclaimable, room.Room.Room}
