-- What proofs here name of other crates, and of this one's definitions. Declares nothing.
pub use Rattle.std.proofs.Common.{◌≡◌, ℕ, ◌+◌, ◌-◌, ◌≤◌, Bool, true, false, not, ◌&&◌, ◌||◌, cond, List, [], ◌∷◌, Option, Some, None, is_some, is_none, unwrap_or, option_map, length, filter, map, nat_lt, nat_le, ◌⊎◌, inl, inr, refl, sym, ap, ◌∙◌, subst, arith, ◌==◌, ◌++◌, option_and_then, IsTrue, append-nil, append_assoc, length-append, take, drop, slice_get, fold, ⊎_elim}
pub use Rattle.std.proofs.lemmas.Bool.{and_parts, and_from, or_cases, or_right, not-true, false≢true, ltb-true, leb-true, or_parts, eqb-true, or_from, or_left}
pub use Rattle.std.proofs.lemmas.Bool.Decides.{nat_tests}
pub use Rattle.std.proofs.lemmas.List.{length-map, take_all, take_at, take-append-drop, drop_all}
pub use Rattle.std.proofs.lemmas.List.Folds.{find-append, list_all-append, list_any-append, list_all-map, fold-map}
pub use Rattle.std.proofs.lemmas.List.Sums.{sum_by-append, sum_by_push}
pub use Rattle.std.proofs.lemmas.Map.Views.{any-filter_same}
pub use Rattle.std.proofs.lemmas.Option.{slice_get_cases}
pub use Rattle.std.specs.List.{list_all, list_any}
pub use Rattle.cache_dir.specs.declared.row.Holder.{Holder}
pub use Rattle.cache_regs.proofs.RegLaws.{registry-with, registry-filter}
pub use Rattle.cache_regs.specs.Registrations.{is_of, is_replaced, stands_before, regs_with, regs_without, regs_without_name, ends_with_name, IsRegistry, registered_at, regs_for_others}
pub use Rattle.cache_regs.specs.declared.registrations.Registration.{Registration}
pub use Rattle.cf_lists.proofs.FilterLaws.{list_all-filter, list_all_weaker, list_all_both, list_all-filter_same, length-filter-le, sum_by-filter-le, any_is_found, none-filter, all_found, find-filter, find_none, none_filtered, filter_all, list_any-map, none_from_all, filter-filter, list_all_always, all_from_none, found_passes}
pub use Rattle.cf_lists.proofs.InsertionLaws.{list_all-insertion, find-insertion_past, find-insertion_here, list_any-insertion, length-insertion, sum_by-insertion}
pub use Rattle.cf_lists.proofs.KeyLaws.{AllFound, found_filter, found_append, found_prefix, sum_by_spared, length_spared, find-spared, apart_sym, sum_by_without, length_without}
pub use Rattle.cf_lists.proofs.PairwiseLaws.{pairwise_front, pairwise-filter, pairwise_split, FindsPlace, pairwise_push, pairwise-insertion, pairwise-insertion_any, pairwise-map}
pub use Rattle.cf_lists.proofs.PrefixLaws.{list_all-shortest_prefix, pairwise-shortest_prefix, shortest_prefix-enough}
pub use Rattle.cf_lists.proofs.TakeLaws.{split_next}
pub use Rattle.cf_lists.specs.Insertions.{insertion}
pub use Rattle.cf_lists.specs.Pairwise.{pairwise}
pub use Rattle.cf_lists.specs.Prefixes.{shortest_prefix}
pub use Rattle.cf_types.specs.Forms.{is_cache}
pub use Rattle.cf_types.specs.Name.{same_name}
pub use Rattle.cf_types.specs.declared.cache_commands.CacheCmd.TheVariants.{Read, Write, CrossInval, Castout, Unlock, Delete}
pub use Rattle.cf_types.specs.declared.refusals.Refusal.TheVariants.{IsChanged}
pub use Rattle.cf_types.specs.declared.refusals.Refusal.{Refusal}
pub use Rattle.cf_types.specs.declared.{cache_commands.CacheCmd.CacheCmd}
pub use Rattle.cf_types.specs.declared.{forms.Caps.Caps, forms.Kind.Kind, names.Name16.Name16, numbers.ConnId.ConnId}
pub use Rattle.engine_api.proofs.FrontLaws.{FrontLaws, fronts}
pub use Rattle.engine_api.specs.Items.{Fits, IsNoMore, IsNoMoreOf}
pub use Rattle.engine_api.specs.Meaning.{first_refusal, unless_refused}
pub use Rattle.engine_api.specs.declared.shapes.Shape.{Shape}
pub use Rattle.cache_model.specs.Contents.{Content, IsContent, IsOrderly, content_without, content_forgotten, without_hold, is_among, rows_spared, regs_spared, no_content, content_with, content_without_last, regs_without_row, need_of}
pub use Rattle.cache_model.specs.Meaning.{cache_meaning}
pub use Rattle.cache_model.specs.Refusals.{entry_refusal, held_refusal, unchanged_refusal, not_held_refusal, is_changed_row}
pub use Rattle.cache_model.specs.Room.{victims, has_place, free_elements, room_refusal, is_reclaimable, reclaim_order, has_room}
pub use Rattle.cache_model.specs.Rows.{is_row_of, is_changed, elements_of, elements_in, row_of, has_row, rows_without, rows_replaced, new_row, row_or_new, is_sound, IsDirectory, may_precede, names_apart, has_storage, rows_with}
pub use Rattle.cache_model.specs.Runs.{Copy, Copies, Deed, after_deed, after_run, row_copy, copy_in, reply_copy, copies_with, copies_done, copies_unless, copies_after, copies_run}
pub use Rattle.cache_model.specs.Runs.Deed.{Calls, Leaves, Forgets}
pub use Rattle.cache_model.specs.Step.{cause, done, after}
pub use Rattle.cache_model.specs.Uncast.{Uncast, Uncasts, uncast_with, uncast_written, uncast_cast, uncast_unlocked, uncast_done, uncast_unless, uncast_after, uncast_run, is_settled, HasWritten, Kept}
pub use Rattle.cache_model.specs.declared.{items.CacheItem.CacheItem, requests.Request.Request}
pub use Rattle.cf_types.proofs.ResourceLaws.{same_name-eq, same_name-refl, same_name-sym, name_before-trans, name_before-else}
pub use Rattle.engine_api.proofs.CauseLaws.{none_hold, unless_false}
