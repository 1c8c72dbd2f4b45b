-- What proofs here name of other crates, and of this one's definitions. Declares nothing.
pub use Rattle.std.proofs.Common.{◌≡◌, ℕ, ◌+◌, ◌-◌, ◌<◌, ◌≤◌, ◌==◌, ◌&&◌, Bool, true, false, not, cond, List, [], ◌∷◌, ◌++◌, Option, Some, None, is_some, unwrap_or, length, filter, find, map, set, length-set, nat_lt, sum_by, refl, sym, ap, ◌∙◌, subst, arith, zero, suc, IsTrue, ◌||◌, length-append, length-take, take, drop, take-append-drop, replicate, ◌⊎◌, inl, inr, append_assoc, min, option_map, slice_get, fold, is_lt, is_gt, nat_cmp, position}
pub use Rattle.std.proofs.lemmas.Bool.{and_parts, and_from, not-true, false≢true, or_parts}
pub use Rattle.std.proofs.lemmas.Bool.Decides.{nat_tests}
pub use Rattle.std.proofs.lemmas.Cmp.{upto}
pub use Rattle.std.proofs.lemmas.List.{get_or-set_other, append-nil, length-map, length-replicate, take_all, take-take, take-map, map-append}
pub use Rattle.std.proofs.lemmas.List.Elements.{filter-append}
pub use Rattle.std.proofs.lemmas.List.Folds.{list_any-append, find_at, list_all-map, list_all-append}
pub use Rattle.std.proofs.lemmas.List.Sums.{sum_by-cons, sum_by-append, fold-append}
pub use Rattle.std.proofs.lemmas.Option.{slice_get_within, slice_get-map}
pub use Rattle.std.specs.Cmp.Lexicographic.{slice_cmp, nat_list_cmp_total}
pub use Rattle.std.specs.List.{position_or_len, list_all, list_any, prefix_len}
pub use Rattle.std.specs.Option.{option_or}
pub use Rattle.cf_lists.proofs.AllLaws.{list_of-get_or, pairwise_middle, none_behind, pairwise_back}
pub use Rattle.cf_lists.proofs.FilterLaws.{list_all-filter, list_all_weaker, list_all_always, list_all-filter_same, filter_all, length-filter-le, sum_by-filter-le, any_is_found, all_from_none, none_from_all}
pub use Rattle.cf_lists.proofs.IdLaws.{once}
pub use Rattle.cf_lists.proofs.InsertionLaws.{insert-prefix_len}
pub use Rattle.cf_lists.proofs.KeyLaws.{any_is_placed}
pub use Rattle.cf_lists.proofs.PairwiseLaws.{pairwise-filter, pairwise-map, pairwise_front, pairwise_push, FindsPlace, pairwise-insertion}
pub use Rattle.cf_lists.proofs.TakeLaws.{split_next, take_next}
pub use Rattle.cf_lists.specs.Insertions.{insertion}
pub use Rattle.cf_lists.specs.Pairwise.{pairwise}
pub use Rattle.cf_types.proofs.ResourceLaws.{same_name-sym, is_lt-reverse, lt_not_gt}
pub use Rattle.cf_types.specs.Forms.{is_list}
pub use Rattle.cf_types.specs.declared.list_commands.ListCmd.TheVariants.{Write, Update, Move, Delete, LockSet, LockReset, SetLimit, Unmonitor}
pub use Rattle.cf_types.specs.declared.{forms.Caps.Caps, forms.Kind.Kind, forms.Refs.Refs, list_commands.At.At}
pub use Rattle.cf_types.specs.declared.{list_commands.Cond.Cond, list_commands.ListCmd.ListCmd, names.Key16.Key16}
pub use Rattle.cf_types.specs.declared.{names.Name16.Name16, numbers.ConnId.ConnId, numbers.EntryId.EntryId}
pub use Rattle.engine_api.proofs.FrontLaws.{FrontLaws}
pub use Rattle.engine_api.specs.Items.{Fits, IsNoMore, IsNoMoreOf, IsNextItem, content_of_items}
pub use Rattle.engine_api.specs.Meaning.{first_refusal}
pub use Rattle.engine_api.specs.declared.shapes.Shape.{Shape}
pub use Rattle.list_store.specs.Lists.{Lists, records_of, all_records, is_id, records_without, lists_without, replaced_by, lists_replaced, ids_apart, count_of, with_records, has_id, record_of, spot_in, spot_of, lists_with}
pub use Rattle.list_store.specs.Record.{Record}
pub use Rattle.list_store.specs.declared.records.Spot.{Spot}
pub use Rattle.list_watch.specs.Monitors.{is_of, is_for, monitors_with, AreMonitors, is_replaced}
pub use Rattle.list_watch.specs.declared.monitors.Monitor.{Monitor}
pub use Rattle.list_model.specs.Contents.{Content, IsContent, is_given, headers_of, locks_of, refs_of, is_within, content_without, holder_without, no_content, has_records}
pub use Rattle.list_model.specs.Items.{has_controls, controls_of, row_of, rows_from, items_of, content_with, content_without_last, entries_for, elements_for, need_of, triple_of, monitor_of}
pub use Rattle.list_model.specs.Keys.{key_before, key_up_to}
pub use Rattle.list_model.specs.Lists.{record_at, the_record, no_record, stands_before, with_record, first_records}
pub use Rattle.list_model.specs.Meaning.{list_meaning}
pub use Rattle.list_model.specs.Records.{has_name, elements_of, next_version, is_known, names_apart, may_precede, elements_in}
pub use Rattle.list_model.specs.Refusals.{header_refusal, new_key_refusal, record_refusal, taken_refusal, name_refusal, entries_refusal, elements_refusal, index_refusal}
pub use Rattle.list_model.specs.Step.{cause, done}
pub use Rattle.list_model.specs.declared.items.ListItem.{ListItem}
pub use Rattle.list_model.specs.declared.items.ListItem.TheVariants.{Row, Controls}
pub use Rattle.engine_api.proofs.CauseLaws.{none_hold, unless_false}
