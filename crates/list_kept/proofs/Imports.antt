-- What proofs here name of other crates, and of this one's definitions. Declares nothing.
pub use Rattle.cf_types.proofs.Imports.{nat_tests, find-append, list_all-append, bytes_decides, slice_cmp, texts_ties, list_all, list_any, prefix_len, position_or_len, option_or, is_eq, Gains}
pub use Rattle.cf_lists.proofs.Imports.{front, IsLastFull, lists_popped, pairwise, goes_first}
pub use Rattle.list_model.proofs.Imports.{Content, has_records, holder_without, first_records, with_record}
pub use Rattle.list_store.proofs.Imports.{Record, record_in, StoreView}
pub use Rattle.cf_types.proofs.GainsLaws.{gains_none}
pub use Rattle.list_watch.specs.Ends.{is_turned}
pub use Rattle.list_watch.specs.Rows.{row_turned}
pub use Rattle.list_watch.proofs.Imports.{differs, monitors_of, bit_of, rows_turned, rows_with}
pub use Rattle.std.proofs.Common.{◌≡◌, ℕ, zero, suc, ◌+◌, ◌≤◌, ◌<◌, true, List, [], ◌∷◌, length, replicate, sum_by, Option, None, Some, refl, sym, ap, subst, arith, IfSome, is_none, Bool, false, not, cond, Ordering, Less, Equal, Greater, is_lt, is_gt, nat_cmp, find, slice_get, ◌∙◌, ◌-◌, ◌==◌, ◌++◌, length-append, take, drop, ◌||◌, option_map, unwrap_or, is_some, filter, Bor, nat_lt, position, map}
pub use Rattle.std.proofs.lemmas.Bool.{and_parts, false≢true, eqb-true, and_from}
pub use Rattle.std.proofs.lemmas.List.{length-map, get_or_past, drop_more, length-replicate}
pub use Rattle.std.proofs.lemmas.List.Sums.{sum_by-cons, prefix_len-le-length}
pub use Rattle.cf_lists.proofs.AllLaws.{all-split, popped, all-map, list_of-get_or, any_all}
pub use Rattle.cf_lists.proofs.FilterLaws.{found_passes, find_none, none_from_all, list_all_weaker, any_is_found, filter_all, all_from_none, sum_by-filter-le, list_all-filter}
pub use Rattle.cf_lists.proofs.FrontLaws.{front_next, front_alone, front_none, front_all}
pub use Rattle.cf_lists.proofs.IdLaws.{gone, any-replaced, replaced_twice}
pub use Rattle.cf_lists.proofs.KeyLaws.{any_is_placed}
pub use Rattle.cf_lists.proofs.MapLaws.{mapped_more}
pub use Rattle.cf_lists.proofs.PairwiseLaws.{pairwise_weaker, pairwise-filter}
pub use Rattle.cf_lists.proofs.SplitLaws.{split_found}
pub use Rattle.cf_types.proofs.ResourceLaws.{same_name-eq, same_name-refl}
pub use Rattle.cf_types.specs.declared.numbers.EntryId.{EntryId}
pub use Rattle.cf_types.specs.declared.{effects.BitChange.BitChange, list_commands.At.TheVariants.Name}
pub use Rattle.cf_types.specs.declared.{names.Key16.Key16, names.Name16.Name16, numbers.ConnId.ConnId}
pub use Rattle.list_keys.specs.Names.{Named, id_of}
pub use Rattle.list_model.proofs.ContentLaws.{size, with-without, ordered_without}
pub use Rattle.list_model.proofs.ItemLaws.{first-all}
pub use Rattle.list_model.proofs.ListLaws.{IsWith, with-pairwise, with-records, with-insertion, with-push, sum-with, in-found, all-without, one-records}
pub use Rattle.list_model.proofs.RecordLaws.{key_back, key_up_to-either, not_false, names_apart-sym, key_up_to-trans}
pub use Rattle.list_model.proofs.StoreLaws.{record_of-at, full-elsewhere, full-others, records-elsewhere, full-replaced, placed-with}
pub use Rattle.list_model.specs.Commands.Move.{with_new_key}
pub use Rattle.list_model.specs.Keys.{key_up_to, same_key}
pub use Rattle.list_model.specs.Records.{names_apart, elements_in, elements_of, has_key, may_precede, has_name}
pub use Rattle.list_store.proofs.SpotLaws.{unplaced, spot_with}
pub use Rattle.list_store.proofs.StoreLaws.{none_shown}
pub use Rattle.list_store.proofs.TiedLaws.{none_within}
pub use Rattle.list_store.proofs.VecLaws.{all-replicate}
pub use Rattle.list_store.specs.CfPool.Pools.{need_at}
pub use Rattle.list_store.specs.Lists.{Lists, is_id, ids_apart, all_records, record_of, lists_replaced, records_of, with_records, count_of, record_id, records_without, lists_without, spot_of, has_id, lists_with}
pub use Rattle.list_store.specs.declared.{records.Rec.Rec, records.Spot.Spot}
pub use Rattle.list_watch.proofs.BitLaws.{monitors-turned, gains_two}
pub use Rattle.list_watch.proofs.MonitorLaws.{filter-map, monitors_of-others, monitors_of-with, monitors_of-without}
pub use Rattle.list_watch.specs.declared.{monitors.Monitor.Monitor, monitors.Watched.Watched}
pub use Rattle.list_kept.specs.ContentView.{comes_behind, put_back}
pub use Rattle.list_kept.specs.Data.{AreUsed, blank, with_data, renewed}
pub use Rattle.list_kept.specs.Named.{AreNamed, is_its, WritesIts}
pub use Rattle.list_kept.specs.Orderly.{IsOrderly}
pub use Rattle.list_kept.specs.Told.{is_told}
pub use Rattle.list_kept.specs.declared.{bare.Bare.Bare}
pub use Rattle.list_model.proofs.EngineLaws.{all_ordered}
