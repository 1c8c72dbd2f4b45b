-- What proofs here name of other crates, and of this one's definitions. Declares nothing.
pub use Rattle.cf_types.proofs.Imports.{false≢true, and_from, map-append, list_any, list_all, is_list}
pub use Rattle.cf_lists.proofs.Imports.{pairwise, all_records, records_of, count_of}
pub use Rattle.engine_api.proofs.Imports.{IsNextItem}
pub use Rattle.list_kept.proofs.Imports.{none_shown, none_within, put_back, renewed, IsOrderly, is_told, Lists, is_id, record_of, lists_without, ids_apart, lists_replaced, records_without, Record, record_in, differs, monitors_of}
pub use Rattle.list_model.proofs.Imports.{record_at, the_record, with_record, list_meaning, elements_in}
pub use Rattle.std.proofs.Common.{◌≡◌, ℕ, Bool, true, List, Option, Some, None, refl, sym, ap, ◌∙◌, subst, IfSome, ◌<◌, Result, Ok, Err, false, OnOk, OnErr, ◌+◌, not, cond, [], ◌∷◌, map, arith, ◌++◌, Bor, take, option_map, slice_get, drop}
pub use Rattle.std.proofs.lemmas.Result.{IfOk-weaker}
pub use Rattle.cf_lists.proofs.FilterLaws.{any_is_found, filter_all, all_from_none}
pub use Rattle.cf_lists.proofs.TakeLaws.{take_next}
pub use Rattle.cf_types.proofs.GainsLaws.{gains_none}
pub use Rattle.cf_types.specs.declared.list_commands.ListCmd.TheVariants.{Write, Update, Move, Delete, LockSet, LockReset, SetLimit}
pub use Rattle.cf_types.specs.declared.{forms.Caps.Caps, list_commands.At.At, list_commands.ListCmd.ListCmd}
pub use Rattle.cf_types.specs.declared.{list_commands.ListReply.ListReply, names.Key16.Key16, numbers.ConnId.ConnId}
pub use Rattle.cf_types.specs.declared.{numbers.EntryId.EntryId, refusals.Refusal.Refusal}
pub use Rattle.engine_api.proofs.FrontLaws.{content-placed}
pub use Rattle.engine_api.specs.declared.shapes.Shape.{Shape}
pub use Rattle.list_kept.proofs.ReadLaws.{drop_lists, count_more}
pub use Rattle.list_kept.specs.declared.bare.Bare.{Bare}
pub use Rattle.list_model.proofs.ContentLaws.{header_there, content-done, the_record-in, index_there}
pub use Rattle.list_model.proofs.EngineLaws.{content-nothing, leave-content, need-items, next-fits, list-fronts, content-unplace}
pub use Rattle.list_model.proofs.ItemLaws.{length-items, row-here, row-later}
pub use Rattle.list_model.proofs.StoreLaws.{record_of-at, new-alone, full-replaced}
pub use Rattle.list_model.specs.Commands.Move.{with_new_key}
pub use Rattle.list_model.specs.Commands.Update.{with_new_data}
pub use Rattle.list_model.specs.Commands.Write.{new_id}
pub use Rattle.list_model.specs.Contents.{Content, IsContent, headers_of, has_records, stands}
pub use Rattle.list_model.specs.Items.{Triple, triple_of, monitor_of, content_with, rows_from}
pub use Rattle.list_model.specs.ListStore.declared.records.Rec.{Rec}
pub use Rattle.list_model.specs.ListWatch.declared.{monitors.Monitor.Monitor, monitors.Watched.Watched}
pub use Rattle.list_model.specs.Refusals.{record_refusal, lock_refusal, elements_refusal}
pub use Rattle.list_model.specs.Step.{causes, cause}
pub use Rattle.list_model.specs.declared.items.ListItem.{ListItem}
pub use Rattle.list_model.specs.declared.items.ListItem.TheVariants.{Controls, Row}
pub use Rattle.list_core.specs.Found.{IsFound, updated_with}
pub use Rattle.list_core.specs.Plans.{plan_unless, plan_for, IsPossible}
pub use Rattle.list_core.specs.Rows.{told_row, IsPlaceable}
pub use Rattle.list_core.specs.declared.plans.Plan.{Plan}
pub use Rattle.list_model.proofs.ListLaws.{with-all, each-records, one-records, all-without, all-map}
pub use Rattle.engine_api.proofs.CauseLaws.{none_hold}
