-- What proofs here name of other crates, and of this one's definitions. Declares nothing.
pub use Rattle.cf_types.proofs.Imports.{min-le_right, filter_agree, without_member, is_member, state_of, Connections, is_active, no_connections, defined_count, with_connect, with_departure, with_forced, next_event, owed_event}
unfoldable pub use Rattle.cf_types.proofs.Imports.{actives}
pub use Rattle.engine_api.proofs.Imports.{machine_after, replay, Continues, after_what, IsLegal, place_for, units_of, is_at, Instances, no_instance, Fits, IsNoMore, IsNoMoreOf, Machine, step, loss_step, departure_from, room_of, with_back_of, with_made, command_done, content_after, content_reply, copied_after, entered_machine, unless, items_of, opening, content_done, CallOutcome, moved_by, Meaning, unless_refused, first_refusal, outcome_of, rebuild_emptied, rebuild_in, rebuild_left, rebuild_without, with_place, without_owing, outcome, rebuild_onward, owing_after, next_stage, new_rebuild, is_response, fresh_of, is_held_up, is_switch, is_copy, shape_of, Leaver, Shell, content_cause, emptied, if_rebuilding, refusal_when, unless_copied_to, ShellOutcome, candidates, leaver, made_at, shell_cause, with_posted, caps_in, is_drop, mark_outcome, is_restart, facility_of, failed_outcome, idle_outcome, loss_outcome, simplex_outcome, stopped_outcome, vary_outcome, with_off, if_failed, unless_active, with_primary, if_no_place, is_connect, no_deeds, complete_outcome, departure_outcome, fresh_made, given_outcome, goes, is_empty, is_kept, rebuild_connect_outcome, responded, response_outcome, shell_causes, shell_done, simplex_again, stop_outcome, take_event}
pub use Rattle.cf_lists.proofs.Imports.{pairwise}
pub use Rattle.std.proofs.Common.{◌≡◌, List, [], ◌∷◌, ◌++◌, ap, subst, ℕ, Bool, true, false, IsTrue, Option, None, Some, refl, sym, arith, if◌then◌else◌, is_some, ◌≤◌, nat_lt, ◌&&◌, cond, is_none, ◌∙◌, take, inr, ◌||◌, ◌+◌, ◌⊎◌, inl, length, min, option_map, fold, ◌≢◌, not, filter, ◌==◌, append_assoc, append-nil}
pub use Rattle.std.proofs.lemmas.Bool.{ltb-false, false≢true, both_ways, eq-eqb, false_from_ne_true, and_parts, eqb-true}
pub use Rattle.std.specs.Prelude.{unwrap_or, set, slice_get, ◌<◌}
pub use Rattle.cf_types.proofs.Imports.{list_all, list_any, sum_by, sum_by-cons, AllByRecursion, recursion_from_All, length-set}
pub use Rattle.engine_api.proofs.Imports.{fold_push}
pub use Rattle.cf_types.specs.ConnSets.{with_member}
pub use Rattle.cf_types.specs.Forms.{IsFacility, IsForm, IsPref}
pub use Rattle.cf_types.specs.declared.limits.TheConstants.{FACILITIES}
pub use Rattle.engine_api.specs.Shell.{if_quiesced, is_off, is_severed, stands_at}
pub use Rattle.cf_lists.proofs.FilterLaws.{filter-filter, filter_swap, any_is_found, all_found, filter_absorbed, list_all_weaker, none_from_all, filter_none, list_all-filter, found_passes}
pub use Rattle.cf_types.proofs.ConnSetLaws.{filter_none_from}
pub use Rattle.cf_types.proofs.ConnectionLaws.{defined_count-unconnected, gone-from_none_defined, actives-with_answer, actives-with_departure, actives-with_forced, is_active-within, is_member-actives}
pub use Rattle.cf_types.specs.declared.events.Stage.TheVariants.{Quiesce, Connect, Copy, Cleanup, Stopping}
pub use Rattle.cf_types.specs.declared.{events.Event.Event, events.Letter.Letter}
pub use Rattle.cf_types.specs.declared.{events.Stage.Stage, forms.Caps.Caps, forms.Kind.Kind, forms.Pref.Pref}
pub use Rattle.cf_types.specs.declared.{forms.StrForm.StrForm, limits.TheConstants.CALLERS, numbers.CfId.CfId}
pub use Rattle.cf_types.specs.declared.{numbers.ConnId.ConnId, refusals.Refusal.Refusal}
pub use Rattle.cf_types.specs.declared.{shell_commands.ShellCmd.ShellCmd, shell_commands.ShellReply.ShellReply}
pub use Rattle.engine_api.proofs.FrontLaws.{content-moved}
pub use Rattle.engine_api.proofs.HistoryLaws.{replay-push, continues_legal}
pub use Rattle.engine_api.proofs.ShellLaws.{length-conns-step, length-conns-replay, conns-loss}
pub use Rattle.engine_api.specs.RebuildCore.declared.rebuild.Rebuild.{Rebuild}
pub use Rattle.engine_api.specs.RebuildCore.declared.{passed.Passed.Passed, passed.Passed.TheVariants.No}
pub use Rattle.engine_api.specs.declared.{asks.Ask.Ask, asks.Reply.Reply, asks.What.What, deeds.Deeds.Deeds}
pub use Rattle.engine_api.specs.declared.{deeds.Room.Room, histories.Entry.Entry, shapes.Shape.Shape}
pub use Rattle.shell_laws.specs.Accepted.{accepted_as}
pub use Rattle.shell_laws.specs.Capacities.{HasRoom, IsHeld, AreFitting, caps_behind, fresh_behind, fresh_caps}
pub use Rattle.shell_laws.specs.Departures.{IsQuiet, IsDeparture, IsReturn, IsGone, stands_in}
pub use Rattle.shell_laws.specs.Facts.{candidates_told, capacity_told, caps_by, caps_next, caps_past, copied_in, copied_told, failed_by, failed_next, failed_told, goes_behind, is_cleanup, is_end, is_failure, is_start, is_stopping, items_told, last_told, lost_told, behind_start, next_behind, quiesced_in, quiesced_told, reading_told, severs, told_by, told_from, told_next, varied_told, varies, with_behind}
pub use Rattle.shell_laws.specs.Filling.{IsFilled, IsFilling}
pub use Rattle.shell_laws.specs.History.{actives_after, conns_after}
pub use Rattle.shell_laws.specs.Members.{HasPlace, IsManned, IsPlaced, HasMembers, Somebody, IsPaired}
pub use Rattle.shell_laws.specs.Readings.{rebuild_told, Reading, read_from, read_next, read_past, rebuild_of, awaited, begun, has_given, passed, read_behind, with_entry, with_stage, with_told}
pub use Rattle.shell_laws.specs.Steps.{rebuild_next, rebuild_given}
pub use Rattle.shell_laws.specs.Stops.{KeepsTheOld, StopsKeepTheOld}
pub use Rattle.shell_laws.specs.Tellings.{Telling, telling_of, telling_entry, TellingEntry, is_awaited, is_emptying, mark_telling, telling}
pub use Rattle.shell_laws.specs.Tellings.Telling.{Departs, Forces, Starts, Places, Stops, Fails, Nothing, Completes, Responds, Copies, Deallocates}
pub use Rattle.cf_lists.proofs.ImageLaws.{map-filtered}
pub use Rattle.cf_lists.proofs.TableLaws.{set_same, get_within, get-set_same, get-set_other}
pub use Rattle.cf_lists.proofs.InsertionLaws.{list_all-insertion}
pub use Rattle.engine_api.proofs.CauseLaws.{none_hold, NoneHolds}
