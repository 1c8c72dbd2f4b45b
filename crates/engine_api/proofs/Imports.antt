-- What proofs here name of other crates, and of this one's definitions. Declares nothing.
pub use Rattle.cf_types.proofs.Imports.{nat_tests, take-append-le, length-take, map-append, length-set, length-map, filter-append, filter_map-append, Contains-push_cases, Connections, with_departure, cond}
unfoldable pub use Rattle.cf_types.proofs.Imports.{no_connections}
pub use Rattle.std.proofs.Common.{◌≡◌, ℕ, ◌+◌, ◌==◌, Bool, true, false, List, [], ◌∷◌, ◌++◌, length, refl, sym, ap, ◌∙◌, arith, append_assoc, append-nil, length-append, fold, filter, Option, None, Some, ◌≤◌, ◌||◌, subst, IsTrue, zero, suc, ◌<◌, inl, inr, take, slice_get, ◌*◌, ◌⊎◌, Contains, take_at, zero-lt-suc, le_of_lt}
pub use Rattle.std.proofs.lemmas.Bool.{eq-eqb, eqb-true, cases_lt}
pub use Rattle.std.proofs.lemmas.List.Sums.{fold_push, fold-append}
pub use Rattle.std.proofs.lemmas.Option.{slice_get_within}
pub use Rattle.cf_types.specs.declared.shell_commands.ShellCmd.{ShellCmd}
pub use Rattle.cf_types.specs.declared.{effects.Effects.Effects, events.Event.Event, forms.Caps.Caps, forms.Kind.Kind}
pub use Rattle.cf_types.specs.declared.{forms.StrForm.StrForm, limits.TheConstants.CALLERS, numbers.CfId.CfId}
pub use Rattle.cf_types.specs.declared.{numbers.ConnId.ConnId, refusals.Refusal.Refusal}
pub use Rattle.engine_api.specs.Answers.{Reading, begun, read_entry, read_all, answers_from, answers, marks_at, trues, is_mark_as}
pub use Rattle.engine_api.specs.History.{Turn, replay, next_mark, next_entry, with_mark, with_marks, marks_by, after_turn, IsLegal, Call, call_of, calls, machine_after, IsNext, IsNextAs, IsEachNext, Continues, numbers, IsPoint, last_call_below, IsNumbered, with_call, after_what, next_reply, own, stands_after}
pub use Rattle.engine_api.specs.Items.{Fits, IsAlone, IsNextItem, content_of_items, IsNoMore, IsNoMoreOf}
pub use Rattle.engine_api.specs.LinkAsks.{links_asked, asked_unless, asks_of, Asks, AreDistinct, has, marks_of, answers_to, listed, apart, reached, reached_in, operator}
pub use Rattle.engine_api.specs.Machine.{Machine, opening, room_of, step, unless, content_reply, content_done, command_done, entered_machine, loss_step, departure_from, with_back_of, with_made, content_after, copied_after, items_of, CallOutcome, moved_by, with_entered}
pub use Rattle.engine_api.specs.Meaning.{Meaning, Wish, unless_refused, first_refusal, Held, new_held}
pub use Rattle.engine_api.specs.Meaning.Wish.{ForCmd, ForLeave, ForForget}
pub use Rattle.engine_api.specs.Points.{AreSome, AreMarksOf, MayEnd, IsReplied, IsByPoints}
pub use Rattle.engine_api.specs.Rebuilds.{fresh_of, is_held_up, is_switch, is_copy}
pub use Rattle.engine_api.specs.Shell.{call_cause, Shell, shell_cause, content_cause, shell_done, with_posted, stop_outcome, rebuild_connect_outcome, complete_outcome, take_event, responded, response_outcome, is_kept, loss_outcome, vary_outcome, simplex_again, with_off, is_candidate, candidates, Leaver, emptied, if_rebuilding, refusal_when, unless_copied_to, ShellOutcome, leaver, made_at, caps_in, is_drop, mark_outcome, is_restart, facility_of, failed_outcome, idle_outcome, simplex_outcome, stopped_outcome, if_failed, unless_active, with_primary, if_no_place, is_connect, no_deeds, departure_outcome, fresh_made, given_outcome, goes, is_empty, shell_causes, caps_made, entered, if_lost, opening_shell}
pub use Rattle.engine_api.specs.declared.{asks.Ask.Ask, asks.Reply.Reply, asks.What.What}
pub use Rattle.engine_api.specs.declared.{histories.Entry.Entry, shapes.Shape.Shape}
pub use Rattle.engine_api.specs.Instances.{greatest_units, place_for, units_of, is_at, Instances, no_instance}
pub use Rattle.rebuild_core.specs.Stages.{outcome_of, rebuild_emptied, rebuild_in, rebuild_left, rebuild_without, with_place, without_owing, outcome, rebuild_onward, owing_after, next_stage, new_rebuild, is_response}
pub use Rattle.engine_api.specs.Shapes.{shape_of}
pub use Rattle.engine_api.specs.Asking.{MayCommand, IsOperator}
pub use Rattle.engine_api.specs.Told.{told_of}
