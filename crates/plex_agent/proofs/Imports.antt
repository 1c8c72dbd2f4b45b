-- What proofs here name of other crates, and of this one's definitions. Declares nothing.
pub use Rattle.plex_board.proofs.Imports.{drop-cons, set-append_seam, map-set_same, get_or-append_seam, take-append_seam, nat_tests, All-head, All-tail, filter_map-append, All-get_or, All-map, All-same, All-weaker, All-nil, All-cons, All-take, All-push, filter-append, length-range_with_len, get_or-range_with_len, length-map-range_with_len, get_or-map-range_with_len, map-map, bit_at, filter_map, range_with_len, enumerate_from, flat_map, option_copied, vec_len, vec_capacity, into_iter_items, set_same, get_within, get-set_same, get-set_other, marks_counted, asks_some, fewer_asks, ready_after, rests, some_goes, BoardShown, IsDeskOf, cell_on, AreClosed, new_desk, IsStarted, IsClosed, note_in, IsAccount, IsTrayOf, no_notes, AreEachAsked, AreLinksAsked, four_of, links_of, altered_caches, IsAnyTold, CellShown, IsAskOf, TellsEnough, IsFacility, pass_at, DeskShown, with_pass, IsLaterOn, no_pass, fixed_of, trues, MayCommand, Meaning, TellsBit, TellsWord, place_of, ShowsHistories, TellsOf, TestsTell, EndsRight, IsHistoryOf, Rising, AnyTells, any_take, end_of, MayAskAny, IsAnyPoint, any_stands, any_word, IsOfKind, AreAnyAsTold, no_calls, numbers_from, any_numbers, any_told, any_next, last_number, IsAnyLegal, any_answers, any_marks_at, queued_lists, lock_meaning, with_any_note, with_note, PassShown, IsLater, with_call, NoteShown, note_of, unused_pass, calls_on, AnyCall, is_linked, length_on, any_length, any_calls, own_calls, call_numbered, calls_of, length_of, link_place, AreTelling, IsLinkOf, AreRunLinks, IsRunnable, IsRunnableLine, IsRunnableAct, with_shown, test_shown, word_shown, post_made, take_made, start, connectors, Run, stopped_at, steps_made, is_done, after_departure, after_closing, all_steps_made, after_line, serial_run, shown_to, transcript_of, transcript_at, act_made, AreMadeBelow, IsTold, type_of_kind, type_of_history, type_of_ask, bit_in, sight, indices_of}
pub use Rattle.std.proofs.Common.{◌≡◌, ℕ, ◌*◌, ◌<◌, inl, inr, nat_lt, Bool, true, false, List, [], ◌∷◌, length, Some, None, refl, sym, ap, subst, ◌∙◌, append-nil, slice_get, MatchBool, ◌+◌, ◌^◌, ◌≤◌, ◌==◌, ◌&&◌, ◌++◌, map, arith, cond, All, ◌≢◌, max, fold, Option, suc, append_assoc, IfSome, drop, get_or, take, if◌then◌else◌, zero, replicate, option_map, length-set, length-append, slice_index_or, set, ◌⊎◌, ◌-◌, Result, Ok, Err, OnOk, slice_set, Vec, Global, IfOk, IsOkAnd, rules}
pub use Rattle.std.proofs.Math.Numerals.{add-one}
pub use Rattle.std.proofs.lemmas.Bool.{ltb-true, ltb-false, cases_eq, eqb-true, eqb-false, cases_lt}
pub use Rattle.std.proofs.lemmas.List.{map-append, set-set, get_or-replicate, length-replicate, length-map, get_or-map, get_or_read, get_or_append_left, set-append_left, set-get_or, replicate_more, get_or-set_same, get_or-set_other, get_or_past, with_items_is, drop_all, same_lists}
pub use Rattle.std.proofs.lemmas.List.Sums.{fold-append, fold_push}
pub use Rattle.std.proofs.lemmas.Option.{get_or_from_slice_get, slice_get-get_or, slice_get_within, slice_get-map}
pub use Rattle.std.specs.Prelude.{unwrap_or}
pub use Rattle.plex_board.proofs.CfLink.LinkLaws.{asked_faults, asked_calls, asked_told}
pub use Rattle.plex_board.proofs.DeskLaws.{pass_at-with_pass_same, with_pass-pass_at, desk-length, new_desk-of_board}
pub use Rattle.plex_board.proofs.RunShown.HistoryLaws.{take_none, calls_rise, same_calls, take_all, own_same}
pub use Rattle.plex_board.proofs.SeamLaws.{IsFrontOf, end_length, point_end, next_call, front_of, numbers_of, numbers_any, IsBefore}
pub use Rattle.plex_board.proofs.SightLaws.{told_past, each_sight, bit_in_word}
pub use Rattle.plex_board.proofs.ToldLaws.{links_told}
pub use Rattle.plex_board.proofs.WordLaws.{all_bits}
pub use Rattle.plex_board.specs.Callers.{lines_by, IsLineFor, no_items}
pub use Rattle.plex_board.specs.CfLink.Links.{Telling, AreAsked, IsAskedAll, link_at}
pub use Rattle.plex_board.specs.CfLink.declared.links.Links.{Links}
pub use Rattle.plex_board.specs.CfTypes.declared.shell_commands.ShellCmd.{ShellCmd}
pub use Rattle.plex_board.specs.CfTypes.declared.{forms.Kind.Kind, forms.StrForm.StrForm}
pub use Rattle.plex_board.specs.CfTypes.NoMemory.{Wants.want, declared.wants.NoMemory.NoMemory}
pub use Rattle.plex_board.specs.CfTypes.declared.{limits.TheConstants.CONNECTORS, numbers.CfId.CfId}
pub use Rattle.plex_board.specs.CfTypes.declared.{numbers.ConnId.ConnId, numbers.StrNo.StrNo}
pub use Rattle.plex_board.specs.EngineApi.History.{Tells, stands_after}
pub use Rattle.plex_board.specs.EngineApi.declared.{histories.Entry.Entry, told.Told.Told}
pub use Rattle.plex_board.specs.Floors.{worker_of, no_worker, new_floor, Floor, with_worker, heard_from_last, heard_all, ClosesAll, Plays, heard_from, told_by, is_counted, PlaysAct, is_working, PlaysLine, PlaysLines, worker_after_take, worker_ready, last_after, ClosesOne}
pub use Rattle.plex_board.specs.RunShown.Numbers.{seen_on, shown_on}
pub use Rattle.plex_board.specs.PlexScript.Agent.{first_step, call_of, most_asks, step_after, IsReady, asked_by, shell_ask}
pub use Rattle.plex_board.specs.PlexScript.Follows.{RunsUpTo, ShowsAct, numbers_on, surest_on, Runs, is_linked_by, ShowsClosing, ShowsClosings, ShowsLines, number_on, sure_on, IsNote, AgreesWith, IsHeard, lines_of}
pub use Rattle.plex_board.specs.PlexScript.declared.transcripts.Transcript.{Transcript}
pub use Rattle.plex_board.specs.PlexScript.declared.{agents.Step.Step, asks.AnyHistory.AnyHistory, scripts.Act.Act}
pub use Rattle.plex_board.specs.PlexScript.declared.{scripts.AnyAsk.AnyAsk, scripts.Line.Line, scripts.Script.Script}
pub use Rattle.plex_board.specs.PlexScript.declared.{transcripts.AgentEnd.AgentEnd, transcripts.Shown.Shown}
pub use Rattle.plex_board.specs.StructCell.declared.refused.CallRefused.{CallRefused}
pub use Rattle.plex_board.specs.Turns.{AtWork, Tests, TestsWord, ShowsOnly, RunsOut, Acts, Asks, Steps, EndsAt, Halts, call_item, Turns, Departs, is_done_as, with_item, IfDone, Posts, MayAct, Takes}
pub use Rattle.plex_board.specs.VecWords.declared.logged.Sight.{Sight}
pub use Rattle.plex_board.specs.declared.any_reply.AnyReply.{AnyReply}
pub use Rattle.plex_agent.specs.Calls.{IsAsked, at_work, IsAskable}
pub use Rattle.plex_agent.specs.Chains.{Hears, DoesLines, DepartsEach, Serves, HearsThen}
pub use Rattle.plex_agent.specs.Crews.{IsIdle, IsServed, WorkEach, idle_worker, crew_of}
pub use Rattle.plex_agent.specs.Ends.{ShowsUpTo, WorkEnds, ShowsWork, beginner}
pub use Rattle.plex_agent.specs.Played.{IsBoardOf, IsPlayed}
pub use Rattle.plex_agent.specs.Standing.{AreCallersOf, IsPlayable, IsFloorOf, IsTurn, TakesTurn, PlaysActOn, conns_from, AreDesksOf}
pub use Rattle.plex_agent.specs.declared.in_turn.Finished.{Finished}
pub use Rattle.plex_board.proofs.EngineApi.Pushed.{each_none, each_push, Each}
