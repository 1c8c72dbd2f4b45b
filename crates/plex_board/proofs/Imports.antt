-- What proofs here name of other crates, and of this one's definitions. Declares nothing.
pub use Rattle.struct_cell.proofs.Imports.{map-set_same, get_or-append_seam, map-append, length-map, length-append, set-get_or, get_or-map, append-nil, map-set, append_cancel_left, take_more, take-append-drop, length-set, take_all, All-pop, All-push, All-nil, All-cons, All-head, All-tail, All-map, All-weaker, All-get_or, Decides-contains, length-range_with_len, map-range_with_len_more, length-map-range_with_len, get_or-map-range_with_len, mod-pow-add, bit_at-lt, map-map, Decides, bit_at, range_with_len, flat_map, list_any, sum_by, vec_len, vec_capacity, into_iter_items, into_iter_len, map-filtered, IsAtGroup, group-turn, answers-turn, answers-append, Agree, marks_agree, by_turns, calls-turn, call_added, IsMade, call_made, legal_none, legal_turn, RisesTo, numbers_rise, three_each, length-turn, IsForm, IsFacility, answers, answers_from, read_all, Call, calls, IsLegal, Turn, after_turn, own, replay, IsPoint, links_asked, Asks, reached_in, marks_of, answers_to, Machine, Meaning, told_of, reply_to, About, own_call_of, AreMadeBelow, IsTold, bit_in, sight, PassSeen, WordTable, new_pass, drop-cons, set-append_seam, take-append_seam, filter_map-append, All-same, All-take, filter-append, get_or-range_with_len, filter_map, enumerate_from, option_copied, set_same, get_within, get-set_same, get-set_other, marks_counted, pushed_cases, trues, MayCommand, IsConnector, decimal_injective, flat_map-append, recursion_from_All, All-filter, filter_passes, length-filter_both, sum_by-filter_both, list_any_at, list_all-append, list_any-append, list_all-map, MatchBool, is_ascii_digit, decimal, list_all, AllByRecursion, MatchOption, any_is_found, all_found, filter_swap, filter_absorbed, list_all_weaker, none_from_all, filter_none, list_all-filter, found_passes, list_all-insertion, continues_legal, calls-append, replay-push, numbered_legal, ContentLaws, held-replay, third_none, not_so, manned-replay, active_of, active_member, first_none, somebody_member, pairwise, is_active, is_cache, same_name, block_of, text_in_block, is_mark_as, marks_at, unless, content_done, with_entered, Held, unless_refused, new_held, first_refusal, shape_of, Shell, if_failed, content_cause, accepted_as, Appends-trans, length-replicate, get_or-enumerate_from, length-enumerate_from, passes_at_first, Appends, position_or_len, concat, word_number, count_of}
pub use Rattle.cache_model.proofs.Imports.{cache_meaning, same_name-eq, Content, no_content, IsContent, IsOrderly, row_of, row_or_new, new_row, is_row_of, has_row, Deed, Copies, after_deed, after_run, copy_in, reply_copy, Copy, copies_done, copies_unless, copies_after, row_copy, Calls, Leaves, Forgets, Uncast, Uncasts, uncast_cast, uncast_unlocked, uncast_unless, uncast_after}
pub use Rattle.cache_model.proofs.ContentLaws.{orderly-content, content-done}
pub use Rattle.cache_model.proofs.EngineLaws.{content-nothing, leave-content, content-moved, need-front, need-leave}
pub use Rattle.list_model.proofs.Imports.{list_meaning, headers_of, the_record, with_record, Record}
pub use Rattle.list_model.proofs.ContentLaws.{the_record-in}
pub use Rattle.list_model.proofs.ListLaws.{with-all, each-records, one-records, all-without, all-map}
pub use Rattle.list_model.specs.Step.{causes}
pub use Rattle.lock_model.proofs.Imports.{lock_meaning, none_hold, OwnersAreCompatible, records_in, departure_of, with_returned, records_refusal}
pub use Rattle.lock_model.proofs.DepartureLaws.{led_departed, content-returned}
pub use Rattle.plex_script.proofs.Imports.{AnyCall, any_call, any_calls, any_length, own_calls, call_numbered, calls_on, is_linked, length_on, calls_of, length_of, first_step, step_after, most_asks, asked_by, call_of, shell_ask, declared_in, is_twice, kind_of, Declares, AddsDeclaration, AddsOfCaller, AddsWords, AddsAll, IsScript, empty_script, line_number, with_declaration, same_word-of, numeral-decimal, Words, characters-term, term-name, facility_word, connector_line, is_name, name_word, is_numeral, same_word, words_of, line_text, tail_of, line_of, decimal-numeral, SaysOne, IsExclusive, is_ask_of, script_text, TellsFault}
unfoldable pub use Rattle.struct_cell.proofs.Imports.{indices_of, conns_from, actives, no_connections, empty_mail}
pub use Rattle.std.proofs.Common.{◌≡◌, ℕ, List, [], ◌∷◌, ◌++◌, sym, ap, ◌∙◌, IfOk, Ok, Err, Result, ◌+◌, length, map, subst, arith, All, Option, ◌-◌, ◌<◌, ◌≤◌, get_or, set, get_or-set_other, Some, get_or-set_same, refl, append_assoc, option_to_list, suc, ◌*◌, ◌==◌, Bool, true, false, suc-le-suc, zero-lt-suc, zero, slice_get, ◌≢◌, None, IfErr, IfSome, ◌⊎◌, inl, inr, take, fold, Contains, is_some, option_map, ◌%◌, Vec, drop, if◌then◌else◌, ◌^◌, add-zero, mod-eq_of_lt, replicate, IsSome, IfNone, rules}
pub use Rattle.std.proofs.Math.Nat.{pow-suc}
pub use Rattle.std.proofs.Math.Seq.{drop-append_seam}
pub use Rattle.std.proofs.lemmas.List.{take-map, drop-map}
pub use Rattle.std.proofs.lemmas.Bool.{eq-eqb, ne_eqb, false≢true, cases_lt}
pub use Rattle.std.proofs.lemmas.Bool.Decides.{nat_tests, same_from_decides, Decides-by_or, Decides-eqb}
pub use Rattle.std.proofs.lemmas.List.Sums.{fold_push, sum_by_push}
pub use Rattle.std.proofs.lemmas.Option.{slice_get_within, get_or_from_slice_get, slice_get_read, slice_get-map}
pub use Rattle.plex_script.specs.CfTypes.NoMemory.Wants.{want}
pub use Rattle.plex_script.specs.CfTypes.declared.limits.TheConstants.{LINKS, STRUCTURES, CONNECTORS}
pub use Rattle.plex_script.specs.CfTypes.declared.{forms.Kind.Kind, forms.StrForm.StrForm, numbers.CfId.CfId}
pub use Rattle.plex_script.specs.CfTypes.declared.{numbers.ConnId.ConnId, numbers.StrNo.StrNo}
pub use Rattle.plex_script.specs.EngineApi.declared.told.Told.{Told}
pub use Rattle.plex_script.specs.EngineApi.declared.{asks.Ask.Ask, asks.Reply.Reply, histories.Entry.Entry}
pub use Rattle.plex_script.specs.declared.{asks.AnyHistory.AnyHistory, scripts.AnyAsk.AnyAsk}
pub use Rattle.struct_cell.proofs.CfLink.LinkLaws.{asked_told}
pub use Rattle.struct_cell.specs.CfIo.Count.{IsListed}
pub use Rattle.struct_cell.specs.CfLink.Links.{AreAsked, Telling, link_at, calls_after, IsAsTold, Tells}
pub use Rattle.struct_cell.specs.CfLink.Tells.{TellsEnough}
pub use Rattle.struct_cell.specs.CfLink.declared.links.Links.{Links}
pub use Rattle.struct_cell.specs.VecWords.declared.logged.Sight.{Sight}
pub use Rattle.struct_cell.specs.declared.{inside.CellKey.CellKey, refused.CallRefused.CallRefused}
pub use Rattle.plex_board.specs.Boards.{BoardShown, IsDeskOf, AreClosed, AreEachAsked, AreLinksAsked, cell_on, fixed_at, new_desk, IsClosed, IsAccount, four_of, IsStarted, links_of, IsTrayOf, note_in, no_notes, IsPolicy}
pub use Rattle.plex_board.specs.Cells.{CellShown, IsPassOf, IsAnyTold, own_replies, keyed_as, replied, IsNoteOf, cell_shown, IsAskOf}
pub use Rattle.plex_board.specs.Desks.{DeskShown, no_pass, Fixed, fixed_of, pass_at, with_pass, IsAnsweredOn, IsLaterOn}
pub use Rattle.run_shown.specs.Kinds.{IsAnyPoint, IsOfKind, IsAnyLegal, Rising, any_take, no_calls, any_numbers, end_of, last_number, numbers_from, MayAskAny, AnyTells, any_stands, any_word}
pub use Rattle.run_shown.specs.Meanings.{altered_caches}
pub use Rattle.run_shown.specs.QueueModel.ListQueues.{queued_lists}
pub use Rattle.plex_board.specs.AnyCalls.{any_answers, AreAnyAsTold, any_next, any_told, any_marks_at}
pub use Rattle.plex_board.specs.Notes.{with_any_note, with_note}
pub use Rattle.plex_board.specs.Openings.{bare_desk, desk_with, desk_at, IsOpening, IsUnused, IsBegun}
pub use Rattle.plex_board.specs.Passes.{PassShown, IsAnswered, call_by, heard_by, reply_by, replies_by, shown_as, with_call, unused_pass, passes_shown, type_of_passes, room_of, NoteShown, IsLater, reply_numbered, note_shown, pass_shown, note_of}
pub use Rattle.plex_board.specs.Rests.{HomeShown, homes_shown, AllFit, homes_gathered, AreHomes, AreEmpty, AreEnded, IsReady, each_with, home_shown, home_with, Fits, IsHomeOf, IsRoomy}
pub use Rattle.plex_board.specs.Told.{next_by, told_by, after_call, down_of, is_listed}
pub use Rattle.plex_board.specs.Types.{StrType, OfCache, type_of_kind, OfList, OfLock, type_of_history, type_of_ask}
pub use Rattle.plex_board.specs.declared.{any_note.AnyNote.AnyNote, opening.Opening.Opening}
pub use Rattle.plex_board.specs.declared.{any_pass.AnyPasses.AnyPasses, any_reply.AnyReply.AnyReply, rest.Rest.Rest}
pub use Rattle.plex_script.proofs.StepLaws.{asks_some, fewer_asks, ready_after, rests, some_goes}
pub use Rattle.run_shown.specs.Headline.{TellsBit, TellsWord, place_of, ShowsHistories, TellsOf, TestsTell, EndsRight, IsHistoryOf}
pub use Rattle.plex_board.specs.RunLinks.{link_place, AreTelling, IsLinkOf, AreRunLinks}
pub use Rattle.plex_board.specs.Runnable.{IsRunnable, IsRunnableLine, IsRunnableAct}
pub use Rattle.plex_board.specs.Serial.{with_shown, test_shown, word_shown, post_made, take_made, start, connectors, Run, stopped_at, steps_made, is_done, after_departure, after_closing, all_steps_made, after_line, serial_run, shown_to, transcript_of, transcript_at, act_made}
pub use Rattle.plex_board.specs.Means.{Means}
