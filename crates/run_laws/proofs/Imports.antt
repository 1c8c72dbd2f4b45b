-- What proofs here name of other crates, and of this one's definitions. Declares nothing.
pub use Rattle.std.proofs.Common.{◌≡◌, true, None, is_some, List, ℕ, zero, suc, ◌+◌, ◌≤◌, ◌<◌, length, Option, Some, slice_get, refl, ap, subst, ◌∙◌, arith, [], ◌∷◌, ◌++◌, sym, false, take, drop, map, option_map, unwrap_or, Bool, ◌&&◌, ◌==◌, cond, ◌≢◌, ◌-◌, inl, inr, not, codes, replicate, get_or, ◌⊎◌, length-append, ◌^◌, append_assoc, append-nil, IsTrue, option_and_then, find, filter, Contains, if◌then◌else◌, All, ◌*◌, ◌/◌, ◌%◌, nat_lt, nat_le, fold, ◌||◌, sum_by, min}
pub use Rattle.std.proofs.KnownBytes.{Appends-trans}
pub use Rattle.std.proofs.Math.Nat.{pow-suc}
pub use Rattle.std.proofs.Math.Seq.{take-append_seam}
pub use Rattle.std.proofs.lemmas.Bool.{and_parts, and_from, false≢true, cases_lt, or_parts, eqb-true, eq-eqb, not-true}
pub use Rattle.std.proofs.lemmas.Bool.Decides.{nat_tests}
pub use Rattle.std.proofs.lemmas.Fmt.{decimal_injective}
pub use Rattle.std.proofs.lemmas.Grind.{flat_map-append}
pub use Rattle.std.proofs.lemmas.List.{length-map, append_cancel_left, take-append-drop, map-append, length-replicate}
pub use Rattle.std.proofs.lemmas.List.Elements.{filter_map-append, filter-append, recursion_from_All, All-filter, filter_passes}
pub use Rattle.std.proofs.lemmas.List.Filters.{length-filter_both, sum_by-filter_both}
pub use Rattle.std.proofs.lemmas.List.Folds.{list_any_at, list_all-append, list_any-append, list_all-map}
pub use Rattle.std.proofs.lemmas.List.FromFn.{get_or-enumerate_from, length-enumerate_from}
pub use Rattle.std.proofs.lemmas.List.Sums.{passes_at_first, fold_push, take_while-cons, sum_by-append, sum_by-cons}
pub use Rattle.std.proofs.lemmas.Option.{slice_get_within, slice_get-get_or, get_or_from_slice_get}
pub use Rattle.std.specs.Bool.{MatchBool}
pub use Rattle.std.specs.Char.{is_ascii_digit}
pub use Rattle.std.specs.Fmt.{decimal}
pub use Rattle.std.specs.Io.KnownBytes.{Appends}
pub use Rattle.std.specs.List.{list_all, list_any, flat_map, AllByRecursion, enumerate_from, position_or_len, concat}
pub use Rattle.std.specs.Option.{MatchOption}
pub use Rattle.std.specs.Prelude.{is_none}
pub use Rattle.cf_types.proofs.ResourceLaws.{same_name-eq}
unfoldable pub use Rattle.cf_types.specs.ConnSets.{conns_from}
pub use Rattle.cf_types.specs.Connections.{is_active}
unfoldable pub use Rattle.cf_types.specs.Connections.{actives, no_connections}
pub use Rattle.cf_types.specs.Forms.{is_cache, IsFacility}
unfoldable pub use Rattle.cf_types.specs.Mailboxes.{empty_mail}
pub use Rattle.cf_types.specs.Name.{same_name}
pub use Rattle.cf_types.specs.Term.{block_of, text_in_block}
pub use Rattle.cf_types.specs.declared.{alter_commands.AlterCmd.AlterCmd, alter_commands.AlterReply.AlterReply}
pub use Rattle.cf_types.specs.declared.{cache_commands.CacheCmd.CacheCmd, cache_commands.CacheReply.CacheReply}
pub use Rattle.cf_types.specs.declared.{events.Event.Event, forms.Caps.Caps, forms.Kind.Kind, forms.StrForm.StrForm}
pub use Rattle.cf_types.specs.declared.{list_commands.ListCmd.ListCmd, list_commands.QueueCmd.QueueCmd}
pub use Rattle.cf_types.specs.declared.lock_commands.LockCmd.{LockCmd}
pub use Rattle.cf_types.specs.declared.{names.Name16.Name16, numbers.CfId.CfId, numbers.ConnId.ConnId}
pub use Rattle.cf_types.specs.declared.{numbers.EntryId.EntryId, numbers.StrNo.StrNo, refusals.Refusal.Refusal}
pub use Rattle.cf_types.specs.declared.{shell_commands.ShellCmd.ShellCmd, shell_commands.ShellReply.ShellReply}
pub use Rattle.cf_types.specs.declared.cache_commands.CacheCmd.TheVariants.{Read, Write, Castout, Unlock}
pub use Rattle.cf_types.specs.declared.list_commands.ListCmd.TheVariants.{Update}
pub use Rattle.cf_lists.proofs.FilterLaws.{any_is_found, all_found, filter_swap, filter_absorbed, list_all_weaker, none_from_all, filter_none, list_all-filter, found_passes}
pub use Rattle.cf_lists.proofs.InsertionLaws.{list_all-insertion}
pub use Rattle.cf_lists.proofs.SplitLaws.{Every, every_front, every_back}
pub use Rattle.cf_lists.proofs.TableLaws.{get_within}
pub use Rattle.cf_lists.specs.Lists.{all_records}
pub use Rattle.cf_lists.specs.Pairwise.{pairwise}
pub use Rattle.engine_api.proofs.AnswerLaws.{marks_counted}
pub use Rattle.engine_api.proofs.CauseLaws.{none_hold, unless_false}
pub use Rattle.engine_api.proofs.HistoryLaws.{continues_legal, calls-append, replay-push}
pub use Rattle.engine_api.proofs.NumberLaws.{numbered_legal}
pub use Rattle.engine_api.proofs.Pushed.{pushed_cases}
pub use Rattle.engine_api.specs.Answers.{answers, is_mark_as, marks_at, trues}
pub use Rattle.engine_api.specs.History.{replay, next_reply, Continues, next_entry, IsNext, IsNextAs, after_what, last_call_below, Tells, stands_after, Call, calls, IsLegal}
pub use Rattle.engine_api.specs.Instances.{units_of}
pub use Rattle.engine_api.specs.Machine.{Machine, step, unless, content_done, content_reply, with_entered}
pub use Rattle.engine_api.specs.Meaning.{Meaning, Held, unless_refused, new_held, first_refusal}
pub use Rattle.engine_api.specs.Shapes.{shape_of}
pub use Rattle.engine_api.specs.Shell.{Shell, if_failed, content_cause, if_too_small, refusal_when}
pub use Rattle.engine_api.specs.Told.{told_of}
pub use Rattle.engine_api.specs.declared.{asks.Ask.Ask, asks.Reply.Reply, asks.What.What, histories.Entry.Entry}
pub use Rattle.engine_api.specs.declared.{shapes.Shape.Shape, told.Told.Told}
pub use Rattle.shell_laws.proofs.CapacityLaws.{ContentLaws, held-replay}
pub use Rattle.shell_laws.proofs.CauseLaws.{third_none, not_so}
pub use Rattle.shell_laws.proofs.Keeping.{IsKept}
pub use Rattle.shell_laws.proofs.MemberLaws.{manned-replay}
pub use Rattle.shell_laws.proofs.Moves.{Move, Change}
pub use Rattle.shell_laws.proofs.Moves.Change.{Done, Quiet}
pub use Rattle.shell_laws.proofs.Moves.Move.{Same, Left, Returned, Forgotten, Cleared}
pub use Rattle.shell_laws.proofs.ReplayLaws.{traced-replay, legal-answered, kept-replay}
pub use Rattle.shell_laws.proofs.SeenLaws.{kept-seen, traced-seen}
pub use Rattle.shell_laws.proofs.StepLaws.{active_of, active_member, first_none, somebody_member}
pub use Rattle.shell_laws.specs.Accepted.{accepted_as, Accepted as AcceptedOf}
pub use Rattle.shell_laws.specs.Departures.{stands_in}
pub use Rattle.shell_laws.specs.Sees.{DoneInside, Sees, IsSeen}
pub use Rattle.shell_laws.specs.Sees.DoneInside.{AsCommand, AsNothing}
pub use Rattle.cache_model.proofs.ContentLaws.{orderly-content, content-done}
pub use Rattle.cache_model.proofs.CopyLaws.{fresh-copy, copy-row_or_new, Fresh, AllFresh, each_weaker, deed-fresh, fresh-at}
pub use Rattle.cache_model.proofs.EngineLaws.{content-at, content-nothing, leave-content, content-moved, need-front, need-leave}
pub use Rattle.cache_model.proofs.OrderLaws.{orderly-deed, orderly-run, orderly-nothing}
pub use Rattle.cache_model.proofs.UncastLaws.{uncast-kept, AllKept, deed-kept}
pub use Rattle.cache_model.specs.CacheRegs.Registrations.{registered_at, is_at, names_apart, is_for}
pub use Rattle.cache_model.specs.CacheRegs.declared.registrations.Registration.{Registration}
pub use Rattle.cache_model.specs.Contents.{Content, no_content, IsContent, IsOrderly}
pub use Rattle.cache_model.specs.Meaning.{cache_meaning}
pub use Rattle.cache_model.specs.Rows.{row_of, row_or_new, new_row, is_row_of, has_row}
pub use Rattle.cache_model.specs.Runs.{Deed, Copies, after_deed, after_run, copy_in, reply_copy, Copy, copies_done, copies_unless, copies_after, row_copy}
pub use Rattle.cache_model.specs.Runs.Deed.{Calls, Leaves, Forgets}
pub use Rattle.cache_model.specs.Step.{cause, done, reply}
pub use Rattle.cache_model.specs.Uncast.{Uncast, Uncasts, uncast_cast, uncast_unlocked, uncast_unless, uncast_after, uncast_done, uncast_written}
pub use Rattle.cache_model.specs.declared.items.CacheItem.{CacheItem}
pub use Rattle.list_model.proofs.ContentLaws.{the_record-in}
pub use Rattle.list_model.proofs.ListLaws.{with-all, each-records, one-records, all-without, all-map}
pub use Rattle.list_model.specs.Contents.{headers_of}
pub use Rattle.list_model.specs.ListStore.Lists.{Lists, lists_without, replaced_by}
pub use Rattle.list_model.specs.ListStore.Record.{Record}
pub use Rattle.list_model.specs.Lists.{the_record, with_record}
pub use Rattle.list_model.specs.Meaning.{list_meaning}
pub use Rattle.list_model.specs.Step.{causes}
pub use Rattle.alter_model.proofs.AlterLaws.{altered-done, altered-empty, inner-altered}
pub use Rattle.alter_model.specs.Meaning.{IsAltered, IsWithin as AreWithin, caps_or, caps_toward, if_beyond, step_cause, step_done}
pub use Rattle.alter_model.specs.declared.contents.AlterContent.{AlterContent}
pub use Rattle.queue_model.specs.ListQueues.{queued_lists}
pub use Rattle.queue_model.specs.Meaning.{QueueState}
pub use Rattle.lock_model.proofs.DepartureLaws.{led_departed, content-returned}
pub use Rattle.lock_model.proofs.OwnerLaws.{compatible-interests}
pub use Rattle.lock_model.specs.Contents.{OwnersAreCompatible, records_in}
pub use Rattle.lock_model.specs.Departures.{departure_of, with_returned}
pub use Rattle.lock_model.specs.Meaning.{lock_meaning}
pub use Rattle.lock_model.specs.Refusals.{records_refusal}
pub use Rattle.plex_script.proofs.PlexPlain.Within.{word-front}
pub use Rattle.plex_script.proofs.PlexSpell.Choices.{same_word-of}
pub use Rattle.plex_script.proofs.PlexSpell.CutLaws.{same_cut}
pub use Rattle.plex_script.proofs.PlexSpell.NumberLaws.{numeral-decimal, decimal-numeral}
pub use Rattle.plex_script.proofs.PlexSpell.PlaceLaws.{Words}
pub use Rattle.plex_script.proofs.PlexSpell.TextLaws.{characters-term}
pub use Rattle.plex_script.proofs.PlexSpell.WordLaws.{term-name}
pub use Rattle.plex_script.proofs.StepLaws.{fewer_asks}
pub use Rattle.plex_script.proofs.TestLaws.{test_numbers, word_numbers}
pub use Rattle.plex_script.specs.Agent.{first_step, step_after, most_asks, asked_by, call_of, shell_ask}
pub use Rattle.plex_script.specs.Causes.{declared_in, is_twice, kind_of}
pub use Rattle.plex_script.specs.Follows.{AgreesWith, lines_of, IsHeard, Runs, RunsUpTo, ShowsAct, ShowsLines, ShowsClosing, ShowsClosings, Follows, StopsInLine, StopsInClosing, is_linked_by, number_on, numbers_on, surest_on}
pub use Rattle.plex_script.specs.Heard.{AnyCall, any_calls, calls_of, calls_on, length_of, own_calls, any_length, call_numbered, any_call, length_on}
pub use Rattle.plex_script.specs.Laws.{SaysOne, IsExclusive}
pub use Rattle.plex_script.specs.LineWords.{is_ask_of}
pub use Rattle.plex_script.specs.PlexPlain.Naming.{facility_word}
pub use Rattle.plex_script.specs.PlexPlain.PolicyLines.{connector_line}
pub use Rattle.plex_script.specs.PlexSpell.Tokens.{is_name, name_word, is_numeral}
pub use Rattle.plex_script.specs.PlexSpell.Words.{same_word, words_of, line_text, tail_of, line_of}
pub use Rattle.plex_script.specs.PlexSpell.declared.rigour.Rigour.TheVariants.{Names}
pub use Rattle.plex_script.specs.PolicyWords.{Declares}
pub use Rattle.plex_script.specs.Printed.{script_text}
pub use Rattle.plex_script.specs.Reading.{TellsFault}
pub use Rattle.plex_script.specs.Scripts.{AddsDeclaration, AddsOfCaller, AddsWords, AddsAll, IsScript, empty_script, line_number, with_declaration}
pub use Rattle.plex_script.specs.declared.transcripts.Transcript.{Transcript}
pub use Rattle.plex_script.specs.declared.{agents.Step.Step, asks.AnyHistory.AnyHistory}
pub use Rattle.plex_script.specs.declared.{declarations.Declaration.Declaration, scripts.Act.Act}
pub use Rattle.plex_script.specs.declared.{scripts.AnyAsk.AnyAsk, scripts.Line.Line, scripts.Script.Script}
pub use Rattle.plex_script.specs.declared.{transcripts.AgentEnd.AgentEnd, transcripts.Shown.Shown}
pub use Rattle.plex_report.proofs.Digits.{digits_end, digits_next}
pub use Rattle.plex_report.specs.CommandWords.{ask_words, alter_words, queue_words, lock_words}
pub use Rattle.plex_report.specs.Lines.{heading, entry_line, what_words, reply_words, is_of_vary, entry_lines, history_lines, shown_line, bit_word, binary_digits, transcript_lines}
pub use Rattle.plex_report.specs.Naming.{caller_name, caller_word, structure_name, structure_word}
pub use Rattle.plex_report.specs.ReplyWords.{alter_reply_words, queue_reply_words, lock_reply_words}
pub use Rattle.plex_report.specs.Report.{lines_each, structures_lines, histories_lines, transcripts_lines, report_lines}
pub use Rattle.run_shown.proofs.HistoryLaws.{length_calls, calls_rise}
pub use Rattle.run_shown.specs.Headline.{EndsRight, ShowsHistories, IsHistoryOf, TellsBit, TellsOf, place_of}
pub use Rattle.run_shown.specs.Meanings.{altered_caches}
pub use Rattle.run_shown.specs.Kinds.{numbers_from, IsAnyLegal, IsAnyPoint, Rising, any_numbers, IsOfKind, AnyTells}
pub use Rattle.run_laws.specs.Alters.{IsAskedAt, IsLetThrough, IsShort, IsTooSmall, asked_for, need_after, target_after}
pub use Rattle.run_laws.specs.Bounds.{IsWithinScript, most_of_lines, most_entries, most_of_line, most_calls}
pub use Rattle.run_laws.specs.CacheApplied.{IsHeldAfter, content_applied, copies_then, uncast_then, AreFresh, AreKept}
pub use Rattle.run_laws.specs.CacheHistories.{cache_in, cache_told, CacheHistory, IsWithin, CacheEntry, capacity_after, limits_after, content_after, Accepted, acceptance_of, IsLegalCache, is_accepted, is_allocated, StaysAllocated}
pub use Rattle.run_laws.specs.Copies.{copy_held, copy_at, copy_of, IsAsRead, IsFresh, TellsFresh}
pub use Rattle.run_laws.specs.Entries.{step_at, replies_of}
pub use Rattle.run_laws.specs.ListApplied.{told_from, told_then}
pub use Rattle.run_laws.specs.ListHistories.{list_in, list_told, ListEntry, ListHistory, told_by, told_in, IsLegalList}
pub use Rattle.run_laws.specs.LockApplied.Deed.{Returns}
pub use Rattle.run_laws.specs.LockHistories.{LockHistory}
pub use Rattle.run_laws.specs.Readings.{NamesFacility, NamesFacilities, MarksFacilities, Reading, IsReading, IsOnlyReading, report_of, ShowsNumbers, IsTheReading}
pub use Rattle.run_laws.specs.Uncast.{is_cast_out, page_written, Page, page_in, is_changed_write, deletes, casts_out, unlocks, HasNone, IsUncast, HasPage, IsAnswered}
pub use Rattle.run_laws.specs.Unique.{IsUnique}
pub use Rattle.run_laws.specs.Valid.{BitTellsFresh, TellsFreshBy, ShowsFresh}
pub use Rattle.run_laws.specs.Versions.{makes, updates, IsVersioned, AreVersioned}
