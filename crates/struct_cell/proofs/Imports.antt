-- What proofs here name of other crates, and of this one's definitions. Declares nothing.
pub use Rattle.cf_types.proofs.Imports.{nat_tests, All-nil, All-push, All-weaker, recursion_from_All, All-pop, All-map, bit_at_cat_low, bit_at_cat_high, same_from_bits_below, bit_at_set_same, bit_at_set_other, bit_at_clear_same, bit_at_clear_other, slice_get-get_or, bit_at, AllByRecursion, vec_len, vec_capacity, Bits, Gains, bits_told, is_for, map-set_same, get_or-append_seam, set-get_or, append-nil, map-set, append_cancel_left, take-append-drop, All-cons, All-head, All-tail, All-get_or, Decides-contains, length-range_with_len, map-range_with_len_more, length-map-range_with_len, get_or-map-range_with_len, mod-pow-add, bit_at-lt, map-map, Decides, range_with_len, flat_map, list_any, sum_by, into_iter_items, into_iter_len, IsForm, IsFacility, drop-cons, set-append_seam, take-append_seam, filter_map-append, All-same, All-take, filter-append, get_or-range_with_len, filter_map, enumerate_from, option_copied, IsConnector, decimal_injective, flat_map-append, All-filter, filter_passes, length-filter_both, sum_by-filter_both, list_any_at, list_all-append, list_any-append, list_all-map, MatchBool, is_ascii_digit, decimal, list_all, MatchOption, is_active, is_cache, same_name, block_of, text_in_block, Appends-trans, get_or-enumerate_from, length-enumerate_from, passes_at_first, Appends, position_or_len, concat}
pub use Rattle.engine_api.proofs.Imports.{answers, Call, Turn, calls, replay, with_marks, marks_by, after_turn, own, last_call_below, IsNumbered, numbers, IsPoint, stands_after, with_mark, IsLegal, links_asked, answers_to, operator, Machine, opening, Meaning, shape_of, told_of, answers_from, read_all, Asks, reached_in, marks_of, trues, MayCommand, is_mark_as, marks_at, unless, content_done, with_entered, Held, unless_refused, new_held, first_refusal, Shell, if_failed, content_cause}
pub use Rattle.struct_machine.proofs.Imports.{asked-append, AreAsked, reply_as, IsTurn, lost_at, behind_marks, AreTold, map-filtered, set_same, get_within, get-set_same, get-set_other, any_is_found, all_found, filter_swap, filter_absorbed, list_all_weaker, none_from_all, filter_none, list_all-filter, found_passes, list_all-insertion, ContentLaws, held-replay, third_none, not_so, manned-replay, active_of, active_member, first_none, somebody_member, pairwise, accepted_as}
pub use Rattle.vec_words.proofs.Imports.{bit_in, CallRecord, commits_of, count_of, words_of, word_number, calls_in, calls_of, steps_of, IsIssued, IsHonest, StoresEach, IsSpared, IsAt, IsWithin, stores_of, AreDistinct, WordTable, SeatSeen, PassSeen, IsShown, bits_at, sight, new_pass}
unfoldable pub use Rattle.vec_words.proofs.Imports.{indices_of}
unfoldable pub use Rattle.cf_types.proofs.Imports.{conns_from, actives, no_connections, empty_mail}
pub use Rattle.std.proofs.Common.{rules, ◌≡◌, ℕ, zero, suc, ◌+◌, ◌-◌, ◌*◌, ◌%◌, ◌^◌, ◌<◌, ◌≤◌, ◌==◌, w32, Bool, true, false, refl, sym, ap, ◌∙◌, subst, arith, inl, inr, pow-suc, pow_mono, if◌then◌else◌, ◌/◌, ◌&&◌, nat_lt, List, [], ◌∷◌, ◌++◌, length, map, All, Option, ◌⊎◌, get_or, set, take, fold, subst₂, ◌≢◌, replicate, Some, Contains, None, option_and_then, slice_get, filter, length-append}
pub use Rattle.std.proofs.lemmas.Bool.{cases_lt}
pub use Rattle.std.proofs.lemmas.List.{map-append, get_or-replicate, get_or-set_other, get_or_past, length-replicate, take_more, get_or_default, get_or-take, length-take-le, take_all, take-append-le, get_or_append_left, get_or_push, get_or-set_same, length_push, length-set, length-map, get_or-map}
pub use Rattle.std.proofs.lemmas.List.Sums.{fold_push}
pub use Rattle.cf_types.specs.declared.{effects.BitChange.BitChange, forms.StrForm.StrForm, numbers.CfId.CfId}
pub use Rattle.cf_types.specs.declared.{numbers.ConnId.ConnId, shell_commands.ShellReply.ShellReply}
pub use Rattle.engine_api.proofs.AnswerLaws.{answers-turn, legal_group, IsAtGroup, group-turn, answers-append, marks_counted}
pub use Rattle.engine_api.proofs.AskLaws.{marks_few, two_asked, Agree, marks_agree}
pub use Rattle.engine_api.proofs.HistoryLaws.{calls-turn, call_added, legal_none, legal_turn, number_legal, added_turn, replay-push, by_turns, IsMade, call_made, continues_legal, calls-append}
pub use Rattle.engine_api.proofs.NumberLaws.{number_added, numbered_legal, length-turn, number_past, last_below-turn, last_below-past, RisesTo, numbers_rise, three_each}
pub use Rattle.engine_api.specs.declared.{asks.Ask.Ask, asks.Reply.Reply, histories.Entry.Entry}
pub use Rattle.struct_machine.proofs.ChangeLaws.{untouched_same}
pub use Rattle.struct_machine.specs.CfLink.declared.links.Links.{Links}
pub use Rattle.struct_machine.specs.CfLink.Links.{link_at}
pub use Rattle.struct_machine.specs.CfLink.Tells.{TellsEnough}
pub use Rattle.struct_machine.proofs.CfLink.LinkLaws.{asked_calls, asked_faults, asked_told}
pub use Rattle.struct_machine.proofs.ShellLaws.{HistoryLaws.rebuild-legal, StopLaws.stops-legal}
pub use Rattle.struct_machine.specs.ShellLaws.History.{actives_after}
pub use Rattle.struct_machine.specs.ShellLaws.Readings.{rebuild_told}
pub use Rattle.struct_machine.specs.ShellLaws.Stops.{StopsKeepTheOld}
pub use Rattle.struct_machine.specs.StructureView.{StructureView, stands_at}
pub use Rattle.struct_machine.specs.declared.marks.Mark.{Mark}
pub use Rattle.vec_words.proofs.Commits.{commits-commit, committed-all}
pub use Rattle.vec_words.proofs.Logs.{count-push, bits-commit}
pub use Rattle.vec_words.proofs.Places.{word_number-same}
pub use Rattle.vec_words.proofs.StoreLaws.{stores-commits, stores-below, stores-from, each-nil, each-once, each-step}
pub use Rattle.vec_words.specs.declared.logged.Logged.TheVariants.{Committed, Stored}
pub use Rattle.vec_words.specs.declared.{logged.Logged.Logged, logged.Sight.Sight, stores.Place.Place}
pub use Rattle.struct_cell.specs.Calls.{reply_to}
pub use Rattle.struct_cell.specs.Cells.{About, commit_of, IsCell, Shows, own_call_of, shown_after, shown_below}
pub use Rattle.struct_cell.specs.Journals.{reply_for, reply_at}
pub use Rattle.struct_cell.specs.Limits.{AreMadeBelow}
pub use Rattle.struct_cell.specs.LinkCounts.{IsCountedAs}
pub use Rattle.struct_cell.specs.Marks.{entered, with_entry}
pub use Rattle.struct_cell.specs.Telling.{IsTold}
pub use Rattle.struct_cell.specs.Touches.{VectorWords, AreOfTable, AreWordsOf, word_at, AreMirrorsOf, MirrorWords, with_told, AreSpotted, ComeBefore, IsOfTable}
pub use Rattle.struct_cell.specs.Words.{word_from, word_in, words_in, bit_of, shown_in}
unfoldable pub use Rattle.struct_cell.specs.Words.{whole_word}
pub use Rattle.struct_cell.specs.declared.inside.CellKey.{CellKey}
pub use Rattle.engine_api.proofs.Pushed.{pushed_cases}
