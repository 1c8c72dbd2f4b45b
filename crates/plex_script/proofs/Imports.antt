-- What proofs here name of other crates, and of this one's definitions. Declares nothing.
pub use Rattle.cf_types.proofs.Imports.{map-set_same, get_or-append_seam, set-append_seam, nat_tests, flat_map-append, append-nil, length-set, length_push, map-append, get_or_append_left, get_or-map, length-map, All-nil, All-push, All-set, All-weaker, list_any_at, list_any-append, list_any_none, all_pairs_push, position-Some, slice_split_first, sum_by-cons, sum_by-set, sum_by-append, MatchBool, list_all, flat_map, list_any, sum_by, slice_split, IsPref, IsKind, IsVectorOf, IsForm, IsConnector, IsPadded, All-cons, All-append, All-map, length-range_with_len, length-map-range_with_len, get_or-range_with_len, sum_by-map-range_with_len_more, get_or-map-range_with_len, map-range_with_len_more, cons_option, range_with_len, IsTerm, term_byte, eqb-true, length-replicate, All-head, All-contains, All-replicate, Contains-append_left, Contains-push, filter_map, into_iter_items}
pub use Rattle.engine_api.proofs.Imports.{IsOperator, MayCommand}
pub use Rattle.plex_plain.proofs.Imports.{pick, not_some, mapped, bound, word-same, same_word-of, same_word-refl, Words, FindsAll, Spells-append, Spells-split, led, number_at-sound, number_at-complete, single-sound, single-complete, any-some, any-none, any-place, rest_whole, new_name-sound, new_name-complete, caller_name, structure_name, facility_word, plain_words, class_told, storage_told, cache_tokens, IsGiven, option_tokens, number_tokens, form_tokens, lock_tokens, number_at, tokens_at, Place, Values, tokens_of, values_at, Amount, AnOption, ANewName, on_first, new_name_of, shell_at, is_operator, shell_tokens, may_give, Declared, Spells, structure_of, is_name, Token, is_declared, name_word, Literal, Number, NewName, same_word, begins_with, words_behind, words_of, lines_of, line_of, tail_of, without_return, lines_in, line_text, facility_line, form_line, pref_line, connector_line, structure_lines, AreWithin, IsOneOf, IsNamed, AreNames, own, no_fault, is_term, Term, numeral-decimal, characters-term, term-name, is_numeral, decimal-numeral}
pub use Rattle.std.proofs.Common.{◌≡◌, ℕ, ◌==◌, ◌<◌, Bool, true, false, cond, List, [], ◌∷◌, ◌++◌, Option, Some, None, option_map, unwrap_or, codes, refl, sym, ap, ◌∙◌, arith, lit<, nat_le, ◌≤◌, subst, not, ◌||◌, inl, inr, Ok, Err, IsTrue, length, ◌+◌, map, append_assoc, length-append, nat_lt, ◌⊎◌, suc, drop, ◌≢◌, slice_get, slice_set, get_or, All, position, decimal, zero, ◌-◌, min, take, drop-cons, ◌*◌, rules}
pub use Rattle.std.proofs.lemmas.Bool.{and_parts, or_parts, or_from, not-true, not_from_false}
pub use Rattle.std.proofs.lemmas.Option.{get_or_from_slice_get, slice_get_within, slice_get-get_or}
pub use Rattle.std.proofs.lemmas.Result.{err_from_is_err_and, on_ok_weaker}
pub use Rattle.std.specs.Option.{is_some, MatchOption, option_map_or}
pub use Rattle.cf_types.specs.declared.{alter_commands.AlterCmd.AlterCmd, cache_commands.CacheCmd.CacheCmd, forms.Caps.Caps, forms.Kind.Kind}
pub use Rattle.cf_types.specs.declared.{forms.Pref.Pref, forms.StrForm.StrForm, names.Name16.Name16}
pub use Rattle.cf_types.specs.declared.{limits.TheConstants.CONNECTORS, list_commands.ListCmd.ListCmd}
pub use Rattle.cf_types.specs.declared.list_commands.QueueCmd.{QueueCmd}
pub use Rattle.cf_types.specs.declared.{lock_commands.LockCmd.LockCmd, numbers.CfId.CfId, numbers.ConnId.ConnId}
pub use Rattle.cf_types.specs.declared.{numbers.StrNo.StrNo, shell_commands.ShellCmd.ShellCmd}
pub use Rattle.engine_api.specs.declared.told.Told.{Told}
pub use Rattle.engine_api.specs.declared.{asks.Ask.Ask, asks.Ask.TheVariants.Shell, asks.Ask.TheVariants.Content}
pub use Rattle.plex_plain.proofs.Places.{HaveNames, name-place, apart_words, position-seam}
pub use Rattle.plex_plain.proofs.PlexSpell.PatternLaws.{value-sound, value-complete, ArePlaces, are_rows}
pub use Rattle.plex_plain.proofs.PlexSpell.RigourLaws.{Spells-limits, Spells-form}
pub use Rattle.plex_plain.proofs.PlexSpell.{AlterLaws.alter-sound, AlterLaws.alter-complete, QueueLaws.queue-sound, QueueLaws.queue-complete, LockLaws.lock-sound, LockLaws.lock-complete, ShellLaws.shell-sound, ShellLaws.shell-complete, WordLaws.Finds}
pub use Rattle.plex_plain.proofs.PlexSpell.VerbLaws.{is_tail, verb-sound, command-complete, led-complete, AreFree-tail, all_lack_retry}
pub use Rattle.plex_plain.proofs.Rooms.{IsRow, row-append, words-good, name-good, caller-good, row-wider, number-good, facility-good, nonempty}
pub use Rattle.plex_plain.proofs.Rows.{shell-row, alter-row, queue-row, lock-row}
pub use Rattle.plex_plain.proofs.Said.{words-said, connector-said, number-said, facility-said, name-said, connectors-named}
pub use Rattle.plex_plain.proofs.Texts.{clear, AreClear, clear-append, AreGood, words-back, line-clear, lines-back}
pub use Rattle.plex_plain.proofs.Within.{words-within, within-front, within-back, connector-bounds, within-append}
pub use Rattle.plex_plain.specs.PlexSpell.declared.rigour.Rigour.{Rigour}
pub use Rattle.plex_plain.specs.PlexSpell.declared.rigour.Rigour.TheVariants.{Form, Limits, Names}
pub use Rattle.plex_plain.specs.PlainWords.{alter_storage_told}
pub use Rattle.plex_plain.specs.PlexSpell.AlterReading.{alter_at}
pub use Rattle.plex_plain.specs.PlexSpell.AlterWords.{alter_tokens, IsAlterGiven}
pub use Rattle.plex_plain.specs.PlexSpell.QueueReading.{queue_at}
pub use Rattle.plex_plain.specs.PlexSpell.QueueWords.{queue_tokens, IsQueueLine}
pub use Rattle.plex_script.specs.Agent.{step_after, most_asks, asks_behind, asked_by, round_step, after_round, shell_ask, IsReady, first_step, call_of}
pub use Rattle.plex_script.specs.Causes.{declared_in, kind_of, has_lines, is_full, is_twice, is_too_much, PolicyCause, DoneCause, CallerCause, IsFirst, rank, is_long, is_long_name, is_comment, is_policy_word, caller_of, EmptyCause, StrangeCause, NoStructureCause, LineCause, strange_why, IsCause, has_pref, facility_units, units_of, all_prefs}
pub use Rattle.plex_script.specs.Commands.{call_in, call_alone, called_line, command_at, space_behind, MakesCommand}
pub use Rattle.plex_script.specs.Follows.{ShowsTest, ShowsWord, numbers_on}
pub use Rattle.plex_script.specs.Heard.{AnyCall, any_call, own_calls, any_length, any_calls, call_numbered, calls_on, is_linked, length_on, calls_of, length_of}
pub use Rattle.plex_script.specs.Laws.{IsReadBack, SaysOne, IsExclusive}
pub use Rattle.plex_script.specs.Limits.{AreFacilities, IsStructureIn, IsLineIn, KeepsLimits}
pub use Rattle.plex_script.specs.LineReading.{is_own, any_ask_at, retry_at, call_at, own_at, done_at, act_at, whole_read, ask_at}
pub use Rattle.plex_script.specs.LineWords.{ask_tokens, act_tokens, retry_tokens, MayAsk, MayDo, is_ask_of, SaysDone}
pub use Rattle.plex_script.specs.PolicyReading.{declaration_at, facility_places, facility_from, pref_places, pref_from, cache_places, cache_from, list_places, list_from, lock_places, lock_from, form_at, structure_at, declared_at}
pub use Rattle.plex_script.specs.PolicyWords.{Declares, declaration_tokens, IsVectorTold, IsDeclaration}
pub use Rattle.plex_script.specs.Printed.{class_in, line_tokens, body_line, numbered_behind, policy_lines, script_text, with_line_numbers}
pub use Rattle.plex_script.specs.Reading.{unread_why, Judged, IsFaultBy, HasRoom, remainder, script_of, TellsFault}
pub use Rattle.plex_script.specs.Scripts.{with_declaration, AddsDeclaration, AddsLine, AddsOfCaller, line_number, Adds, AddsAll, AddsWords, empty_script, IsScript, IsFault, with_pref}
pub use Rattle.plex_script.specs.WellFormed.{IsLineOf, IsWellFormed, MayAskAny, IsActOf}
pub use Rattle.plex_script.specs.declared.declarations.Declaration.TheVariants.{Facility, Structure, Connector}
pub use Rattle.plex_script.specs.declared.faults.Why.TheVariants.{Late, Syntax, Limit, Unknown, Twice, Space}
pub use Rattle.plex_script.specs.declared.line_faults.LineFault.TheVariants.{Wrong, NoMemory}
pub use Rattle.plex_script.specs.declared.scripts.Act.TheVariants.{Call, Test, TestWord, Post, Take, Events}
pub use Rattle.plex_script.specs.declared.{agents.Step.Step, declarations.Declaration.Declaration, faults.Why.Why}
pub use Rattle.plex_script.specs.declared.{line_faults.LineFault.LineFault, scripts.Act.Act, scripts.AnyAsk.AnyAsk}
pub use Rattle.plex_script.specs.declared.{scripts.Line.Line, scripts.Script.Script, transcripts.Shown.Shown}
