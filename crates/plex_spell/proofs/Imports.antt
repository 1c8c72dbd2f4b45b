-- What proofs here name of other crates, and of this one's definitions. Declares nothing.
pub use Rattle.cf_types.proofs.Imports.{nat_tests, common_steps, take_all, length-take, is_ascii_digit, is_ascii_uppercase, decimal, ParsesUnsigned, digits_value, term_byte, block_of, IsTerm, fault_at}
pub use Rattle.std.proofs.Common.{◌≡◌, ℕ, true, [], ◌∷◌, Option, Some, None, codes, refl, subst, lit<, ◌==◌, Bool, false, cond, List, option_map, arith, ◌<◌, ◌≤◌, ◌+◌, ◌*◌, ◌||◌, not, nat_lt, nat_le, ◌++◌, length, get_or, take, drop, sym, ap, ◌∙◌, inl, inr, ◌^◌, ◌&&◌, Result, Ok, Err, zero, suc, rules, ◌-◌, position, length-drop, length-append, eq-eqb, unwrap_or}
pub use Rattle.std.proofs.lemmas.Bool.{and_parts, and_from, not-true, or_parts, or_right, not_from_false}
pub use Rattle.std.proofs.lemmas.Fmt.{decimal_is_IsNumeral, decimal_digit, first_decimal, decimal-digits_value, digits_decimal, digits_value-decimal}
pub use Rattle.std.proofs.lemmas.List.Elements.{same_from_all_zip}
pub use Rattle.std.proofs.lemmas.List.Folds.{list_all-append}
pub use Rattle.std.proofs.lemmas.List.Sums.{take_while-cons, split_at_first, passes_at_first, prefix_len-le-length}
pub use Rattle.std.proofs.lemmas.Result.{OkIff-at_ok, OkIff-at_err}
pub use Rattle.std.proofs.lemmas.Str.{IsUtf8-from_ascii}
pub use Rattle.std.proofs.lemmas.Str.Parse.{IsNumeralModel, numerals_by_value, parse_digits}
pub use Rattle.std.specs.List.{list_all, repeat, before_first, after_first, position_or_len, take_while, list_any, slice_split, filter, prefix_len}
pub use Rattle.std.specs.Result.{result_ok}
pub use Rattle.std.specs.Str.{IsUtf8}
pub use Rattle.cf_types.proofs.TermFaults.{fails_at_some}
pub use Rattle.cf_types.specs.declared.cache_commands.CacheCmd.TheVariants.{Read, Write, CrossInval, RegList, Castout, Unlock, CoClass, CoStats, DirInfo, Delete, StgStats}
pub use Rattle.cf_types.specs.declared.list_commands.Cond.TheVariants.{NotHeld, HeldBy}
pub use Rattle.cf_types.specs.declared.list_commands.ListCmd.TheVariants.{Update, Move, ReadList, LockSet, LockReset, LockTest, LControls, SetLimit, Monitor, Unmonitor}
pub use Rattle.cf_types.specs.declared.lock_commands.LockCmd.TheVariants.{Obtain, Alter, Release, Decide, RtRead, RtDelete}
pub use Rattle.cf_types.specs.declared.shell_commands.ShellCmd.TheVariants.{Connect, Disconnect, Fail, Next, Respond, RebuildStart, RebuildStop, RebuildConnect, Copy, RebuildComplete, ForceConn, ForceStr, LoseConn, RestoreConn, Vary, DuplexStart, DuplexStop}
pub use Rattle.cf_types.specs.declared.shell_commands.ShellCmd.{ShellCmd}
pub use Rattle.cf_types.specs.declared.{cache_commands.CacheCmd.CacheCmd, forms.Refs.Refs, list_commands.At.At}
pub use Rattle.cf_types.specs.declared.{limits.TheConstants.ADJUNCT_BYTES, list_commands.Cond.Cond, names.Key16.Key16}
pub use Rattle.cf_types.specs.declared.{list_commands.ListCmd.ListCmd, lock_commands.Decision.Decision}
pub use Rattle.cf_types.specs.declared.{lock_commands.LockCmd.LockCmd, names.Name16.Name16, numbers.CfId.CfId}
pub use Rattle.cf_types.specs.declared.{numbers.EntryId.EntryId, resources.Resource.Resource}
pub use Rattle.cf_types.specs.declared.alter_commands.AlterCmd.{AlterCmd}
pub use Rattle.cf_types.specs.declared.alter_commands.AlterCmd.TheVariants.{Inner, Start, Step, Stop}
pub use Rattle.cf_types.specs.declared.list_commands.QueueCmd.{QueueCmd}
pub use Rattle.plex_spell.specs.AlterReading.{alter_at, alter_forms, alterations}
pub use Rattle.plex_spell.specs.AlterWords.{alter_tokens, IsAlterGiven}
pub use Rattle.plex_spell.specs.CacheReading.{cache_at, cache_forms}
pub use Rattle.plex_spell.specs.CacheWords.{cache_tokens, IsGiven, class_tokens}
pub use Rattle.plex_spell.specs.Fields.{one_of_two, references, option_tokens, flag_tokens, all_tokens, number, end, state, name_tokens, key_tokens, short_tokens, number_tokens}
pub use Rattle.plex_spell.specs.Forms.{Forms, command_at, IsSaid}
pub use Rattle.plex_spell.specs.Forms.Forms.{NoForms, Row, Under}
pub use Rattle.plex_spell.specs.ListReading.{list_at, list_forms}
pub use Rattle.plex_spell.specs.ListWords.{list_tokens, IsListLine, at_tokens, cond_tokens, lock_use}
pub use Rattle.plex_spell.specs.LockReading.{lock_at, lock_forms}
pub use Rattle.plex_spell.specs.LockWords.{lock_tokens, decision}
pub use Rattle.plex_spell.specs.Patterns.{tokens_of, number_at, Place, Value, Values, tokens_at, value_at, values_at, option_at, flag_at, behind_at, either_of, decision_of, lock_use_of, refs_of, label_tokens, class_at, cond_at, label_at, key_at, record_at}
pub use Rattle.plex_spell.specs.Patterns.Place.{AResource, AConnector, Amount, AName, AKey, AShort, AData, AFacility, ANewFacility, AStructure, ANewName, Either, ADecision, ALockUse, SomeRefs, AClass, ARecord, ACond, ALabel, AFlag, AnOption, Behind}
pub use Rattle.plex_spell.specs.Places.{◌>>=◌, within_limits, number_of, text_of, name_of, stands_in, repeated_of, data_of, resource_in, resource_of, is_names, new_name_of, facility_in, connector_in, structure_in, on_first, key_of, record_of, named_value}
pub use Rattle.plex_spell.specs.QueueReading.{queue_at, queue_forms}
pub use Rattle.plex_spell.specs.QueueWords.{queue_tokens, IsQueueLine}
pub use Rattle.plex_spell.specs.ShellReading.{shell_at, shell_forms, rebuild_forms, duplex_forms}
pub use Rattle.plex_spell.specs.ShellWords.{shell_tokens, is_operator, may_give}
pub use Rattle.plex_spell.specs.Tokens.{Declared, Spells, IsCut, AtLimits, IsNumber, IsRepeated, IsData, IsResource, is_term, is_numeral, Token, facility_of, connector_of, structure_of, IsWord, IsRecord, AtNames, IsText, IsName, is_name, is_declared, name_word}
pub use Rattle.plex_spell.specs.Tokens.Token.{Literal, Number, Term, Short, Data, OnResource, OfFacility, OfConnector, OfStructure, NewFacility, NewName, Record}
pub use Rattle.plex_spell.specs.Words.{same_word, begins_with, words_behind, is_blank, is_nonempty, words_of, begins_word, tail_of, without_return, lines_in, lines_of, line_of, line_text}
pub use Rattle.plex_spell.specs.declared.rigour.Rigour.TheVariants.{Form, Limits, Names}
pub use Rattle.plex_spell.specs.declared.{labels.Label.Label, labels.LockUse.LockUse, rigour.Rigour.Rigour}
pub use Rattle.plex_spell.specs.FormWords.{form_tokens}
