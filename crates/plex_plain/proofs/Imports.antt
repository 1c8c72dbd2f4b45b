-- What proofs here name of other crates, and of this one's definitions. Declares nothing.
pub use Rattle.cf_types.proofs.Imports.{nat_tests, append-nil, map-append, All-nil, All-cons, slice_split_at, slice_split_none, take_while-cons, slice_get-get_or, is_ascii_digit, IsFacility, block_of, IsTerm, IsPadded, text_in_block, term_byte}
pub use Rattle.plex_spell.proofs.Imports.{class_tokens, cache_tokens, alter_tokens, all_tokens, number, end, state, option_tokens, flag_tokens, short_tokens, number_tokens, form_tokens, at_tokens, cond_tokens, list_tokens, queue_tokens, lock_tokens, shell_tokens, Token, name_word, Declared, IsWord, IsText, IsNumber, IsName, IsResource, Spells, is_term, facility_of, connector_of, IsData, IsRecord, is_name, structure_of, Literal, OnResource, Number, Term, Short, Data, Record, OfFacility, OfConnector, OfStructure, NewFacility, NewName, same_word, is_nonempty, tail_of, is_blank, words_of, without_return, lines_in, lines_of, line_of, line_text, cache_at, IsGiven, alter_at, IsAlterGiven, list_at, queue_at, IsQueueLine, number_at, tokens_at, Place, Values, tokens_of, values_at, Amount, AnOption, ANewName, on_first, new_name_of, shell_at, is_operator, may_give, is_declared, begins_with, words_behind, is_numeral}
pub use Rattle.std.proofs.Common.{◌≡◌, ℕ, Bool, true, false, List, [], ◌∷◌, ◌++◌, Option, None, Some, codes, refl, sym, ap, ◌∙◌, if◌then◌else◌, decimal, ◌≢◌, ◌-◌, ◌<◌, ◌≤◌, ◌==◌, nat_lt, length, length-append, get_or, position, arith, zero, suc, ◌+◌, ◌^◌, nat_le, ◌&&◌, not, inl, append_assoc, lit<, All, subst, inr, replicate}
pub use Rattle.std.proofs.lemmas.Bool.{and_parts, and_from, or_parts}
pub use Rattle.std.proofs.lemmas.List.Folds.{list_all-append}
pub use Rattle.std.proofs.lemmas.Fmt.{length-decimal-le, decimal_nonempty, digits_decimal, decimal_digit}
pub use Rattle.std.specs.List.{position_or_len, list_any, list_all, flat_map, filter, slice_split}
pub use Rattle.cf_types.specs.declared.shell_commands.ShellCmd.TheVariants.{Connect, Vary}
pub use Rattle.cf_types.specs.declared.shell_commands.ShellCmd.{ShellCmd}
pub use Rattle.cf_types.specs.declared.{alter_commands.AlterCmd.AlterCmd, list_commands.QueueCmd.QueueCmd}
pub use Rattle.cf_types.specs.declared.{cache_commands.CacheCmd.CacheCmd, forms.Kind.Kind, forms.Refs.Refs}
pub use Rattle.cf_types.specs.declared.{forms.StrForm.StrForm, list_commands.At.At, list_commands.Cond.Cond}
pub use Rattle.cf_types.specs.declared.{list_commands.ListCmd.ListCmd, lock_commands.LockCmd.LockCmd}
pub use Rattle.cf_types.specs.declared.{names.Key16.Key16, names.Name16.Name16, numbers.CfId.CfId}
pub use Rattle.cf_types.specs.declared.{numbers.ConnId.ConnId, numbers.StrNo.StrNo, resources.Resource.Resource}
pub use Rattle.plex_spell.proofs.Choices.{same_word-refl, word-same, mapped, pick, not_some, bound, same_word-of}
pub use Rattle.plex_spell.proofs.NumberLaws.{own, numeral-decimal, decimal-numeral}
pub use Rattle.plex_spell.proofs.PlaceLaws.{Words, FindsAll, Spells-append, Spells-split, led, number_at-sound, number_at-complete, single-sound, single-complete}
pub use Rattle.plex_spell.proofs.TextLaws.{term_from, characters-term, IsTerm-whole, IsTerm-repeat, length-repeat, any-some, any-none, any-place, rest_whole, no_fault}
pub use Rattle.plex_spell.proofs.WordLaws.{term-name, new_name-sound, new_name-complete}
pub use Rattle.plex_spell.specs.declared.rigour.Rigour.TheVariants.{Names}
pub use Rattle.plex_plain.specs.Naming.{resource_word, caller_name, facility_word, structure_name}
pub use Rattle.plex_plain.specs.PlainWords.{plain_word, plain_words, storage_told, alter_storage_told, class_told, castout_words, keep_word, end_word, state_word, refs_word, told_words, number_words, text_words, name_words, key_words}
pub use Rattle.plex_plain.specs.Ranges.{IsNamed, AreNames, IsWithin, AreWithin, IsOneOf}
pub use Rattle.plex_plain.specs.PolicyLines.{facility_line, form_line, pref_line, connector_line, structure_lines}
