-- What proofs here name of other crates, and of this one's definitions. Declares nothing.
pub use Rattle.plex_script.proofs.Imports.{nat_tests, All-nil, All-cons, All-append, All-map, length-range_with_len, length-map-range_with_len, get_or-range_with_len, sum_by-map-range_with_len_more, get_or-map-range_with_len, map-range_with_len_more, sum_by-cons, sum_by-append, cons_option, range_with_len, flat_map, list_all, words-within, characters-term, term-name, own, no_fault, first_step, most_asks, IsForm, IsPref, IsPadded, IsTerm, term_byte, any_call, own_calls, any_length, MayDo, AreNames, AreWithin, Declared, is_term, is_name, Term, line_text, script_text, class_in, line_tokens, numbered_behind, with_line_numbers, IsScript, line_number, IsWellFormed}
pub use Rattle.std.proofs.Common.{◌≡◌, ℕ, ◌+◌, ◌==◌, ◌&&◌, Bool, true, false, cond, List, [], ◌∷◌, length, map, refl, sym, ap, ◌∙◌, arith, count_by, ◌≤◌, ◌<◌, ◌++◌, get_or, subst, length-append, All, ◌*◌, ◌%◌, zero, suc, sum_by, not, codes, add-zero, add-suc, add-one, append_assoc, ◌^◌, take}
pub use Rattle.std.proofs.lemmas.Fmt.{length-decimal-le, decimal_nonempty, digits_decimal}
pub use Rattle.std.proofs.lemmas.List.{flat_map_more, map-id, append-nil}
pub use Rattle.std.specs.Fmt.{decimal}
pub use Rattle.plex_script.proofs.FormedLines.{script-formed}
pub use Rattle.plex_script.proofs.PlexPlain.Tests.{all-append, all-weaker}
pub use Rattle.plex_script.proofs.ReadBack.{script-reads}
pub use Rattle.plex_script.specs.CfTypes.declared.{cache_commands.CacheCmd.CacheCmd, forms.Kind.Kind, forms.Pref.Pref}
pub use Rattle.plex_script.specs.CfTypes.declared.{cache_commands.CacheReply.CacheReply, names.Name16.Name16}
pub use Rattle.plex_script.specs.CfTypes.declared.{alter_commands.AlterCmd.AlterCmd, alter_commands.AlterReply.AlterReply}
pub use Rattle.plex_script.specs.CfTypes.declared.{list_commands.QueueCmd.QueueCmd, list_commands.QueueReply.QueueReply}
pub use Rattle.plex_script.specs.CfTypes.declared.{lock_commands.LockCmd.LockCmd, lock_commands.LockReply.LockReply}
pub use Rattle.plex_script.specs.CfTypes.declared.{numbers.ConnId.ConnId, numbers.StrNo.StrNo}
pub use Rattle.plex_script.specs.EngineApi.History.{Call, call_told, calls}
pub use Rattle.plex_script.specs.EngineApi.declared.{asks.Ask.Ask, asks.What.What, histories.Entry.Entry}
pub use Rattle.plex_script.specs.Limits.{AreFacilities, IsStructureIn, IsLineIn, KeepsLimits}
pub use Rattle.plex_script.specs.declared.{asks.AnyHistory.AnyHistory, scripts.Act.Act, scripts.AnyAsk.AnyAsk}
pub use Rattle.plex_script.specs.declared.{scripts.Line.Line, scripts.Script.Script}
pub use Rattle.plex_load.specs.Counts.{is_call, is_call_by}
pub use Rattle.plex_load.specs.Generated.{index_of, own_line, work, connect_line, work_line, connector_lines, first_number, own_lines, read, write, named, letter, page, connect, load_facility, load_form, load_connectors, next_number, place_of}
unfoldable pub use Rattle.plex_load.specs.Generated.{number_after, lines_each, lines_of_first, load_script}
pub use Rattle.plex_load.specs.Loads.{asks_on, asks_of, IsLoad}
pub use Rattle.plex_load.specs.Summary.{calls_line, calls_by, refusals_of, tests_of}
unfoldable pub use Rattle.plex_load.specs.Summary.{calls_lines}
