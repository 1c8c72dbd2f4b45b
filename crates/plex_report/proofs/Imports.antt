-- What proofs here name of other crates, and of this one's definitions. Declares nothing.
pub use Rattle.plex_script.proofs.Imports.{length-map, sum_by-cons, option_map_or, form_line, pref_line, structure_lines, connector_line, line_text, tail_of}
pub use Rattle.std.proofs.Common.{◌≡◌, ℕ, ◌+◌, ◌%◌, ◌/◌, zero, suc, [], ◌∷◌, ◌++◌, List, refl, sym, ap, ◌∙◌, arith, append_assoc, add-one, ◌<◌, ◌≤◌, length, get_or, take, map, Option, Some, option_map, unwrap_or, append-nil, None, codes, drop, ◌-◌}
pub use Rattle.std.proofs.lemmas.Option.{slice_get-map, slice_get-get_or, slice_get_read}
pub use Rattle.std.specs.List.{slice_get, sum_by, flat_map}
pub use Rattle.plex_script.specs.CfTypes.declared.forms.StrForm.{StrForm}
pub use Rattle.plex_script.specs.declared.transcripts.Transcript.{Transcript}
pub use Rattle.plex_script.specs.declared.{asks.AnyHistory.AnyHistory, scripts.Script.Script}
pub use Rattle.plex_report.specs.CommandWords.{alter_words, queue_words, lock_words, ask_words}
pub use Rattle.plex_report.specs.Lines.{heading, entry_line, history_lines, any_length, shown_line, transcript_lines, what_words, reply_words, is_of_vary, entry_lines, bit_word}
unfoldable pub use Rattle.plex_report.specs.Lines.{binary_digits}
pub use Rattle.plex_report.specs.Naming.{caller_name, structure_name, caller_word, structure_word}
pub use Rattle.plex_report.specs.ReplyWords.{alter_reply_words, queue_reply_words, lock_reply_words}
pub use Rattle.plex_report.specs.Report.{lines_each, structures_lines, histories_lines, transcripts_lines, with_number, report_lines}
