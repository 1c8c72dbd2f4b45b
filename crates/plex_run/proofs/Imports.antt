-- What proofs here name of other crates, and of this one's definitions. Declares nothing.
pub use Rattle.run_laws.proofs.Imports.{Appends-trans, take-append_seam, nat_tests, take-append-drop, length-replicate, get_or-enumerate_from, length-enumerate_from, passes_at_first, Appends, enumerate_from, position_or_len, concat, flat_map, get_within, EndsRight, ShowsHistories, decimal-numeral, length_on, SaysOne, IsExclusive, is_ask_of, script_text, TellsFault, IsScript, line_text, IsWithinScript, most_entries, most_calls, Reading, IsOnlyReading, IsReading, IsTheReading, report_of, ShowsFresh}
pub use Rattle.plex_agent.proofs.Imports.{Telling, AreTelling, AreRunLinks, IsRunnable, IsRunnableLine, IsRunnableAct, serial_run}
pub use Rattle.plex_load.proofs.Imports.{load_script, IsLoad}
pub use Rattle.plex_load.proofs.PlexSpell.{CutLaws.same_cut, CutLaws.not_free-middle, CutLaws.IsCut-stands, TextLaws.any-some, TextLaws.any-none, TextLaws.any-place}
pub use Rattle.plex_locks.proofs.Imports.{IsLocked, locks_text}
pub use Rattle.std.proofs.Common.{◌≡◌, ℕ, zero, suc, ◌+◌, ◌-◌, nat_lt, not, position, ◌<◌, Bool, false, List, [], ◌∷◌, length, drop, refl, ap, ◌∙◌, sym, add-one, arith, find, ◌≤◌, true, Option, Some, None, option_map, slice_get, get_or, subst, ◌⊎◌, inr, Result, Ok, Err, IfOk, ◌≢◌, inl, codes, is_some, ◌++◌, append_assoc, ◌==◌, ◌^◌, if◌then◌else◌, length-append, take, map, append-nil, unwrap_or, IsTrue, IfSome, replicate, String, string_bytes, OnOk, OnErr, rules}
pub use Rattle.std.proofs.lemmas.Bool.{cases_lt, or_parts}
pub use Rattle.std.specs.List.{list_all, list_any}
pub use Rattle.std.proofs.lemmas.List.{length-take-le, length-drop, take_all}
pub use Rattle.std.proofs.lemmas.List.Folds.{Any-from_list_any, find_at, list_any_at, concat-append}
pub use Rattle.std.proofs.lemmas.Option.{get_or_from_slice_get, slice_get-get_or, slice_get_read, slice_get_within}
pub use Rattle.std.proofs.lemmas.Result.{IfOk-weaker, on_ok_weaker, on_err_weaker}
pub use Rattle.plex_agent.specs.CfIo.Count.{Rises}
pub use Rattle.plex_agent.specs.CfIo.ReadEnd.{HasCause}
pub use Rattle.plex_agent.specs.CfIo.declared.read_end.ReadEnd.{ReadEnd}
pub use Rattle.plex_agent.specs.PlexBoard.RunShown.Kinds.{IsAskOf}
pub use Rattle.plex_agent.specs.declared.in_turn.Finished.{Finished}
pub use Rattle.plex_load.specs.CfTypes.declared.numbers.StrNo.{StrNo}
pub use Rattle.plex_load.specs.CfTypes.declared.{forms.Kind.Kind, forms.StrForm.StrForm}
pub use Rattle.plex_load.specs.CfTypes.NoMemory.declared.wants.NoMemory.{NoMemory}
pub use Rattle.plex_load.specs.CfTypes.declared.{names.Name16.Name16, numbers.CfId.CfId, numbers.ConnId.ConnId}
pub use Rattle.plex_load.specs.PlexScript.WellFormed.{IsWellFormed, IsLineOf, IsActOf, MayAskAny}
pub use Rattle.plex_load.specs.PlexScript.declared.{asks.AnyHistory.AnyHistory, faults.ReadFault.ReadFault}
pub use Rattle.plex_load.specs.PlexScript.declared.{faults.Why.Why, scripts.Act.Act, scripts.AnyAsk.AnyAsk}
pub use Rattle.plex_load.specs.PlexScript.declared.{scripts.Line.Line, scripts.Script.Script}
pub use Rattle.plex_load.specs.PlexScript.declared.{transcripts.AgentEnd.AgentEnd, transcripts.Transcript.Transcript}
pub use Rattle.plex_locks.specs.declared.told.Locked.{Locked}
pub use Rattle.run_laws.proofs.MarkLaws.{marks_facilities}
pub use Rattle.run_laws.proofs.Tests.{is_reading}
pub use Rattle.check_model.specs.Judged.{Judges}
pub use Rattle.check_model.specs.declared.{checked.Checked.Checked, printed.Printed.Printed}
pub use Rattle.report_texts.specs.Texts.{IsReport, IsFirstUnread}
pub use Rattle.report_read.specs.Picked.{ArePicked}
pub use Rattle.plex_run.specs.Cutting.{IsBefore, AreBefore, IsSplit, HasNoReport}
pub use Rattle.plex_run.specs.Checking.{check_limit, Verdict, NoText, verdict_line, verdict_status, verdict_of_checked, IsSaid, IsVerdict, ReadsOne, IsOneAnswer, IsOnlyStatus, IsJudged, IsUncheckedAt, IsCheckTooLong, checking, check_word, EndsCheck}
pub use Rattle.plex_run.specs.Full.{ends_full_at, is_full_at, full_structure}
pub use Rattle.plex_run.specs.Loading.{IsLoadRun, EndsLoad, summary_of}
pub use Rattle.plex_run.specs.Locks.{IsTaken, IsUntakenAt, TellsUntaken, EndsLocks, locks_word}
pub use Rattle.plex_run.specs.Outcome.{CanFill, ShowsRun, full_of, journal_limit, IsRun, IsRunOf, script_limit, IsRefused, WritesRun, EndsRun, IsSerialStatus, IsTooLong, script_word, running, run_status, AreMarked, reading_of, read_status}
pub use Rattle.plex_run.specs.Pieces.{PassesOn}
pub use Rattle.plex_run.specs.StatusLines.{memory_line, why_word, too_long_line, script_line}
pub use Rattle.plex_run.specs.Statuses.{EndsTask, Task, Word, IsLong, EndsText, OfText}
pub use Rattle.plex_run.specs.Wires.{Wires, wires}
pub use Rattle.plex_run.specs.Words.{Say, number_said}
pub use Rattle.plex_run.specs.Written.{Output, HasFailed, Writes, WritesFront, Gains, GainsPrefix, BreaksOff, output}
pub use Rattle.plex_run.specs.declared.{locks.Untaken.Untaken, way.Way.Way, way.Work.Work}
