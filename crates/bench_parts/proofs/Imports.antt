-- What proofs here name of other crates, and of this one's definitions. Declares nothing.
pub use Rattle.plex_board.proofs.Imports.{length-append, All-nil, All-cons, All-head, range_with_len, BoardShown, IsPolicy, IsStarted, IsDeskOf, cell_on, new_desk, CellShown, IsAskOf, IsForm, IsConnector, DeskShown, IsAnsweredOn, IsLaterOn, type_of_kind, word_number, count_of, PassSeen, WordTable, new_pass}
pub use Rattle.lock_words.proofs.Imports.{HandSeen, held_as, hold}
pub use Rattle.std.proofs.Common.{◌≡◌, ◌≢◌, ℕ, true, List, [], ◌∷◌, None, Some, refl, sym, ap, ◌∙◌, eq-eqb, if◌then◌else◌, ◌+◌, ◌<◌, arith, ◌++◌, length, get_or, map, subst, suc, Option, IfSome, ◌≤◌, All, Result, Ok, Err, IfOk, IfErr, slice_get}
pub use Rattle.std.proofs.lemmas.Option.{none-some}
pub use Rattle.std.specs.Option.{option_to_list}
pub use Rattle.lock_words.specs.declared.view.Hold.{Hold}
pub use Rattle.plex_board.proofs.DeskLaws.{new_desk-of_board}
pub use Rattle.plex_board.specs.CfTypes.declared.{alter_commands.AlterCmd.AlterCmd, cache_commands.CacheCmd.CacheCmd, forms.StrForm.StrForm}
pub use Rattle.plex_board.specs.EngineApi.declared.{asks.Ask.Ask, told.Told.Told}
pub use Rattle.plex_board.specs.PlexScript.declared.{scripts.AnyAsk.AnyAsk, scripts.Script.Script}
pub use Rattle.plex_board.specs.StructCell.declared.refused.CallRefused.{CallRefused}
pub use Rattle.bench_parts.specs.Rounds.{IsFree}
pub use Rattle.bench_parts.specs.Seats.{IsCacheForm, IsCacheAlone, IsOneCache, IsPool, IsCacheBoard, IsOperated, IsSeated, pool}
