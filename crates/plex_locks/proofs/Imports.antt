-- What proofs here name of other crates, and of this one's definitions. Declares nothing.
pub use Rattle.plex_script.proofs.Imports.{eqb-true, nat_tests, flat_map-append, length-map, map-append, length-replicate, All-push, All-nil, All-head, All-contains, All-replicate, All-weaker, Contains-append_left, Contains-push, get_or-map-range_with_len, length-map-range_with_len, get_or-range_with_len, range_with_len, flat_map, filter_map, into_iter_items, rest_whole, IsForm, lines_of, line_text, line_number, IsWellFormed, IsLineOf}
pub use Rattle.lock_words.proofs.Imports.{HandSeen, LocksSeen, new_hand, AreAll, IsOthers, HasValue, all_held, hand_released, AreCompatible, says_excl, Admits, held_as, hold, grant, reading}
pub use Rattle.std.proofs.Common.{◌≡◌, ◌+◌, ◌<◌, ◌⊎◌, ℕ, zero, suc, Bool, List, [], ◌∷◌, ◌++◌, Option, None, Some, Contains, All, AllPairs, map, length, drop, slice_get, drop-cons, get_or, Result, Ok, Err, refl, sym, ap, ◌∙◌, subst, inl, ⊎_elim, arith, append_assoc, length-append, replicate, slice_index, IfOk, true, false, append-nil, eq-zero-or-pos, rules, find}
pub use Rattle.std.proofs.Math.ListN.{get_or-map}
pub use Rattle.std.proofs.lemmas.Option.{slice_get-map, slice_get_within, slice_get-get_or, get_or_from_slice_get, none-some}
pub use Rattle.lock_words.specs.declared.{view.Grant.Grant, view.Hold.Hold, view.Reading.Reading}
pub use Rattle.plex_script.proofs.ReadLaws.{lines-feed, lines-last, nothing_left, return-yes, return-no}
pub use Rattle.plex_script.specs.CfTypes.declared.resources.Resource.{Resource}
pub use Rattle.plex_script.specs.CfTypes.declared.{forms.StrForm.StrForm, names.Name16.Name16, numbers.ConnId.ConnId}
pub use Rattle.plex_script.specs.declared.{scripts.Line.Line, scripts.Script.Script}
pub use Rattle.plex_locks.specs.Others.{declaring, first_other}
pub use Rattle.plex_locks.specs.Outcomes.{word_of, resource_of, left_by, granted_by, FollowsOwn, HasOther, IsOfOthers, then_holds, grant_in, IsOutcome}
pub use Rattle.plex_locks.specs.Requests.{tasks_by, is_other, task_by}
pub use Rattle.plex_locks.specs.Told.{IsHandTold, IsLocked, told_of, none_told, entries_of, dones_of, all_left, done_line, hand_lines, structure_line, word_lines, locks_text}
pub use Rattle.plex_locks.specs.Work.{AtLocks, AreIdle, IsDealt, IsReady, HasRead, ReadsDone, HaveWorked, asked_by, asked_in, IsTried, IsWorked, IsStill}
pub use Rattle.plex_locks.specs.declared.outcomes.Outcome.TheVariants.{Granted, Held, Contended, Raced, Freed, NotHeld}
pub use Rattle.plex_locks.specs.declared.requests.Request.TheVariants.{Obtain, Release}
pub use Rattle.plex_locks.specs.declared.{outcomes.Done.Done, outcomes.Outcome.Outcome, requests.Request.Request}
pub use Rattle.plex_locks.specs.declared.{told.HandTold.HandTold, told.Locked.Locked}
