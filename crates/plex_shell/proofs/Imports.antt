-- What proofs here name of other crates, and of this one's definitions. Declares nothing.
pub use Rattle.cf_types.proofs.Imports.{eq-eqb, ne_eqb, and_right, is_member, without_member, Connections, is_active, Mailboxes, with_letter, with_letters, letters_to}
unfoldable pub use Rattle.cf_types.proofs.Imports.{conns_from, actives}
pub use Rattle.engine_api.proofs.Imports.{greatest_units, place_for, is_candidate, candidates}
pub use Rattle.std.proofs.Common.{◌≡◌, ℕ, ◌+◌, ◌-◌, ◌<◌, ◌≤◌, Bool, true, false, not, ◌&&◌, ◌==◌, List, [], ◌∷◌, filter, refl, subst, arith, drop, fold, map, max}
pub use Rattle.cf_types.proofs.ConnSetLaws.{filter_agree_from, is_member-from, without_member-from}
pub use Rattle.cf_types.proofs.ConnectionLaws.{with_answer-same}
pub use Rattle.cf_types.specs.declared.{events.Event.Event, limits.TheConstants.CALLERS, numbers.ConnId.ConnId}
pub use Rattle.event_mail.specs.Callers.{AreCallers}
pub use Rattle.plex_shell.specs.Losses.{reply_as}
