-- What proofs here name of other crates, and of this one's definitions. Declares nothing.
pub use Rattle.cf_types.proofs.Imports.{get_or-set_at, unwrap_or-slice_get, Mailbox, Mailboxes, no_events, mailbox_of, box_taken, is_member, with_letter, with_letters, letters_to}
unfoldable pub use Rattle.cf_types.proofs.Imports.{empty_mail, conns_from}
pub use Rattle.std.proofs.Common.{◌≡◌, ℕ, ◌+◌, ◌-◌, ◌<◌, ◌≤◌, Bool, true, false, filter, List, [], ◌∷◌, ◌++◌, length, get_or, set, map, replicate, slice_set, sym, ap, ◌∙◌, ⊎_elim, ◌≢◌, arith, zero, suc, take, drop, remove, refl, slice_index_or}
pub use Rattle.std.proofs.lemmas.Bool.{cases_eq}
pub use Rattle.std.proofs.lemmas.List.{map-set, set-get_or, get_or-set_other, get_or-map, drop_more, get_or_default}
pub use Rattle.cf_types.specs.declared.{events.Event.Event, limits.TheConstants.CALLERS, numbers.ConnId.ConnId}
pub use Rattle.event_mail.specs.Post.{Box, mailboxes_of, Post}
