-- What proofs here name of other crates, and of this one's definitions. Declares nothing.
pub use Rattle.cf_types.proofs.Imports.{nat_tests, map-append, length-filter_both, list_all-map, list_any-append, any-filter_same, list_any, list_all, Gains, bits_told, difference}
pub use Rattle.cf_lists.proofs.Imports.{pairwise}
pub use Rattle.std.proofs.Common.{◌≡◌, ℕ, Bool, true, false, not, ◌&&◌, ◌||◌, ◌==◌, if◌then◌else◌, List, [], ◌∷◌, ◌++◌, filter, map, refl, sym, ap, ◌∙◌, inl, ◌⊎◌, arith, ◌≤◌, length, find, Option, option_map, subst, rules, ◌+◌, drop, take}
pub use Rattle.std.proofs.lemmas.Bool.{and_parts, false≢true, eqb-true}
pub use Rattle.std.proofs.lemmas.Fn.{filter_same}
pub use Rattle.cf_lists.proofs.FilterLaws.{none_from_all, list_all_weaker, list_all-filter_same, length-filter-le, filter_none}
pub use Rattle.cf_lists.proofs.MapLaws.{mapped_more}
pub use Rattle.cf_lists.proofs.{PairwiseLaws.pairwise-filter, PairwiseLaws.pairwise_push, ViewLaws.mapped_pairs}
pub use Rattle.cf_types.proofs.GainsLaws.{gains_none, gains_one, gains_then}
pub use Rattle.cf_types.specs.declared.{effects.BitChange.BitChange, numbers.ConnId.ConnId}
pub use Rattle.list_watch.specs.Ends.{change_to, differs, is_turned, turn_changes, rows_put, is_ended, rows_ended, is_cleared, clear_changes}
pub use Rattle.list_watch.specs.Monitors.{is_at, is_for, places_apart, is_replaced, monitors_with, monitors_without, monitors_of_others, headers_apart, AreMonitors}
pub use Rattle.list_watch.specs.Rows.{monitors_of, is_lit, bit_of, row_turned, rows_turned, rows_with, rows_without, rows_of_others}
pub use Rattle.list_watch.specs.WatchView.{WatchView}
pub use Rattle.list_watch.specs.declared.{monitors.Monitor.Monitor, monitors.Watched.Watched}
