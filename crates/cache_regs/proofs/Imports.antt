-- What proofs here name of other crates, and of this one's definitions. Declares nothing.
pub use Rattle.cf_types.proofs.Imports.{nat_tests, length-filter_both, none_past_head, option_filter, any-filter_same, IsEquivalence, nat_eq_equiv, and_equiv, on_equiv, nat_list_eq_equiv, pointwise, bytes_decides, list_any, list_all, keys_of, lookup, Gains, same_name}
unfoldable pub use Rattle.cf_types.proofs.Imports.{IsDistinct}
pub use Rattle.cf_lists.proofs.Imports.{insertion, pairwise}
pub use Rattle.std.proofs.Common.{◌≡◌, ℕ, Bool, true, false, not, ◌&&◌, cond, List, [], ◌∷◌, Option, Some, None, is_some, option_map, IfSome, find, refl, sym, ap, ◌∙◌, subst, ◌||◌, ◌==◌, ◌++◌, filter, append-nil, subst₂, inl, inr, ◌⊎◌, arith, ◌+◌, ◌≤◌, ◌<◌, nat_lt, length, map, zero, suc, nat_eq, slice_get, ◌-◌, min}
pub use Rattle.std.proofs.lemmas.Bool.{and_parts, false≢true, eqb-true, eq-eqb, and_from, lt-ltb}
pub use Rattle.std.proofs.lemmas.List.Elements.{filter_agree}
pub use Rattle.std.proofs.lemmas.Map.{lookup-none}
pub use Rattle.cf_lists.proofs.FilterLaws.{all_from_none, all_found, any_is_found, found_passes, any-filter, filter-filter, filter_swap, filter_absorbed, filter_all, none_from_all, list_all_weaker, list_all_both, list_all-filter, list_all-filter_same, length-filter-le, filter_none, filter_nothing, find_none, none_filtered}
pub use Rattle.cf_lists.proofs.InsertionLaws.{find-insertion_past, find-insertion_here, list_any-insertion, list_any-insertion_kept, list_all-insertion, length-insertion}
pub use Rattle.cf_lists.proofs.OrderLaws.{ordered_same}
pub use Rattle.cf_lists.proofs.PairwiseLaws.{pairwise-insertion, pairwise-filter, FindsPlace, pairwise-insertion_any}
pub use Rattle.cf_types.proofs.GainsLaws.{Falls, gains_none, gains_one, gains_then, gains_falls}
pub use Rattle.cf_types.specs.declared.numbers.ConnId.{ConnId}
pub use Rattle.cf_types.specs.declared.{effects.BitChange.BitChange, names.Name16.Name16}
pub use Rattle.cache_regs.specs.Ends.{is_elsewhere, is_below, spares, ends_of, ends_below, FitsEnds, HasEnded}
pub use Rattle.cache_regs.specs.Maps.{place_eq, named_eq, at_place, at_name, regs_in, WritesPlace, WritesName, IsAgreed, IsAloneFor, reg_of, RegList}
pub use Rattle.cache_regs.specs.Places.{with_reg, set_changes, named_at}
pub use Rattle.cache_regs.specs.Registrations.{is_at, is_for, index_for, stands, stands_before, is_of, is_replaced, regs_with, ends_with_name, registered_at, names_apart, IsRegistry, regs_without_name}
pub use Rattle.cache_regs.specs.Registry.{Registry}
pub use Rattle.cache_regs.specs.declared.registrations.Registration.{Registration}
pub use Rattle.cf_types.proofs.ResourceLaws.{same_name-eq, same_name-sym, both_implied}
