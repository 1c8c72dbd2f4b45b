-- What proofs here name of other crates, and of this one's definitions. Declares nothing.
pub use Rattle.cf_types.proofs.Imports.{false≢true, none_past_head, option_filter, lookup-filter-values, pointwise, nat_list_eq_equiv, keys_of, lookup, length-map}
unfoldable pub use Rattle.cf_types.proofs.Imports.{IsDistinct}
pub use Rattle.std.proofs.Common.{arith, ◌≡◌, ℕ, Bool, true, false, nat_eq, cond, List, [], ◌∷◌, ◌++◌, Option, None, Some, option_map, map, length, refl, sym, ap, ◌∙◌, subst, append_assoc, append-nil, not, ◌==◌, rules, ◌≤◌}
pub use Rattle.std.proofs.lemmas.Map.{NonePasses}
pub use Rattle.std.specs.Map.Calls.{RetainsPairs}
pub use Rattle.std.proofs.lemmas.Map.Made.{lookup-map_values}
pub use Rattle.cf_types.specs.declared.{names.Name16.Name16, numbers.ConnId.ConnId}
pub use Rattle.indexmap.proofs.CallerLemmas.{insert_entry-new, filter-RetainsPairs}
pub use Rattle.indexmap.specs.IndexMap.{spare}
pub use Rattle.cache_dir.specs.Locks.{lock_without}
pub use Rattle.cache_dir.specs.RowMap.{row_at, let_go}
pub use Rattle.cache_dir.specs.declared.row.DirRow.{DirRow}
