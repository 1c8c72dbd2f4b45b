-- What proofs here name of other crates, and of this one's definitions. Declares nothing.
pub use Rattle.cf_types.proofs.Imports.{drop_all, fold-append, slice_get_cases}
pub use Rattle.engine_api.proofs.Imports.{Fits, IsNoMore, IsNextItem, content_of_items, IsNoMoreOf}
pub use Rattle.std.proofs.Common.{◌≡◌, ℕ, ◌+◌, ◌-◌, ◌<◌, List, [], ◌∷◌, ◌++◌, Some, Result, Ok, Err, OnOk, OnErr, length, take, drop, slice_get, ⊎_elim, sym, ap, ◌∙◌, subst, arith, append_assoc, Bool, rules}
pub use Rattle.cf_lists.proofs.TakeLaws.{take_next, split_next}
pub use Rattle.cf_types.specs.declared.{forms.Caps.Caps, forms.Kind.Kind}
pub use Rattle.engine_api.specs.Meaning.{Meaning, Held, new_held, items_of, with_item, without_last_item}
pub use Rattle.engine_api.specs.declared.shapes.Shape.{Shape}
pub use Rattle.rebuild_copy.specs.Copies.{Copy, copy_in, IsFilled, IsCopyOf, with_next}
