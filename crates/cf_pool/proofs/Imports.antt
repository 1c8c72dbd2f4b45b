-- What proofs here name of other crates, and of this one's definitions. Declares nothing.
pub use Rattle.std.proofs.Common.{◌≡◌, ◌≢◌, ℕ, zero, suc, ◌+◌, ◌-◌, ◌*◌, ◌<◌, ◌≤◌, ◌⊎◌, inl, inr, Bool, true, false, ◌&&◌, cond, eqb, leb, List, [], Option, None, Some, map, take, drop, length, get_or, set, sum_by, sum, subst, sym, refl, ap, ◌∙◌, arith, get_or-set_same, get_or-set_other, length-set, zero-add, replicate, ◌∷◌, ◌++◌, min, append_assoc, if◌then◌else◌, is_ok, Result, Ok, Err, OnOk}
pub use Rattle.std.proofs.Math.Seq.{take-append-add}
pub use Rattle.std.proofs.lemmas.Bool.{and_from, and_left, and_right, eq-eqb, ne_eqb, le-leb, lt-leb, cases_lt}
pub use Rattle.std.proofs.lemmas.Bool.Decides.{eqb_tells}
pub use Rattle.std.proofs.lemmas.List.{same_lists, length-replicate, get_or-replicate, get_or_past, get_or-map, length-map, length-take, length-take-le, length-drop, length-append, take_all, take_at, take-append-le, take-take, take-append-drop, drop_all, take_min}
pub use Rattle.std.proofs.lemmas.List.Folds.{sum_by-replicate}
pub use Rattle.std.proofs.lemmas.List.FromFn.{get_or-enumerate_from, length-enumerate_from}
pub use Rattle.std.proofs.lemmas.List.Sums.{sum_by-set, sum-map}
pub use Rattle.std.proofs.lemmas.Option.{slice_get-get_or, get_or_from_slice_get, slice_get_past}
pub use Rattle.std.specs.List.{enumerate_from, slice_get}
pub use Rattle.cf_pool.specs.Chains.{need_of, behind, IsWithin, walked, written, stored, chain_at, chains_in, IsRun}
pub use Rattle.cf_pool.specs.Pools.{need_at, need_in, IsChain, Chains, with_chain, without_chain}
pub use Rattle.cf_pool.specs.Shared.{IsShared}
pub use Rattle.cf_pool.specs.declared.elements.TheConstants.{SIZE}
