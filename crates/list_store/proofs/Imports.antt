-- What proofs here name of other crates, and of this one's definitions. Declares nothing.
pub use Rattle.cf_types.proofs.Imports.{eqb_tells, list_all-append, position-Some, sum_by-set, sum_by-cons, get_or_from_slice_get, slice_get-get_or, list_any, list_all, remove, vec_len, vec_capacity}
pub use Rattle.cf_lists.proofs.Imports.{records_of, all_records, record_of, lists_with, lists_without, lists_replaced, replaced_by, ids_apart, IsLastFull, stands, pairwise}
pub use Rattle.cf_pool.proofs.Imports.{need_of, IsChain, need_at, Chains, need_in, with_chain, without_chain}
pub use Rattle.std.proofs.Common.{◌≡◌, ◌≢◌, ℕ, zero, suc, ◌+◌, List, [], ◌∷◌, ◌++◌, set, get_or, slice_get, sum_by, Option, None, Some, refl, sym, ap, ◌∙◌, subst, arith, get_or-set_other, true, false, option_map, position, ◌-◌, ◌<◌, not, map, replicate, length, is_some, Result, Ok, Err, Bor, IfSome, IfNone, IfOk, OnErr, nat_le, ◌≤◌, inl, inr, Bool, cond, ◌==◌, take, unwrap_or, IsSome, slice_index_or, drop}
pub use Rattle.std.proofs.lemmas.Bool.{false≢true, and_from, and_parts, le-leb, leb-true, eq-eqb, eqb-true, ltb-true, lt-ltb}
pub use Rattle.std.proofs.lemmas.List.{length-map, drop_all, append-nil, get_or-map, map-set, set-get_or, take_more_set, drop_more, nil_from_length, length-replicate}
pub use Rattle.std.proofs.lemmas.List.Edits.{length-remove}
pub use Rattle.std.specs.declared.alloc.Global.{Global}
pub use Rattle.std.specs.declared.vec.Vec.{Vec}
pub use Rattle.cf_lists.proofs.AllLaws.{list_of-get_or, any_all, all-filter, all-map, list_of}
pub use Rattle.cf_lists.proofs.FilterLaws.{any_is_found, find_none, found_passes}
pub use Rattle.cf_lists.proofs.IdLaws.{without_absent, IsPlaced, record_there, taken_there, apart-with, apart-without, apart-changed, gone}
pub use Rattle.cf_lists.proofs.KeyLaws.{none_placed}
pub use Rattle.cf_lists.proofs.RecordMapLaws.{records_of-map, get-map, with-map, removed-map, any-map, apart-map, record-map, spot-map, last-map, none-map, popped-map, without-map, replaced-map}
pub use Rattle.cf_lists.proofs.RecordOrderLaws.{stands_new, stands_more, stands_either, stands_at, stands_still, stands_before, place_stands, agree, any_stands, any_key, twice}
pub use Rattle.cf_lists.proofs.RecordSpotLaws.{get_within, placed_at, spot_there, no_spot, header_within}
pub use Rattle.cf_lists.proofs.SplitLaws.{Every, every_at, every_found, all_with, agree_all, IsSplit, split_found}
pub use Rattle.cf_lists.proofs.TableLaws.{get-set_other}
pub use Rattle.cf_pool.specs.declared.{chain.Chain.Chain, no_elements.NoElements.NoElements}
pub use Rattle.cf_types.specs.declared.numbers.EntryId.{EntryId}
pub use Rattle.slab.specs.Slab.{Slab, get, Updates}
pub use Rattle.list_store.specs.Lists.{Lists, record_id, is_id, has_id, spot_of, spot_in, with_records}
pub use Rattle.list_store.specs.Orders.{is_few, orders_in, has_place}
pub use Rattle.list_store.specs.Record.{Record}
pub use Rattle.list_store.specs.Records.{record_in, body_in, HasChain, chains_less, loose_in, AreHeld, is_data, elements_in}
pub use Rattle.list_store.specs.Spots.{as_spot}
pub use Rattle.list_store.specs.StoreView.{StoreView}
pub use Rattle.list_store.specs.TableView.{TableView}
pub use Rattle.list_store.specs.Tied.{rec_id, no_rec, rec_at, lists_at, spot_for, Writes, IsHeld, IsFound, IsTied}
pub use Rattle.list_store.specs.declared.{records.Rec.Rec, records.Spot.Spot}
