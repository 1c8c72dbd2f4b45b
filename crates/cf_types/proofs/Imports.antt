-- What proofs here name of other crates, and of this one's definitions. Declares nothing.
pub use Rattle.std.proofs.Common.{◌≡◌, ◌≢◌, ℕ, zero, suc, ◌+◌, ◌*◌, ◌/◌, ◌%◌, ◌^◌, ◌<◌, ◌≤◌, Bool, true, false, cond, not, ◌&&◌, ◌⊎◌, ◌==◌, filter, List, [], ◌∷◌, ◌++◌, length, bit_and, bit_or, count_ones, refl, sym, ap, subst, ◌∙◌, ⊎_elim, arith, add-one, add-zero, zero-add, IsTrue, map, get_or, set, Option, Some, None, is_some, slice_get, slice_set, append_assoc, inl, inr, nat_eq, position, rules}
pub use Rattle.std.proofs.Math.Nat.{mod-one, zero-mul, min-le_right}
pub use Rattle.std.proofs.Math.Seq.{drop-append_seam, map-set_same, get_or-append_seam, set-append_seam, drop-cons, take-append_seam}
pub use Rattle.std.proofs.lemmas.Bool.{eq-eqb, ne_eqb, lt-ltb, le-ltb, and_right, cases_eq, cases_order, false≢true, cases_lt, and_parts, and_from, eqb-true, not-true, both_ways, false_from_ne_true, and_left}
pub use Rattle.std.proofs.lemmas.Bool.Decides.{nat_tests, eqb_tells}
pub use Rattle.std.proofs.lemmas.Cmp.{upto, on_total, then_total, nat_cmp_total, same_from_slice_cmp}
pub use Rattle.std.proofs.lemmas.Grind.{common_steps, get_or-set_at, flat_map-append}
pub use Rattle.std.proofs.lemmas.List.{append-nil, length-set, length-map, get_or-set_same, get_or-set_other, get_or_past, set-get_or, map-append, drop-replicate, length-append, length-replicate, take-append-le, length-take, drop_all, reverse-append, length-reverse, take_all, take_more, get_or-take, length-take-le, take_more_set, length_push, get_or_append_left, get_or-map, map-set, append_cancel_left, take-append-drop}
pub use Rattle.std.proofs.lemmas.List.Elements.{filter-append, filter_agree, filter_map-append, Contains-push_cases, All-from_recursion, recursion_from_All, All-nil, All-cons, All-head, All-tail, All-contains, All-weaker, Contains-append_left, Contains-push, All-append, All-map, All-push, All-pop, All-set, All-replicate, All-get_or, Decides-contains, All-same, All-take, All-filter, filter_passes}
pub use Rattle.std.proofs.lemmas.List.Sums.{get_or-le-sum_by, fold-append, sum_by-cons, sum_by_push, sum_by-append, sum_by-set, take_while-cons, passes_at_first}
pub use Rattle.std.proofs.lemmas.Nat.{shr-shr, mod-pow-add, ones-le, one_shl, pow_pos, or_lt}
pub use Rattle.std.proofs.lemmas.Nat.Bits.{and_pow, bit_at-lt, bit_at-zero, bit_at_set_same, bit_at_set_other, bit_at_clear_same, bit_at_clear_other, bit_at_cat_low, bit_at_cat_high, same_from_bits_below}
pub use Rattle.std.proofs.lemmas.Option.{unwrap_or-slice_get, slice_get_cases, slice_get-get_or, get_or_from_slice_get}
pub use Rattle.std.specs.Cmp.{IsTotalOrder, IsEquivalence, nat_eq_equiv, and_equiv, on_equiv}
pub use Rattle.std.specs.Cmp.Lexicographic.{bytes_decides, pointwise, slice_cmp, nat_list_cmp_total, nat_list_eq_equiv, texts_ties}
pub use Rattle.std.specs.Int.{bit_at, bit_not, w128}
pub use Rattle.std.specs.Int.Count.{ones_step}
pub use Rattle.std.specs.List.{list_all, position_or_len, list_any, prefix_len, remove, insert, AllByRecursion, cons_option, filter_map, range_with_len, flat_map, sum_by, slice_split, enumerate_from, concat}
pub use Rattle.std.specs.Option.{unwrap_or, option_or, option_to_list, option_copied, MatchOption}
pub use Rattle.std.specs.Ordering.{nat_cmp, is_lt, is_gt, is_eq, ordering_reverse, ordering_then}
pub use Rattle.std.specs.declared.cmp.Ordering.{Ordering}
pub use Rattle.std.specs.declared.cmp.Ordering.TheVariants.{Less, Equal, Greater}
pub use Rattle.cf_types.specs.ConnSets.{is_member, with_member, without_member}
unfoldable pub use Rattle.cf_types.specs.ConnSets.{conns_from, members}
pub use Rattle.cf_types.specs.Connections.{Connections, state_of, is_active_state, is_leaving_state, is_active, is_leaving, defined_count, departed_state, excused_state, with_departure, with_answer, with_forced, with_connect}
unfoldable pub use Rattle.cf_types.specs.Connections.{no_connections, actives}
pub use Rattle.cf_types.specs.Gains.{Bits, Gains, bits_told, difference, is_for}
pub use Rattle.cf_types.specs.Name.{same_name, name_before}
pub use Rattle.cf_types.specs.Resources.{same_resource, resource_cmp, resource_before, resource_up_to, Part, same_part}
pub use Rattle.cf_types.specs.Term.{term_byte, block_of, IsTerm, fault_at, IsPadded, text_in_block}
pub use Rattle.cf_types.specs.declared.connections.ConnState.TheVariants.{Active, Leaving, Failed}
pub use Rattle.cf_types.specs.declared.limits.TheConstants.{SET_NUMBERS, CALLERS, ADJUNCT_BYTES}
pub use Rattle.cf_types.specs.declared.{connections.ConnState.ConnState, effects.BitChange.BitChange}
pub use Rattle.cf_types.specs.declared.{names.Name16.Name16, numbers.ConnId.ConnId, resources.Resource.Resource}
pub use Rattle.std.proofs.lemmas.List.Filters.{length-filter_both, sum_by-filter_both}
pub use Rattle.std.proofs.lemmas.List.Folds.{list_any-append, list_all-append, find-append, find_at, list_all-map, fold-map, list_any_at, list_any_none}
pub use Rattle.std.proofs.lemmas.List.Sorted.{sum_by-IsPermutation, IsPartitionPoint-from_clause, list_any-IsPermutation, IsPermutation-reverse}
pub use Rattle.std.specs.List.Sorted.{IsPartitionPoint, IsPartitionedBy, IsPermutation}
pub use Rattle.cf_types.specs.Mailboxes.{next_event, owed_event, Mailbox, Mailboxes, no_events, mailbox_of, box_taken, with_letter, with_letters, letters_to}
unfoldable pub use Rattle.cf_types.specs.Mailboxes.{empty_mail}
pub use Rattle.cf_types.specs.Forms.{IsFacility, IsCaller, IsPref, IsForm, is_cache, is_list, is_lock, IsKind, IsVectorOf, IsConnector}
pub use Rattle.std.proofs.lemmas.Map.Entries.{none_past_head, option_filter, lookup_from_place, lookup-filter-values}
pub use Rattle.std.proofs.lemmas.Map.Views.{any-filter_same}
unfoldable pub use Rattle.std.specs.List.{IsDistinct}
pub use Rattle.std.specs.Map.{keys_of, lookup, lookup_entry, remove_entry}
pub use Rattle.std.proofs.lemmas.Iterator.Consumers.{count_from_yields_List, YieldsList-from_filter_map, YieldsList-from_shown, nth_from_yields_List, YieldsList-from_first, YieldsList-from_filter, YieldsList-from_rest}
pub use Rattle.std.proofs.lemmas.List.Quantifiers.{position-Some, all_pairs_push}
pub use Rattle.std.specs.Vec.{vec_len, vec_capacity}
pub use Rattle.std.proofs.lemmas.List.FromFn.{length-range_with_len, get_or-range_with_len, map-range_with_len_more, length-map-range_with_len, sum_by-map-range_with_len_more, get_or-map-range_with_len, get_or-enumerate_from, length-enumerate_from}
pub use lib.ListN.{get_elem?}
pub use mathlib.Core.Option.{some, some-injective, some-ne-none}
pub use native.Mathlib.Decide.{dec_le}
pub use Rattle.std.specs.Char.{is_ascii_digit, is_ascii_uppercase}
pub use Rattle.std.specs.Fmt.{decimal}
pub use Rattle.std.specs.Str.Parse.{ParsesUnsigned, digits_value}
pub use Rattle.std.proofs.lemmas.List.Splits.{slice_split_at, slice_split_none, slice_split_first}
pub use Rattle.std.specs.Bool.{MatchBool, Decides}
pub use Rattle.std.specs.Vec.Iter.{into_iter_items, into_iter_len}
pub use Rattle.std.proofs.lemmas.Simd.{map-map}
pub use Rattle.std.proofs.lemmas.Fmt.{decimal_injective}
pub use Rattle.std.proofs.KnownBytes.{Appends-trans}
pub use Rattle.std.specs.Io.KnownBytes.{Appends}
