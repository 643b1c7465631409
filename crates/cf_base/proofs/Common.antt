-- The names that most files cite, passed on from one place. Declares nothing.
pub use Rattle.std.proofs.Crossing.{crosses}
pub use Rattle.std.proofs.KnownBytes.{Consumes-trans, Appends-trans, Consumes-nil, Appends-nil}
pub use Rattle.std.proofs.Math.ListN.{get_or-eq_default}
pub use Rattle.std.proofs.Math.Nat.{add-div_left, div-eq_of_lt, lt_of_not-le, mul-le-mul_left, zero-div}
pub use Rattle.std.proofs.Math.Seq.{take-suc, drop-nil, take-append-add, take-append_seam, take-length}
pub use Rattle.std.proofs.lemmas.Bool.{false≢true, and_parts, cases_lt, eq-eqb, eqb-true, leb-false, leb-true, and_from, not-true, ltb-true, lt-ltb, le-leb, eqb-false, ne_eqb, ltb-false, le-ltb, and_right, lt-leb, cases_eq, or_parts, or_cases}
pub use Rattle.std.proofs.lemmas.Bool.Decides.{nat_tests, eqb_tells, leb_tells, Decides-int_eq}
pub use Rattle.std.proofs.lemmas.Cmp.{lists_total, nat_cmp_total, ranked}
pub use Rattle.std.proofs.lemmas.Fmt.{decimal_digit, decimal_by_steps_wide, decimal_injective, parse-decimal, decimal_is_IsNumeral, decimal_is_IsNumeral_wide, length-decimal-le}
pub use Rattle.std.proofs.lemmas.Fn.{filter_same}
pub use Rattle.std.proofs.lemmas.Grind.{common_steps, flat_map-append, get_or-set_at, replicate_next}
pub use Rattle.std.proofs.lemmas.Int.{ints, to_z-of_z, int_wrap-add_left, int_wrap-add_right, int_wrap-sub_right, int_wrap_fits, wraps, int_wrap-add_same, fits_signed_from_abs, unsigned_abs-mul, to_z_pos}
pub use Rattle.std.proofs.lemmas.Iterator.Adapters.{position_from-zero}
pub use Rattle.std.proofs.lemmas.List.{map-id, append-nil, take_all, get_or_default, get_or-set_same, get_or-set_other, drop_more, length-append, length-map, map-append, map-set, get_or_append_left, get_or_push, get_or-map, get_or-append_right, get_or_past, length-set, take-append-drop, length-take-le, at_drop_more, at_drop_all, take_rest, take_at, take-take, take-append-le, length-take, take_more, drop_all, nil_from_length, drop_at, get_or-drop, get_or-take, length-drop, take-map, drop-map, drop-drop, drop-take, drop-append-le, reverse-append, length-replicate, take-replicate, take_min, ext_get_or, with_items_is, get_or-append-add, set_split, set-get_or, get_or-replicate, same_lists, map_more}
pub use Rattle.std.proofs.lemmas.List.Elements.{All-append, All-nil, All-cons, All-more, All-from_recursion, recursion_from_All, filter-append, All-take, All-get_or, All-push, All-tail, All-head, All-map, Contains-append_cases, Contains-append_left, Contains-append_right, Contains-push, Contains-push_cases, All-weaker, All-same, All-filter, All-pop}
pub use Rattle.std.proofs.lemmas.List.Filters.{FiltersInPlace-all, FiltersInPlace-more_no, FiltersInPlace-more_set, FiltersInPlace}
pub use Rattle.std.proofs.lemmas.List.Folds.{list_all-append, list_any-append, list_any_more}
pub use Rattle.std.proofs.lemmas.List.FromFn.{map-range_with_len_more}
pub use Rattle.std.proofs.lemmas.List.Quantifiers.{position-Some}
pub use Rattle.std.proofs.lemmas.List.Sorted.{IsNonDecreasingBy-from_sort_by_key, answers_always}
pub use Rattle.std.proofs.lemmas.List.Sums.{sum_by-cons, sum_by_more, sum_by-append, fold_more, sum_by_push, sum_by_more_le_part, list_all-from_AllPass, sum_by-le-sum_by, length-filter, count_by-le-length, AllPass-from_list_all, position_or_len_is, fails_before_first, sum_by-take-le}
pub use Rattle.std.proofs.lemmas.Map.Lookups.{CmpEqualImpliesEq, exact_pairs, exact_unsigned}
pub use Rattle.std.proofs.lemmas.Map.Text.{btree_map_updates_text}
pub use Rattle.std.proofs.lemmas.Nat.{mul-le, be_bytes_2, be_bytes_4, be_bytes_8, from_be_bytes-to_be_bytes_2, from_be_bytes-to_be_bytes_4, from_be_bytes-to_be_bytes_8, div_below, le-div, div-add-mod'}
pub use Rattle.std.proofs.lemmas.Option.{slice_get_past, slice_get_within, slice_get-get_or, none-some, slice_get_cases, slice_get-map, slice_get_read, get_or_from_slice_get}
pub use Rattle.std.proofs.lemmas.Result.{on_ok_weaker, IfOk-weaker, err_from_is_err_and, on_err_weaker}
pub use Rattle.std.proofs.lemmas.Slice.Eq.{bytes_eq-Decides}
pub use Rattle.std.proofs.lemmas.Str.{IsUtf8-from_is_utf8, is_utf8-from_IsUtf8, IsUtf8-from_ascii, IsUtf8-append, chars-nil, IsUtf8-past_char, IsUtf8-string_bytes, encode_ascii, encodes-chars}
pub use Rattle.std.proofs.lemmas.Str.Parse.{digit_from_value, tells_digits}
pub use Rattle.std.proofs.lemmas.Str.Pattern.{split_once_first}
pub use Rattle.std.specs.BTreeMap.{get, is_at, get_by_text}
pub use Rattle.std.specs.BTreeSet.{contains}
pub use Rattle.std.specs.Bool.{beq, ⊤}
pub use Rattle.std.specs.Char.{digit_value, is_ascii_digit}
pub use Rattle.std.specs.Cmp.Derive.{both_true}
pub use Rattle.std.specs.Cmp.Lexicographic.{pointwise, slice_cmp}
pub use Rattle.std.specs.Fmt.{signed_decimal}
pub use Rattle.std.specs.Int.{int_wrap, w128, to_be_bytes, Width, byte_len, from_be_bytes}
pub use Rattle.std.specs.Io.KnownBytes.{Consumes, Appends, IsAtEnd}
pub use Rattle.std.specs.List.{list_all, AllByRecursion, starts_with, list_any, position_or_len, prefix_len, position_from, before_first, after_first, range_with_len}
pub use Rattle.std.specs.List.Sorted.{IsNonDecreasingBy, IsStableByKey, ties, IsSearchInRange, IsBinarySearchResult}
pub use Rattle.std.specs.Map.{keys_of}
pub use Rattle.std.specs.Ordering.{ordering_reverse, ordering_then, ordering_index}
pub use Rattle.std.specs.Result.{result_unwrap_or, result_ok}
pub use Rattle.std.specs.Str.Parse.{digits_value, digits_value_after, AllDigits, ParsesUnsigned, without_leading_plus}
pub use Rattle.std.specs.Vec.{with_items}
pub use Rattle.std.specs.Vec.Iter.{into_iter_items}
pub use Rattle.std.specs.declared.alloc.AllocError.{AllocError}
pub use Rattle.cf_base.proofs.DayNumbers.{day_at, number_of, parts, is_day_from, reached_later}
