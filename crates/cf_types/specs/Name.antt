-- Names as keys: when two are the same, and which comes first.
use Rattle.std.specs.Prelude.{Bool, nat_eq}
use Rattle.std.specs.Ordering.{nat_cmp, is_lt}
use Rattle.std.specs.Cmp.Lexicographic.{pointwise, slice_cmp}
use Rattle.cf_types.specs.declared.names.Name16.{Name16}

-- the same 16 bytes
abbrev pub same_name : Name16 → Name16 → Bool
same_name a b = pointwise nat_eq a.0 b.0

-- names stand in the order of their bytes
abbrev pub name_before : Name16 → Name16 → Bool
name_before a b = is_lt (slice_cmp nat_cmp a.0 b.0)
