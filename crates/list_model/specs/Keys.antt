-- List keys: when two are the same, and in which order they stand.
use Rattle.std.specs.Prelude.{Bool, true, false, not, Option, Some, None, nat_eq}
use Rattle.std.specs.Ordering.{nat_cmp, is_lt}
use Rattle.std.specs.Cmp.Lexicographic.{pointwise, slice_cmp}
use Rattle.cf_types.specs.declared.names.Key16.{Key16}

-- the same 16 bytes
abbrev pub same_key : Key16 → Key16 → Bool
same_key a b = pointwise nat_eq a.0 b.0

-- keys stand in the order of their bytes
abbrev pub key_before : Key16 → Key16 → Bool
key_before a b = is_lt (slice_cmp nat_cmp a.0 b.0)

-- the first isn't behind the second; no key stands before all keys
abbrev pub key_up_to : Option Key16 → Option Key16 → Bool
key_up_to None other = true
key_up_to (Some key) None = false
key_up_to (Some key) (Some other) = not (key_before other key)
