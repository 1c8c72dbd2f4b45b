-- In which order keys stand, and where a new one comes.
use Rattle.std.specs.Prelude.{Bool, not, if◌then◌else◌}
use Rattle.std.specs.Ordering.{nat_cmp, is_lt}
use Rattle.std.specs.Cmp.Lexicographic.{slice_cmp}
use Rattle.cf_types.specs.declared.names.Key16.{Key16}

-- keys stand in the order of their bytes
abbrev pub key_before : Key16 → Key16 → Bool
key_before a b = is_lt (slice_cmp nat_cmp a.0 b.0)

-- the first isn't behind the second
abbrev pub keys_up_to : Key16 → Key16 → Bool
keys_up_to key other = not (key_before other key)

-- which keys stand before a new one: the earlier ones, and at the tail those that are equal, too
abbrev pub stands_before : Bool → Key16 → Key16 → Bool
stands_before head key other = if head then not (keys_up_to key other) else keys_up_to other key
