-- The array that an adjunct is kept in.
use Rattle.std.specs.Prelude.{ℕ, ◌-◌, List, ◌++◌, length, replicate}
use Rattle.cf_types.specs.declared.limits.TheConstants.{ADJUNCT_BYTES}

-- 64 bytes: those of the adjunct, then zeros
abbrev pub adjunct_block : List ℕ → List ℕ
adjunct_block text = text ++ replicate (ADJUNCT_BYTES - length text) 0
