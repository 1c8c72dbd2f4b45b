-- Two facilities, each once.
use Rattle.std.specs.Prelude.{◌==◌, if◌then◌else◌, Option, None, Some}
use Rattle.cf_types.specs.declared.numbers.CfId.{CfId}

-- the second, unless it is the first
abbrev pub unless_same : Option CfId → Option CfId → Option CfId
unless_same None second = second
unless_same (Some one) None = None
unless_same (Some one) (Some two) = if one.0 == two.0 then None else Some two
