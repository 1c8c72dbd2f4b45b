-- What a table entry is, and what an iterator over the owners of a resource has left.
use Rattle.std.specs.Prelude.{List}
use Rattle.lock_table.specs.declared.holdings.Held.{Held}
use Rattle.lock_table.specs.declared.entry.Owners.{Owners}
use Rattle.lock_table.specs.Holdings.{owners_of}

abbrev pub owners_left : Owners → List Held
owners_left owners = owners_of owners.r owners.rest
