-- A source in memory.
use Rattle.std.specs.Prelude.{ℕ, List, drop}
use Rattle.cf_io.specs.declared.mem_source.MemSource.{MemSource}

-- the bytes that were not read yet
abbrev pub left_of : MemSource → List ℕ
left_of source = drop source.taken source.bytes.items
