use Rattle.cache_dir.proofs.Imports.{◌≡◌, ◌≤◌, length, spare}
use Rattle.cache_dir.proofs.LockLaws.{IsReleased}
use Rattle.cache_dir.proofs.dir.release_noted.Given as goal

abbrev pub invariant-loop-name : goal.invariant-loop-name
invariant-loop-name l = IsReleased l.conn l.fn.rows.entries l.rows.entries l.name-iterator
    × (length l.rows.entries ≡ length l.fn.rows.entries) × (spare l.fn.rows ≤ spare l.rows)
