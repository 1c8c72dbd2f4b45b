-- Castout locks that are noted by the names of their rows, and released.
use Rattle.cache_dir.proofs.Imports.{arith, ◌≡◌, ℕ, Bool, false, not, ◌==◌, List, Option, None, Some, option_map, refl, option_filter, Name16, ConnId, DirRow, row_at, let_go, lock_without}

-- a lock is this connector's
abbrev is_of : ConnId → Option ConnId → Bool
is_of conn None = false
is_of conn (Some other) = other.0 == conn.0

-- the rows once a connector's locks were released, but for those that are left
pub record IsReleased (conn : ConnId) (start now : List (List ℕ × DirRow)) (left : List (List ℕ × ConnId))
    : Type 0 where
  pub same : (q : Name16) → option_map (let_go conn) (row_at now q) ≡ option_map (let_go conn) (row_at start q)
  pub done : (q : Name16) → is_of conn (row_at left q) ≡ false → option_map (let_go conn) (row_at now q) ≡ row_at now q

-- the locks of the others are left
pub filtered : (conn : ConnId) (lock : Option ConnId)
    → option_filter (λ (other : ConnId). not (other.0 == conn.0)) lock ≡ lock_without conn lock
filtered conn None = refl
filtered conn (Some other) = grind arith
