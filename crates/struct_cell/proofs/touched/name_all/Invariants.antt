use Rattle.struct_cell.proofs.Imports.{◌≡◌, ◌/◌, ◌<◌, ◌≤◌, ℕ, All, take, false, is_for, ConnId, IsSpared, IsOfTable}
use Rattle.struct_cell.proofs.touched.name_all.Given as goal

abbrev pub invariant-loop-change : goal.invariant-loop-change
invariant-loop-change l = record {
  table : IsOfTable l.fn.named l.named;
  spared : (conn : ConnId) (index : ℕ) → 0 < conn.0 → conn.0 ≤ l.fn.named.conns → index < l.fn.named.len
      → IsSpared l.named.places conn.0 (index / 32)
      → All (λ change. is_for conn index change ≡ false) (take l.change-index l.bits);
}
