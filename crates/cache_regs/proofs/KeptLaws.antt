-- What is true of each registration stays so.
use Rattle.cache_regs.proofs.Imports.{arith, ◌≡◌, ℕ, Bool, true, List, list_all, and_from, Name16, ConnId, list_all-filter, list_all-insertion, Registration, regs_with}

-- where it is true of the new one
pub all_with : (p : Registration → Bool) (conn : ConnId) (index : ℕ) (name : Name16) (regs : List Registration)
    → p (record { conn = conn; index = index; name = name }) ≡ true → list_all p regs ≡ true
    → list_all p (regs_with conn index name regs) ≡ true
all_with p conn index name regs h all = grind (arith, list_all-insertion, and_from, list_all-filter)
