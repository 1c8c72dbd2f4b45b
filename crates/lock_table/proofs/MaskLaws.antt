-- Members of a set of connectors with one more, or one less.
use Rattle.lock_table.proofs.Imports.{arith, ◌≡◌, ◌≢◌, true, false, List, [], ◌∷◌, refl, sym, eqb-true, eq-eqb, ne_eqb, is_member, with_member, without_member, ConnId}

pub is_member-with_member_same : (conn : ConnId) (set : List ConnId) → is_member conn (with_member conn set) ≡ true
is_member-with_member_same conn [] = rw (eq-eqb conn.0 conn.0 refl) refl
is_member-with_member_same conn (first ∷ others) = grind (arith, eq-eqb, is_member-with_member_same conn others)

pub is_member-with_member_other : (conn other : ConnId) (set : List ConnId) → other.0 ≢ conn.0
    → is_member other (with_member conn set) ≡ is_member other set
is_member-with_member_other conn other [] apart = rw (ne_eqb conn.0 other.0 (λ e. apart (sym e))) refl
is_member-with_member_other conn other (first ∷ others) apart =
    grind (arith, ne_eqb, is_member-with_member_other conn other others apart)

pub is_member-without_member_same : (conn : ConnId) (set : List ConnId)
    → is_member conn (without_member conn set) ≡ false
is_member-without_member_same conn [] = refl
is_member-without_member_same conn (first ∷ others) = grind (arith, is_member-without_member_same conn others)

pub is_member-without_member_other : (conn other : ConnId) (set : List ConnId) → other.0 ≢ conn.0
    → is_member other (without_member conn set) ≡ is_member other set
is_member-without_member_other conn other [] apart = refl
is_member-without_member_other conn other (first ∷ others) apart =
    grind (arith, ne_eqb, eqb-true, is_member-without_member_other conn other others apart)
