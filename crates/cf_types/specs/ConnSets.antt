-- Sets of connectors, as the list of their members in number order.
use Rattle.std.specs.Prelude.{ℕ, zero, suc, ◌+◌, ◌^◌, Bool, not, ◌==◌, nat_lt, if◌then◌else◌, List, [], ◌∷◌, filter, sum_by}
use Rattle.std.specs.List.{list_any}
use Rattle.std.specs.Int.{bit_at}
use Rattle.cf_types.specs.declared.limits.TheConstants.{SET_NUMBERS}
use Rattle.cf_types.specs.declared.numbers.ConnId.{ConnId}

-- so many connectors, from this number on
unfoldable pub conns_from : ℕ → ℕ → List ConnId
conns_from first zero = []
conns_from first (suc n) = record { 0 = first } ∷ conns_from (first + 1) n

abbrev pub is_member : ConnId → List ConnId → Bool
is_member conn set = list_any (λ other. other.0 == conn.0) set

-- the set with one more member
abbrev pub with_member : ConnId → List ConnId → List ConnId
with_member conn [] = conn ∷ []
with_member conn (first ∷ others) =
    if nat_lt first.0 conn.0 then first ∷ with_member conn others
    else if first.0 == conn.0 then first ∷ others
    else conn ∷ first ∷ others

-- the set without a member
abbrev pub without_member : ConnId → List ConnId → List ConnId
without_member conn set = filter (λ other. not (other.0 == conn.0)) set

-- a set is kept as bits: connector c is a member where bit c is set
unfoldable pub members : ℕ → List ConnId
members bits = filter (λ conn. bit_at bits conn.0 == 1) (conns_from 0 SET_NUMBERS)

abbrev pub bits_of : List ConnId → ℕ
bits_of set = sum_by (λ conn. 2 ^ conn.0) set
