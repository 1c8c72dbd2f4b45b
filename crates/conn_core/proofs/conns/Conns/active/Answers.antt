use Rattle.std.proofs.Common.{◌≡◌, ℕ, ◌+◌, Bool, cond, filter, List, subst, arith}
use Rattle.cf_types.specs.declared.{limits.TheConstants.CALLERS, numbers.ConnId.ConnId}
use Rattle.cf_types.specs.ConnSets.{conns_from, with_member}
use Rattle.cf_types.specs.Connections.{Connections, is_active, actives}
use Rattle.cf_types.proofs.ConnSetLaws.{filter-from_zero_more}
use Rattle.conn_core.proofs.conns.Conns.active.Goals.{then-is_active, else-is_active}
use Rattle.conn_core.proofs.conns.Conns.active.Goals as goal

-- the active ones up to this number
one_more : (conns : Connections) (n : ℕ) (set new : List ConnId) → set ≡ filter (is_active conns) (conns_from 0 n)
    → (active : Bool) → active ≡ is_active conns (record { 0 = n }) → new ≡ cond
    active (with_member (record { 0 = n }) set) set → new ≡ filter (is_active conns) (conns_from 0 (n + 1))
one_more conns n set new so_far active is added = rw (filter-from_zero_more (is_active conns) n, ← is, ← so_far) added

all_of_them : (conns : Connections) (n : ℕ) (set : List ConnId) → n ≡ CALLERS
    → set ≡ filter (is_active conns) (conns_from 0 n) → set ≡ actives conns
unfolding actives
all_of_them conns n set all is = subst (λ (m : ℕ). set ≡ filter (is_active conns) (conns_from 0 m)) all is

pub loop-number-init : goal.loop-number-init
unfolding conns_from
loop-number-init c = c.none-set.ensures

pub loop-number-preserved : goal.loop-number-preserved
loop-number-preserved c = grind (arith, one_more, then-is_active, else-is_active)

pub returns : goal.returns
returns c = all_of_them c.args.self.now c.loop-number.number c.loop-number.set (omega arith) c.loop-number.invariant
