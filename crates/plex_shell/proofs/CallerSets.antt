-- Sets of callers: that the active connectors are one.
use Rattle.plex_shell.proofs.Imports.{◌≡◌, Bool, true, false, not, ◌&&◌, ◌==◌, List, filter, refl, subst, arith, eq-eqb, ne_eqb, and_right, CALLERS, ConnId, conns_from, without_member, Connections, is_active, actives, filter_agree_from, is_member-from, without_member-from, AreCallers}

-- those of the callers that pass a test
AreCallers-filter : (p : ConnId → Bool) → AreCallers (filter p (conns_from 0 CALLERS))
AreCallers-filter p = grind (arith, filter_agree_from, is_member-from)

pub AreCallers-actives : (conns : Connections) → AreCallers (actives conns)
unfolding actives
AreCallers-actives conns = AreCallers-filter (is_active conns)

and-true : (b : Bool) → (b && true) ≡ b
and-true true = refl
and-true false = refl

AreCallers-filter_without : (p : ConnId → Bool) (conn : ConnId)
    → AreCallers (without_member conn (filter p (conns_from 0 CALLERS)))
AreCallers-filter_without p conn =
    let others : ConnId → Bool = λ other. p other && not (other.0 == conn.0) in
    let same : filter others (conns_from 0 CALLERS) ≡ without_member conn (filter p (conns_from 0 CALLERS)) =
    without_member-from p others conn 0 CALLERS (and_right (p conn) (not (conn.0 == conn.0)) (rw
    (eq-eqb conn.0 conn.0 refl) refl)) (λ other apart high. rw (ne_eqb other.0 conn.0 apart) (and-true (p other))) in
    subst (λ (set : List ConnId). AreCallers set) same (AreCallers-filter others)

pub AreCallers-other_actives : (conn : ConnId) (conns : Connections)
    → AreCallers (without_member conn (actives conns))
unfolding actives
AreCallers-other_actives conn conns = AreCallers-filter_without (is_active conns) conn

-- callers without one of them
pub AreCallers-without : (conn : ConnId) (set : List ConnId) → AreCallers set → AreCallers (without_member conn set)
AreCallers-without conn set are = grind (arith, AreCallers-filter_without)
