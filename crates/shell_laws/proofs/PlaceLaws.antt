-- The members of a rebuild, its new instance, and the primary, whose place the new one takes.
use Rattle.shell_laws.proofs.Imports.{arith, ◌≡◌, ◌≢◌, ℕ, Bool, true, false, List, [], ◌∷◌, Option, None, Some, refl, if◌then◌else◌, filter, is_some, is_none, eq-eqb, both_ways, false_from_ne_true, Stage, Copy, Pref, StrForm, CfId, ConnId, Refusal, Connections, actives, defined_count, without_member, filter_none_from, gone-from_none_defined, Instances, place_for, units_of, first_refusal, is_copy, is_switch, Shell, candidates, emptied, if_no_place, is_connect, with_primary, Rebuild, outcome, outcome_of, rebuild_onward, rebuild_without, without_owing, HasMembers, HasPlace, Somebody}
use Rattle.shell_laws.proofs.ShellMoves.{left_by}

-- ---- the members and the new instance

pub nobody : (conns : List ConnId) → conns ≡ [] → Somebody conns → ⊥
nobody [] none (conn, (others, are)) = cc
nobody (first ∷ rest) none somebody = cc

pub somebody_without : (by : ConnId) (conns : List ConnId) → Somebody (without_member by conns) → Somebody conns
somebody_without by [] (conn, (others, are)) = absurd (cc)
somebody_without by (first ∷ rest) somebody = (first, (rest, refl))

-- these are the members of a rebuild, and its new instance is where it is to be
abbrev pub IsRebuild : Option Rebuild → List ConnId → Type 0
IsRebuild rebuild active = HasMembers rebuild active × HasPlace rebuild

pub is-onward : (rebuild : Rebuild) (active : List ConnId) → rebuild.members ≡ active → HasPlace (Some rebuild)
    → IsRebuild (rebuild_onward rebuild) active
is-onward rebuild active are placed = grind arith

pub is-without : (by : ConnId) (rebuild : Option Rebuild) (active : List ConnId) → IsRebuild rebuild active
    → IsRebuild (left_by by rebuild) (without_member by active)
is-without by None active is = (tt, tt)
is-without by (Some rebuild) active is = grind (arith, is-onward)

pub placed-owed : (by : ConnId) (rebuild : Rebuild) → is_connect rebuild.stage ≡ false → HasPlace (Some rebuild)
    → HasPlace (Some (without_owing by rebuild))
placed-owed by rebuild elsewhere placed = grind arith

pub is-emptied : (rebuild : Option Rebuild) (active : List ConnId) → IsRebuild rebuild active
    → IsRebuild (emptied rebuild) active
is-emptied rebuild active is = grind arith

-- ---- the new instance takes the primary's place

pub switch_copy : (at : Stage) (members owing : List ConnId) → is_switch (outcome at members owing) ≡ true → at ≡ Copy
switch_copy at members owing switch = grind arith

-- it stands where it does so
pub switch_stands : (rebuild : Rebuild) → HasPlace (Some rebuild) → is_switch (outcome_of rebuild) ≡ true
    → is_some rebuild.fresh ≡ true
switch_stands rebuild placed switch = rw (switch_copy rebuild.stage rebuild.members rebuild.owing switch) at placed

-- outside COPY nothing does
pub no_switch_outside : (at : Stage) (members owing : List ConnId) → is_copy at ≡ false
    → is_switch (outcome at members owing) ≡ false
no_switch_outside at members owing outside = grind (arith, false_from_ne_true, both_ways, switch_copy)

-- nor does a departure
pub no_switch : (by : ConnId) (rebuild : Rebuild) → is_switch (outcome_of (rebuild_without by rebuild)) ≡ false
no_switch by rebuild = grind (arith, no_switch_outside)

-- ---- who is active

-- nobody is active where no connection is defined
pub nobody_active : (conns : Connections) → defined_count conns ≡ 0 → Somebody (actives conns) → ⊥
unfolding actives
nobody_active conns none (conn, (others, are)) = grind (arith, nobody, filter_none_from, gone-from_none_defined)

-- ---- who connects where no primary stands makes one

pub placed_for : (units : ℕ) (prefs : List Pref) → first_refusal (if_no_place units prefs ∷ []) ≡ None
    → is_some (place_for units prefs) ≡ true
placed_for units prefs fine = grind arith

pub primary-connect : (at : Option CfId) (units : ℕ) (prefs : List Pref) (rest : List (Option Refusal))
    (instances : Instances) → instances.primary ≡ at
    → first_refusal (if is_none at then if_no_place units prefs ∷ [] else rest) ≡ None
    → is_some (with_primary (if is_none at then place_for units prefs else None) instances).primary ≡ true
primary-connect None units prefs rest instances is fine = grind (arith, placed_for)
primary-connect (Some cf) units prefs rest instances is fine = rw is refl

-- a place that is found among some facilities is one of them
place_among : (is : Pref → Bool) (units : ℕ) (prefs : List Pref) (cf : CfId)
    → ((pref : Pref) → is pref ≡ true → pref.cf ≡ cf → ⊥) → place_for units (filter is prefs) ≡ Some cf → ⊥
place_among is units [] cf never found = absurd (cc)
place_among is units (pref ∷ prefs) cf never found = grind (arith, place_among is units prefs cf never)

-- where it is made, no primary stands
pub made_apart : (form : StrForm) (shell : Shell) (by : ConnId) (one other : CfId) → shell.instances.primary ≡ Some
    one → place_for (units_of shell.caps) (candidates form shell by) ≡ Some other → other.0 ≢ one.0
made_apart form shell by one other stands found = grind (arith, place_among, both_ways, eq-eqb)
