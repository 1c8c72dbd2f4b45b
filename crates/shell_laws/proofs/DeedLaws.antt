-- What deeds make of the capacities of the instances, and that those of a command may be done.
use Rattle.shell_laws.proofs.Imports.{arith, ◌≡◌, Bool, true, false, List, [], Option, None, Some, inr, refl, sym, ap, ◌∙◌, subst, if◌then◌else◌, ◌||◌, ◌&&◌, is_some, both_ways, Stage, Copy, Caps, StrForm, CfId, ConnId, ShellCmd, without_member, Deeds, Room, Fits, Machine, items_of, room_of, Meaning, fresh_of, is_switch, Shell, caps_in, emptied, mark_outcome, shell_cause, Rebuild, outcome, outcome_of, rebuild_left, with_place, without_owing, AreFitting, caps_behind, fresh_behind, fresh_caps, HasMembers, IsManned, IsPlaced, Somebody}
use Rattle.shell_laws.proofs.PlaceLaws.{IsRebuild, is-without, no_switch, no_switch_outside, placed-owed, switch_copy, switch_stands}
use Rattle.shell_laws.proofs.ShellMoves.Move.{Connects, Departs, Forces, Deallocates, Starts, Gives, Places, Stops}
use Rattle.shell_laws.proofs.ShellMoves.{Allows, IsSound, Move, Standing, Work, deeds_of, left_by, moved, standing_of}
use Rattle.shell_laws.proofs.StepLaws.{done, move_by}
use Rattle.shell_laws.proofs.{LossLaws.loss-cases, MemberLaws.rebuild_in_it, MemberLaws.sound_of}

-- what the deeds of a mark make of the capacities is what the shell has behind it
pub capacities-loss : (form : StrForm) (cf : CfId) (shell : Shell) → let acted = mark_outcome form cf shell in
    (acted.shell.caps ≡ caps_behind form shell acted.deeds)
    × (fresh_caps acted.shell.rebuild ≡ fresh_behind shell acted.deeds)
capacities-loss form cf shell = loss-cases form cf shell (λ acted. (acted.shell.caps ≡ caps_behind
    form shell acted.deeds) × (fresh_caps acted.shell.rebuild ≡ fresh_behind shell acted.deeds)) (record {
      none = (refl, refl);
      simplex = λ left lost. (refl, refl);
      stops = λ rebuild is lost. (refl, refl);
      fails = (refl, refl);
    })

-- ---- a stage passes

-- with members left, the new instance stays the rebuild's until it takes the primary's place
fresh_passed : (at : Stage) (members owing before : List ConnId) (rebuild : Rebuild) → Somebody members
    → IsPlaced at members before rebuild.fresh → fresh_caps (rebuild_left (outcome at members owing)
    rebuild) ≡ (if is_switch (outcome at members owing) || false then None else fresh_caps (Some rebuild))
fresh_passed at members owing before rebuild somebody placed = grind arith

-- an emptied new instance keeps its capacity
fresh_emptied : (rebuild : Option Rebuild) → fresh_caps (emptied rebuild) ≡ fresh_caps rebuild
fresh_emptied rebuild = grind arith

-- where nobody is active there is no rebuild
no_rebuild : (rebuild : Option Rebuild) (active : List ConnId) → HasMembers rebuild active → active ≡ []
    → rebuild ≡ None
no_rebuild rebuild active members none = grind arith

-- ---- the capacities behind a move

fresh-move : (form : StrForm) (room : Room) (s : Standing) → IsSound s → (move : Move) → Allows form room s move
    → let deeds = deeds_of move s in
    fresh_caps (moved form move s).rebuild ≡ (if deeds.drop_all || (deeds.switch || deeds.drop_fresh) then None
    else if is_some deeds.make && is_some s.rebuild then Some (caps_in s.rebuild s.caps) else fresh_caps s.rebuild)
fresh-move form room s sound (Connects active made back) may = rw (may.idle) (never (is_some made))
  where
    never : (b : Bool) → None ≡ (if b && false then Some s.caps else None)
    never true = refl
    never false = refl
fresh-move form room s sound (Departs who true) may =
    ap fresh_caps (no_rebuild (left_by who.conn s.rebuild) (without_member who.conn s.active)
    (is-without who.conn s.rebuild s.active (sound.members, sound.placed)).0 (may refl))
fresh-move form room s sound (Departs who false) may = grind (arith, left_by, no_switch)
fresh-move form room s sound (Forces other true) may = grind (arith, fresh_emptied, no_rebuild)
fresh-move form room s sound (Forces other false) may = fresh_emptied s.rebuild
fresh-move form room s sound Deallocates may = ap fresh_caps (no_rebuild s.rebuild s.active sound.members may)
fresh-move form room s sound (Starts number caps) may = sym (ap fresh_caps may.idle)
fresh-move form room s sound (Gives rebuild who) may =
    let given : Rebuild = without_owing who rebuild in
    let is : IsRebuild (Some rebuild) s.active = rebuild_in_it s rebuild sound may.is in
    fresh_passed rebuild.stage rebuild.members given.owing rebuild.owing given (subst Somebody (sym is.0.0) is.0.1) is.1
    ∙ ap (λ (r : Option Rebuild). if is_switch (outcome_of given) || false then None else fresh_caps r) (sym may.is)
fresh-move form room s sound (Places rebuild who at made) may =
    let given : Rebuild = without_owing who (with_place at rebuild) in
    let is : IsRebuild (Some rebuild) s.active = rebuild_in_it s rebuild sound may.is in
    fresh_passed rebuild.stage rebuild.members given.owing given.owing given (subst Somebody (sym is.0.0) is.0.1)
    (rw (may.stage) (inr refl)) ∙ ap (λ (caps : Option Caps). if is_switch (outcome_of given)
    || false then None else caps) (rw (may.is) (go (is_some made) rebuild.fresh may.found))
  where
    go : (made : Bool) (fresh : Option CfId) → (fresh ≡ None → made ≡ true) → Some rebuild.caps
        ≡ (if made && true then Some rebuild.caps else if is_some fresh then Some rebuild.caps else None)
    go true fresh found = refl
    go false (Some cf) found = refl
    go false None found = let wrong = found refl in absurd (cc)
fresh-move form room s sound (Stops rebuild) may = rw may (go (is_some rebuild.fresh))
  where
    go : (b : Bool) → None ≡ (if b then None else if b then Some rebuild.caps else None)
    go true = refl
    go false = refl
fresh-move form room s sound _ may = refl

-- ---- what may be done

module _ {C R I S : Type 0} (meaning : Meaning C R I S) (form : StrForm) (machine : Machine S) where
  abbrev MayBeDone : Deeds → Type 0
  MayBeDone deeds = AreFitting meaning form machine deeds

  -- nothing is asked of deeds that make no instance, put none into another's place, and take up no connection
  fitting_any : (deeds : Deeds) → deeds.back ≡ None → deeds.make ≡ None → deeds.switch ≡ false → MayBeDone deeds
  fitting_any deeds back make switch = record {
    back = λ some. absurd (let wrong : false ≡ true = rw back at some in cc);
    alone = λ some. absurd (none some);
    room = λ some under. absurd (none some);
    stands = λ yes. absurd (both_ways deeds.switch switch yes);
    unmade = λ yes. make;
    filled = λ yes. absurd (both_ways deeds.switch switch yes);
    whole = λ yes. absurd (both_ways deeds.switch switch yes);
  }
    where
      none : is_some deeds.make ≡ true → ⊥
      none some = let wrong : false ≡ true = rw make at some in cc

  fitting-move : IsSound (standing_of machine.shell) → (move : Move) → Allows form (room_of meaning form machine)
      (standing_of machine.shell) move → MayBeDone (deeds_of move (standing_of machine.shell))
  fitting-move sound (Connects active made back) may = record {
    back = λ some. may.idle;
    alone = λ some. ap fresh_of may.idle;
    room = λ some under. absurd (let wrong : false ≡ true = rw (may.idle) at under in cc);
    stands = λ yes. absurd (cc);
    unmade = λ yes. absurd (cc);
    filled = λ yes. absurd (cc);
    whole = λ yes. refl;
  }
  -- behind the last COMPLETE the new instance stands, and lacks nothing
  fitting-move sound (Gives rebuild who) may = record {
    back = λ some. absurd (cc);
    alone = λ some. absurd (cc);
    room = λ some under. absurd (cc);
    stands = λ yes. ap (λ (r : Option Rebuild). is_some (fresh_of r)) may.is
        ∙ switch_stands (without_owing who rebuild) (placed-owed
        who rebuild may.elsewhere (rebuild_in_it (standing_of machine.shell) rebuild sound may.is).1) yes;
    unmade = λ yes. refl;
    filled = λ yes. may.filled (let copy : rebuild.stage ≡ Copy =
        switch_copy rebuild.stage rebuild.members (without_member who rebuild.owing) yes in rw copy refl);
    whole = λ yes. refl;
  }
  fitting-move sound (Places rebuild who at made) may = record {
    back = λ some. absurd (cc);
    alone = λ some. ap fresh_of may.is ∙ may.alone some;
    room = λ some under. subst (λ (r : Option Rebuild). Fits form.kind (meaning.need (items_of meaning form machine))
        (caps_in r machine.shell.caps)) (sym may.is) (rw (may.stands) at (may.fits (may.alone some)));
    stands = λ yes. absurd (both_ways _ stays yes);
    unmade = λ yes. absurd (both_ways _ stays yes);
    filled = λ yes. absurd (both_ways _ stays yes);
    whole = λ yes. refl;
  }
    where
      stays : is_switch (outcome_of (without_owing who (with_place at rebuild))) ≡ false
      stays = no_switch_outside rebuild.stage rebuild.members (without_member who rebuild.owing) (rw (may.stage) refl)
  fitting-move sound _ may = fitting_any _ refl refl refl

-- ---- commands

module _ {C R I S : Type 0} (meaning : Meaning C R I S) (form : StrForm) (machine : Machine S) (by : ConnId) where
  -- the capacities of the primary and of the new instance behind a command are what its deeds make of them
  pub capacities-command : (command : ShellCmd) → IsManned machine.shell → shell_cause form (room_of
      meaning form machine) machine.shell by command ≡ None → let acted = done meaning form machine by command in
      (acted.shell.caps ≡ caps_behind form machine.shell acted.deeds)
      × (fresh_caps acted.shell.rebuild ≡ fresh_behind machine.shell acted.deeds)
  capacities-command command manned fine =
      let is = move_by meaning form machine by command fine in
      let sound : IsSound (standing_of machine.shell) = sound_of machine.shell manned in
      let s : Standing = standing_of machine.shell in
      let may = is.allows manned.places sound in
      let room : Room = room_of meaning form machine in (grind (arith, Work, fresh-move, Gives, Places))

  -- the deeds of a command are such as may be done
  pub fitting-command : (command : ShellCmd) → IsManned machine.shell
      → shell_cause form (room_of meaning form machine) machine.shell by command ≡ None
      → AreFitting meaning form machine (done meaning form machine by command).deeds
  fitting-command command manned fine =
      let is = move_by meaning form machine by command fine in
      let sound : IsSound (standing_of machine.shell) = sound_of machine.shell manned in
      subst (λ (w : Work). AreFitting meaning form machine w.1) (sym is.does) (grind (arith, fitting-move))
