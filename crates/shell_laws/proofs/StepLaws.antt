-- Each command that isn't refused is a move, and so is a loss: what it makes of what stands, what its entry tells of a
-- rebuild, and what its causes leave of the move.
use Rattle.shell_laws.proofs.Imports.{◌≡◌, ℕ, Bool, true, false, List, [], ◌∷◌, length, Option, None, Some, not, is_some, refl, sym, ap, ◌∙◌, subst, arith, if◌then◌else◌, ◌||◌, ◌&&◌, is_none, unwrap_or, and_parts, both_ways, eqb-true, CALLERS, Event, Letter, Stage, StrForm, CfId, ConnId, Refusal, ShellCmd, ShellReply, Connections, actives, defined_count, is_active, state_of, with_connect, with_departure, with_forced, is_member, without_member, actives-with_answer, actives-with_departure, actives-with_forced, is_active-within, is_member-actives, next_event, owed_event, Ask, Room, Instances, is_at, no_instance, place_for, units_of, Machine, CallOutcome, command_done, departure_from, loss_step, moved_by, room_of, step, unless, Meaning, first_refusal, is_copy, Leaver, Shell, ShellOutcome, candidates, complete_outcome, departure_outcome, emptied, facility_of, fresh_made, given_outcome, goes, idle_outcome, if_failed, is_connect, is_empty, is_kept, leaver, loss_outcome, made_at, no_deeds, rebuild_connect_outcome, refusal_when, responded, response_outcome, shell_cause, shell_causes, shell_done, simplex_again, stop_outcome, take_event, unless_active, unless_copied_to, with_off, with_posted, Rebuild, is_response, rebuild_onward, without_owing, HasPlace, Somebody, rebuild_next, Telling, mark_telling, telling, telling_of, Completes, Nothing, Responds, What, none_hold, NoneHolds}
use Rattle.shell_laws.proofs.CauseLaws.{idle_rebuild, not_so, nothing_left, past_front, not_above}
use Rattle.shell_laws.proofs.LossLaws.{loss-cases}
use Rattle.shell_laws.proofs.PlaceLaws.{made_apart, nobody_active, placed_for, primary-connect}
use Rattle.shell_laws.proofs.ShellMoves.{Allows, IsKnown, IsSound, MayPlace, Move, Standing, Work, deeds_of, gone_if, gone_on, moved, standing_of, work_by, work_of}

-- an outcome is what a move makes of what stood, and what came before it is what comes before the move; what is told is
-- what becomes of the rebuild; and the move is allowed
pub record IsMove (form : StrForm) (room : Room) (s : Standing) (places : Type 0) (by : ConnId) (connects : Bool)
    (who : Option Leaver) (copied : ℕ) (told : Telling) (acted : ShellOutcome) : Type 0 where
  pub move : Move
  pub does : work_by who copied acted ≡ work_of form room s move
  pub known : IsKnown connects move s
  pub tells : (moved form move s).rebuild ≡ rebuild_next s.active by told s.rebuild
  pub allows : places → IsSound s → Allows form room s move

-- ---- what is told where a rebuild is none, or some

nothing_told : (actives : List ConnId) (by : ConnId) (rebuild : Option Rebuild)
    → rebuild ≡ rebuild_next actives by Nothing rebuild
nothing_told actives by None = refl
nothing_told actives by (Some rebuild) = refl

forces_told : (active : List ConnId) (by : ConnId) (rebuild : Option Rebuild)
    → emptied rebuild ≡ rebuild_next active by Telling.Forces rebuild
forces_told active by rebuild = grind arith

end_told : (active : List ConnId) (by : ConnId) (rebuild : Option Rebuild)
    → rebuild ≡ rebuild_next active by Telling.Deallocates rebuild
end_told active by None = refl
end_told active by (Some rebuild) = refl

fails_told : (active : List ConnId) (by : ConnId) (rebuild : Option Rebuild)
    → None ≡ rebuild_next active by Telling.Fails rebuild
fails_told active by None = refl
fails_told active by (Some rebuild) = refl

-- ---- stages

copy_is : (at : Stage) → is_copy at ≡ true → at ≡ Stage.Copy
copy_is at is = grind arith

response_elsewhere : (at : Stage) (number : ℕ) (answered : Event) → is_response at number answered ≡ true
    → (is_connect at ≡ false) × (is_copy at ≡ false)
response_elsewhere at number answered awaited = grind arith

-- a command of a stage is accepted in it
in_its : (its owes : Bool) (why : Refusal) → refusal_when (not (its && owes)) why ≡ None → its ≡ true
in_its true owes why fine = refl
in_its false owes why fine = absurd (cc)

-- ---- who is active

pub first_none : (first : Option Refusal) (rest : List (Option Refusal)) → first_refusal (first ∷ rest) ≡ None
    → first ≡ None
first_none first rest fine = (none_hold (first ∷ rest) fine).0

pub somebody_member : (conn : ConnId) (conns : List ConnId) → is_member conn conns ≡ true → Somebody conns
somebody_member conn [] is = absurd (cc)
somebody_member conn (first ∷ others) is = (first, (others, refl))

pub active_of : (b : Bool) → refusal_when (not b) Refusal.NotConnected ≡ None → b ≡ true
active_of b fine = grind arith

-- whoever is active is one of those that are, since its connection has a place
pub active_member : (conns : Connections) (conn : ConnId) → length conns ≡ CALLERS → is_active conns conn ≡ true
    → is_member conn (actives conns) ≡ true
active_member conns conn places active = grind (arith, is_member-actives, is_active-within)

-- where no connection is defined nobody is active
none_active : (conns : Connections) → defined_count conns ≡ 0 → actives conns ≡ []
none_active conns none = go (actives conns) (nobody_active conns none)
  where
    go : (active : List ConnId) → (Somebody active → ⊥) → active ≡ []
    go [] never = refl
    go (conn ∷ others) never = absurd (never (conn, (others, refl)))

none_behind : (form : StrForm) (conns : Connections) → goes form conns ≡ true → actives conns ≡ []
none_behind form conns gone = none_active conns (eqb-true (defined_count conns) 0 ((and_parts _ _ gone).1))

module _ (form : StrForm) (room : Room) (shell : Shell) (by : ConnId) where
  pub connect_stage : (rebuild : Rebuild) (at : Stage) → shell.rebuild ≡ Some rebuild → rebuild.stage ≡ at
      → shell_cause form room shell by ShellCmd.RebuildConnect ≡ None → rebuild.stage ≡ Stage.Connect
  connect_stage rebuild at is in_stage fine = grind (arith, in_its, none_hold)

-- ---- instances

none_of : (at : Option CfId) (why : Refusal) → refusal_when (is_some at) why ≡ None → at ≡ None
none_of at why fine = grind arith

none_made : (at place : Option CfId) → is_some at ≡ true → (if is_none at then place else None) ≡ None
none_made at place stands = grind arith

facility_is : (place : Option CfId) → is_some place ≡ true → place ≡ Some (facility_of place)
facility_is place found = grind arith

at_some : (cf : CfId) (fresh : Option CfId) → is_at cf fresh ≡ true → true ≡ is_some fresh
at_some cf fresh there = grind arith

-- what has an instance has not failed
unfailed_with : (s : Standing) → IsSound s → (has : Instances → Bool) → has no_instance ≡ false
    → has s.instances ≡ true → s.failed ≡ false
unfailed_with s sound has none stands = grind (arith, both_ways)

-- ---- what changes nothing, and what is lost

abbrev pub is_connection : ShellCmd → Bool
is_connection (ShellCmd.Connect keep) = true
is_connection _ = false

module _ (form : StrForm) (room : Room) (s : Standing) (places : Type 0) (by : ConnId) (connects : Bool)
  where
    -- the entry tells nothing of a rebuild
    unheard : (move : Move) (who : Option Leaver) (copied : ℕ) (acted : ShellOutcome) → work_by who copied
        acted ≡ work_of form room s move → (moved form move s).rebuild ≡ s.rebuild → IsKnown connects move s → (places
        → IsSound s → Allows form room s move) → IsMove form room s places by connects who copied Nothing acted
    unheard move who copied acted does same known allows = record {
      move = move;
      does = does;
      known = known;
      tells = same ∙ nothing_told s.active by s.rebuild;
      allows = allows;
    }

    dull : (acted : ShellOutcome) → standing_of acted.shell ≡ s → acted.deeds ≡ no_deeds
        → IsMove form room s places by connects None 0 Nothing acted
    dull acted same deeds =
        unheard Move.Quiet None 0 acted (λ i. (same i, deeds i, None, 0)) refl tt (λ places sound. tt)

pub moves-loss : (form : StrForm) (room : Room) (shell : Shell) (places : Type 0) (by : ConnId) (cf : CfId)
    → let acted = loss_outcome form cf shell in
    IsMove form room (standing_of shell) places by false None 0 (mark_telling acted.reply) acted
moves-loss form room shell places by cf =
    let s : Standing = standing_of shell in
    loss-cases form cf shell (λ acted.
    IsMove form room s places by false None 0 (mark_telling acted.reply) acted) (record {
      none = dull form room s places by false (idle_outcome ShellReply.OkNone shell) refl refl;
      simplex = λ left lost. unheard form room s places by false (Move.Simplexes cf (Some left)) None 0 _ refl refl tt
          (λ places sound. (refl, unfailed_with s sound (λ i. is_at cf i.primary || is_at cf i.secondary) refl lost));
      stops = λ rebuild is there. record {
        move = Move.Stops rebuild;
        does = grind (arith, moved, at_some);
        known = tt;
        tells = rw is refl;
        allows = λ places sound. is;
      };
      fails = record {
        move = Move.Fails;
        does = refl;
        known = tt;
        tells = fails_told s.active by s.rebuild;
        allows = λ places sound. tt;
      };
    })

-- ---- commands

module _ (form : StrForm) (room : Room) (judged : Shell) (letters : List Letter) (by : ConnId) where
  -- the shell that acts: the letters of a departure from the content are posted
  abbrev shell : Shell
  shell = with_posted letters judged

  abbrev s : Standing
  s = standing_of judged

  abbrev HasPlaces : Type 0
  HasPlaces = length judged.conns ≡ CALLERS

  abbrev Moves : ShellCmd → ShellOutcome → Type 0
  Moves command acted = IsMove form room s HasPlaces by (is_connection command)
      (leaver judged by command) (moved_by room command) (telling command acted.reply) acted

  abbrev IsTaken : ShellCmd → Type 0
  IsTaken command = shell_cause form room judged by command ≡ None

  none : (command : ShellCmd) → IsTaken command → NoneHolds (shell_causes form room judged by command)
  none command fine = none_hold (shell_causes form room judged by command) fine

  unfailed : if_failed judged ≡ None → judged.failed ≡ false
  unfailed fine = not_so judged.failed Refusal.StructureFailed fine

  somebody : HasPlaces → unless_active judged by ≡ None → Somebody (actives judged.conns)
  somebody places fine = somebody_member by (actives judged.conns) (grind (arith, active_member, active_of))

  moves_departure : (keep : Bool) → unless_active judged by ≡ None → IsMove form room s HasPlaces
      by false (Some (record { conn = by; keep = keep })) 0 Telling.Departs (departure_outcome form shell by keep)
  moves_departure keep fine = record {
    move = Move.Departs (record { conn = by; keep = keep }) (goes form conns);
    does = grind (arith, gone_if, conns, active);
    known = tt;
    tells = refl;
    allows = λ places sound gone. sym active ∙ none_behind form conns gone;
  }
    where
      conns : Connections
      conns = with_departure by keep judged.conns

      active : actives conns ≡ without_member by (actives judged.conns)
      active = grind (arith, actives-with_departure, is_active-within, active_of)

  moves_next : (taken : Option Event) → Moves ShellCmd.Next (take_event shell by taken)
  moves_next None = dull form room s HasPlaces by false _ refl refl
  moves_next (Some taken) = dull form room s HasPlaces by false _ refl refl

  -- a member gives what the stage waits for
  moves_given : (told : Telling) (answer : ShellReply) (rebuild : Rebuild) (noted : Shell) → standing_of noted ≡ s
      → judged.rebuild ≡ Some rebuild → rebuild_onward (without_owing by rebuild) ≡ rebuild_next s.active
      by told (Some rebuild) → is_connect rebuild.stage ≡ false → (is_copy rebuild.stage ≡ true → room.left ≡ 0)
      → IsMove form room s HasPlaces by false None 0 told (given_outcome answer by rebuild noted)
  moves_given told answer rebuild noted same is tells elsewhere filled = record {
    move = Move.Gives rebuild by;
    does = grind (arith, gone_on, deeds_of);
    known = tt;
    tells = tells ∙ ap (rebuild_next s.active by told) (sym is);
    allows = λ places sound. record { is = is; elsewhere = elsewhere; filled = filled };
  }

  moves_response : (owed : Option Event) → Moves ShellCmd.Respond (response_outcome shell by owed)
  moves_response None = dull form room s HasPlaces by false _ refl refl
  moves_response (Some answered) = grind (arith, by_rebuild, actives-with_answer)
    where
      unawaited : (rebuild : Option Rebuild) (noted : Shell) → standing_of noted ≡ s → judged.rebuild ≡ rebuild
          → rebuild ≡ rebuild_next s.active by (Responds answered) rebuild
          → Moves ShellCmd.Respond (record { reply = ShellReply.Responded answered; shell = noted; deeds = no_deeds })
      unawaited rebuild noted same is tells = record {
        move = Move.Quiet;
        does = λ i. (same i, no_deeds, None, 0);
        known = tt;
        tells = rw is tells;
        allows = λ places sound. tt;
      }

      by_rebuild : (rebuild : Option Rebuild) (noted : Shell) → standing_of noted ≡ s → judged.rebuild ≡ rebuild
          → Moves ShellCmd.Respond (responded by answered rebuild noted)
      by_rebuild None noted same is = unawaited None noted same is refl
      by_rebuild (Some rebuild) noted same is = go (is_response rebuild.stage rebuild.number answered) refl
        where
          go : (b : Bool) → is_response rebuild.stage rebuild.number answered ≡ b → Moves ShellCmd.Respond (if b
              then given_outcome (ShellReply.Responded answered) by rebuild noted
              else record { reply = ShellReply.Responded answered; shell = noted; deeds = no_deeds })
          go false late = unawaited (Some rebuild) noted same is (rw late refl)
          go true awaited =
              let elsewhere = response_elsewhere rebuild.stage rebuild.number answered awaited in
              moves_given (Responds answered) (ShellReply.Responded answered) rebuild noted same is (rw awaited refl)
              elsewhere.0 (λ copy. absurd (both_ways (is_copy rebuild.stage) elsewhere.1 copy))

  moves_stop : (rebuild : Option Rebuild) → judged.rebuild ≡ rebuild → IsTaken ShellCmd.RebuildStop
      → Moves ShellCmd.RebuildStop (stop_outcome shell rebuild)
  moves_stop None is fine = absurd (let wrong = rw is at ((none ShellCmd.RebuildStop fine).1.1.0) in cc)
  moves_stop (Some rebuild) is fine = record {
    move = Move.Stops rebuild;
    does = refl;
    known = tt;
    tells = rw is refl;
    allows = λ places sound. is;
  }

  may_place : (rebuild : Rebuild) → judged.rebuild ≡ Some rebuild → IsTaken ShellCmd.RebuildConnect
      → HasPlaces → IsSound s → MayPlace form room s rebuild (fresh_made form judged by rebuild)
  may_place rebuild is fine places sound =
      grind (arith, connect_stage, somebody, unfailed, placed_for, past_front, past, none_hold, not_above)
    where
      none : NoneHolds (shell_causes form room judged by ShellCmd.RebuildConnect)
      none = none_hold (shell_causes form room judged by ShellCmd.RebuildConnect) fine

      past : first_refusal (unless_copied_to form judged room by (Some rebuild)) ≡ None
      past = grind (arith, past_front)

  moves_place : (rebuild : Option Rebuild) → judged.rebuild ≡ rebuild → IsTaken ShellCmd.RebuildConnect
      → Moves ShellCmd.RebuildConnect (rebuild_connect_outcome form shell by rebuild)
  moves_place None is fine = absurd (let wrong = rw is at ((none ShellCmd.RebuildConnect fine).1.1.0) in cc)
  moves_place (Some rebuild) is fine =
      let made = fresh_made form judged by rebuild in record {
        move = Move.Places rebuild by (unwrap_or rebuild.fresh (facility_of made)) made;
        does = refl;
        known = is;
        tells = rw (is, connect_stage form room judged by rebuild rebuild.stage is refl fine) refl;
        allows = may_place rebuild is fine;
      }

  moves_copy : (n : ℕ) (rebuild : Option Rebuild) → judged.rebuild ≡ rebuild → IsTaken (ShellCmd.Copy n)
      → Moves (ShellCmd.Copy n) (shell_done form room shell by (ShellCmd.Copy n))
  moves_copy n None is fine = absurd (let wrong = rw is at ((none (ShellCmd.Copy n) fine).1.1.1.0) in cc)
  moves_copy n (Some rebuild) is fine = record {
    move = Move.Copies n;
    does = refl;
    known = tt;
    tells = rw is refl;
    allows = λ places sound. rw is (copy, rw copy at (subst HasPlace is sound.placed));
  }
    where
      copy : rebuild.stage ≡ Stage.Copy
      copy = grind (arith, copy_is, none)

  moves_completion : (rebuild : Option Rebuild) → judged.rebuild ≡ rebuild → IsTaken ShellCmd.RebuildComplete
      → Moves ShellCmd.RebuildComplete (complete_outcome shell by rebuild)
  moves_completion None is fine = absurd (let wrong = rw is at ((none ShellCmd.RebuildComplete fine).1.1.0) in cc)
  moves_completion (Some rebuild) is fine =
      let none = none ShellCmd.RebuildComplete fine in
      let copy : rebuild.stage ≡ Stage.Copy = grind (arith, copy_is, in_its) in
      moves_given Completes ShellReply.Ok rebuild shell refl is (rw copy refl) (rw copy refl)
      (λ copies. nothing_left room.left _ none.1.1.1.1.0)

  moves_duplex : IsTaken ShellCmd.DuplexStart
      → Moves ShellCmd.DuplexStart (shell_done form room shell by ShellCmd.DuplexStart)
  moves_duplex fine =
      let none = none ShellCmd.DuplexStart fine in
      unheard form room s HasPlaces by false (Move.Duplexes (facility_of place)) None 0 _ refl refl tt
      (grind (arith, idle_rebuild, unfailed, made_apart, facility_is, place, placed_for))
    where
      place : Option CfId
      place = place_for (units_of judged.caps) (candidates form judged by)

  moves_simplex : (second : Option CfId) → judged.instances.secondary ≡ second
      → Moves ShellCmd.DuplexStop (simplex_again second shell)
  moves_simplex None is = dull form room s HasPlaces by false _ refl refl
  moves_simplex (Some cf) is = unheard form room s HasPlaces
      by false (Move.Simplexes cf judged.instances.primary) None 0 _ refl refl tt (grind (arith, unfailed_with))

  pub moves-command : (command : ShellCmd) → IsTaken command → Moves command (shell_done form room shell by command)
  moves-command (ShellCmd.Connect keep) fine =
      let none = none (ShellCmd.Connect keep) fine in
      unheard form room s HasPlaces by true (Move.Connects (actives (with_connect by keep judged.conns))
      (made_at form judged by) (if is_some (state_of judged.conns by) then Some by else None)) None 0 _ refl refl refl
      (grind (arith, idle_rebuild, unfailed, primary-connect, past_front, none_made))
  moves-command ShellCmd.Disconnect fine = moves_departure false (none ShellCmd.Disconnect fine).0
  moves-command ShellCmd.Fail fine = moves_departure (is_kept (state_of judged.conns by)) (none ShellCmd.Fail fine).0
  moves-command ShellCmd.Next fine = moves_next (next_event shell.mail by)
  moves-command ShellCmd.Respond fine = moves_response (owed_event shell.mail by)
  moves-command (ShellCmd.RebuildStart caps) fine =
      let none = none (ShellCmd.RebuildStart caps) fine in record {
        move = Move.Starts _ caps;
        does = refl;
        known = tt;
        tells = refl;
        allows = grind (arith, somebody, some, unfailed, idle_rebuild, none_of);
      }
    where
      some : HasPlaces → (b : Bool) → (if b then refusal_when (is_empty (actives judged.conns)) Refusal.NotConnected
          else unless_active judged by) ≡ None → Somebody (actives judged.conns)
      some places true fine = grind arith
      some places false fine = somebody places fine
  moves-command ShellCmd.RebuildStop fine = moves_stop judged.rebuild refl fine
  moves-command ShellCmd.RebuildConnect fine = moves_place judged.rebuild refl fine
  moves-command (ShellCmd.Copy n) fine = moves_copy n judged.rebuild refl fine
  moves-command ShellCmd.RebuildComplete fine = moves_completion judged.rebuild refl fine
  moves-command (ShellCmd.ForceConn other) fine = record {
    move = Move.Forces other (goes form conns);
    does = grind (arith, gone_if, conns, active, deeds_of);
    known = tt;
    tells = forces_told s.active by s.rebuild;
    allows = λ places sound gone. sym active ∙ none_behind form conns gone;
  }
    where
      conns : Connections
      conns = with_forced other judged.conns

      active : actives conns ≡ actives judged.conns
      active = grind (arith, actives-with_forced, none)
  moves-command ShellCmd.ForceStr fine = record {
    move = Move.Deallocates;
    does = refl;
    known = tt;
    tells = end_told s.active by s.rebuild;
    allows = grind (arith, none_active, nothing_left, none);
  }
  moves-command (ShellCmd.Vary cf true) fine = moves-loss form room (with_off cf true shell) HasPlaces by cf
  moves-command (ShellCmd.Vary cf false) fine = dull form room s HasPlaces by false _ refl refl
  moves-command ShellCmd.DuplexStart fine = moves_duplex fine
  moves-command ShellCmd.DuplexStop fine = moves_simplex judged.instances.secondary refl
  moves-command command fine = dull form room s HasPlaces by false _ refl refl

module _ {C R I S : Type 0} (meaning : Meaning C R I S) (form : StrForm) (machine : Machine S) (by : ConnId) where
  abbrev pub active : List ConnId
  active = actives machine.shell.conns

  abbrev pub room : Room
  room = room_of meaning form machine

  -- the shell that acts
  abbrev pub acting : ShellCmd → Shell
  acting command =
      with_posted (departure_from meaning form (leaver machine.shell by command) machine).letters machine.shell

  abbrev pub done : ShellCmd → ShellOutcome
  done command = shell_done form room (acting command) by command

  pub move_by : (command : ShellCmd) → shell_cause form room machine.shell by command ≡ None
      → IsMove form room (standing_of machine.shell) (length machine.shell.conns ≡ CALLERS) by (is_connection command)
      (leaver machine.shell by command) (moved_by room command) (telling command (done command).reply) (done command)
  move_by command fine = grind (arith, moves-command)

  pub tells_command : (command : ShellCmd) → shell_cause form room machine.shell by command ≡ None → (done
      command).shell.rebuild ≡ rebuild_next active by (telling command (done command).reply) machine.shell.rebuild
  tells_command command fine = grind (arith, move_by, Work)

  abbrev pub told : (asked : Ask C) → CallOutcome R S → Telling
  told asked answered = telling_of (What.Call asked) answered.reply

  -- what is told of a rebuild is what becomes of it
  abbrev IsTold : Ask C → CallOutcome R S → Type 0
  IsTold asked answered =
      answered.machine.shell.rebuild ≡ rebuild_next active by (told asked answered) machine.shell.rebuild

  pub rebuild-step : (asked : Ask C) → IsTold asked (step meaning form machine by asked)
  rebuild-step (Ask.Shell command) = go (shell_cause form room machine.shell by command) refl
    where
      go : (cause : Option Refusal) → shell_cause form room machine.shell by command ≡ cause → IsTold
          (Ask.Shell command) (unless meaning form cause machine (command_done meaning form machine by command))
      go (Some refusal) is = nothing_told active by machine.shell.rebuild
      go None is = tells_command command is
  rebuild-step (Ask.Content command) = grind (arith, nothing_told)

  -- ---- a mark

  abbrev marked : CfId → Telling
  marked cf = telling_of {C = C} (What.Lost cf) (loss_step meaning form machine cf).reply

  pub rebuild-loss : (cf : CfId) → (loss_step meaning form machine cf).machine.shell.rebuild ≡ rebuild_next
      active by (marked cf) machine.shell.rebuild
  rebuild-loss cf = grind (arith, moves-loss, Work)
