-- In a rebuild the members are just the connectors that are active, of whom there are some, and the instances stand
-- that there are to be: each move keeps it, so it holds after every history.
use Rattle.shell_laws.proofs.Imports.{arith, ◌≡◌, ◌≢◌, ℕ, Bool, true, false, List, [], ◌∷◌, length, Option, None, Some, sym, ap, ◌∙◌, subst, fold, is_some, both_ways, CALLERS, StrForm, CfId, ConnId, actives, no_connections, without_member, defined_count-unconnected, Ask, What, Room, Entry, after_what, machine_after, replay, Instances, Machine, loss_step, opening, room_of, step, Meaning, is_held_up, Shell, content_cause, emptied, length-conns-step, length-conns-replay, conns-loss, Rebuild, HasMembers, IsManned, Somebody}
use Rattle.shell_laws.proofs.PlaceLaws.{IsRebuild, is-emptied, is-without, nobody, nobody_active, placed-owed, somebody_without}
use Rattle.shell_laws.proofs.ShellMoves.Move.{Quiet, Connects, Departs, Forces, Deallocates, Starts, Gives, Places, Stops, Simplexes, Fails, Duplexes}
use Rattle.shell_laws.proofs.ShellMoves.{Allows, ArePaired, IsSound, Move, Standing, gone_if, left_by, moved, standing_of}
use Rattle.shell_laws.proofs.StepLaws.{active_member, active_of, first_none}
use Rattle.shell_laws.proofs.{CauseLaws.fourth_none, MoveLaws.kept-call, MoveLaws.kept-mark}

-- ---- what each move keeps

-- without a secondary there is nothing to be said of two
alone : (at : Instances) (rebuild : Option Rebuild) → at.secondary ≡ None → ArePaired at rebuild
alone at rebuild none = grind arith

missing : {X : Type 0} (o : Option X) → (is_some o ≡ true → ⊥) → o ≡ None
missing o never = grind arith

stands_none : {X : Type 0} (o : Option X) (x : X) → o ≡ Some x → o ≡ None → ⊥
stands_none o x some none = let wrong : Some x ≡ None = sym some ∙ none in cc

pub rebuild_in_it : (s : Standing) (rebuild : Rebuild) → IsSound s → s.rebuild ≡ Some rebuild
    → IsRebuild (Some rebuild) s.active
rebuild_in_it s rebuild sound is = subst (λ (r : Option Rebuild). IsRebuild r s.active) is (sound.members, sound.placed)

module _ (form : StrForm) (s : Standing) (sound : IsSound s) where
  -- the rebuild changes, and who is active
  sound-rebuilt : (rebuild : Option Rebuild) (active : List ConnId) → IsRebuild rebuild active
      → (s.rebuild ≡ None → rebuild ≡ None) → (Somebody active → Somebody s.active)
      → IsSound (record s { rebuild = rebuild; active = active })
  sound-rebuilt rebuild active is idle were = grind arith

-- the structure goes where nobody is active
sound-gone : (form : StrForm) (gone : Bool) (s : Standing) → (gone ≡ true → s.active ≡ []) → IsSound s
    → IsSound (gone_if gone form s)
sound-gone form false s none sound = sound
sound-gone form true s none sound = grind (arith, nobody, alone)

pub sound-move : (form : StrForm) (room : Room) (s : Standing) → IsSound s → (move : Move)
    → Allows form room s move → IsSound (moved form move s)
sound-move form room s sound Quiet may = sound
sound-move form room s sound (Connects active made back) may =
    grind (arith, both_ways, ArePaired, alone, missing, stands_none)
sound-move form room s sound (Departs who gone) may = sound-gone
    form gone (record s { active = without_member who.conn s.active; rebuild = left_by who.conn s.rebuild })
    may (sound-rebuilt form s sound (left_by who.conn s.rebuild) (without_member who.conn s.active)
    (grind (arith, is-without)) (λ idle. ap (left_by who.conn) idle) (somebody_without who.conn s.active))
sound-move form room s sound (Forces other gone) may =
    sound-gone form gone (record s { rebuild = emptied s.rebuild }) may (grind (arith, sound-rebuilt, is-emptied))
sound-move form room s sound Deallocates may = sound-gone form true s (λ gone. may) sound
sound-move form room s sound (Starts number caps) may = grind (arith, alone, moved, Starts, both_ways)
sound-move form room s sound (Gives rebuild who) may = grind (arith, placed-owed, rebuild_in_it)
sound-move form room s sound (Places rebuild who at made) may = grind arith
sound-move form room s sound (Stops rebuild) may = grind (arith, sound-rebuilt, rebuild_in_it, stands_none)
sound-move form room s sound (Simplexes lost left) may = grind (arith, alone, moved, Simplexes, both_ways)
sound-move form room s sound Fails may = grind (arith, alone)
sound-move form room s sound (Duplexes at) may = grind (arith, both_ways)
sound-move form room s sound _ may = sound

-- ---- the same of a shell

pub sound_of : (shell : Shell) → IsManned shell → IsSound (standing_of shell)
sound_of shell manned = grind arith

pub manned_of : (shell : Shell) → length shell.conns ≡ CALLERS → IsSound (standing_of shell) → IsManned shell
manned_of shell places sound = grind arith

-- ---- calls and marks

module _ {C R I S : Type 0} (meaning : Meaning C R I S) (form : StrForm) where
  abbrev Sound : Standing → S → ℕ → Type 0
  Sound s content copied = IsSound s

  pub manned-step : (machine : Machine S) (by : ConnId) (asked : Ask C) → IsManned machine.shell
      → IsManned (step meaning form machine by asked).machine.shell
  manned-step machine by asked manned =
      let sound : IsSound (standing_of machine.shell) = sound_of machine.shell manned in
      manned_of (step meaning form machine by asked).machine.shell
      (grind (arith, length-conns-step)) (kept-call meaning form Sound machine manned.places sound (sound-move form
      (room_of meaning form machine) (standing_of machine.shell) sound) sound (λ by command accepted. sound) by asked)

  pub manned-loss : (machine : Machine S) (cf : CfId) → IsManned machine.shell
      → IsManned (loss_step meaning form machine cf).machine.shell
  manned-loss machine cf manned =
      grind (arith, IsSound, standing_of, sound_of, manned_of, conns-loss, kept-mark, sound-move)

  pub manned-opening : IsManned (opening meaning form).shell
  manned-opening = record {
    places = length-conns-replay meaning form [];
    members = tt;
    placed = tt;
    primary = λ somebody unfailed. absurd (nobody_active no_connections defined_count-unconnected somebody);
    paired = grind arith;
    bare = λ failed. absurd (cc);
  }

  -- what each call and each mark keeps of such a machine, a history keeps
  module _ (P : Machine S → Type 0) (step : (machine : Machine S) (by : ConnId) (told : What C)
      → IsManned machine.shell → P machine → P (after_what meaning form machine by told)) where
    kept_fold : (machine : Machine S) (entries : List (Entry C R)) → IsManned machine.shell → P machine
        → IsManned (fold (machine_after meaning form) machine entries).shell
        × P (fold (machine_after meaning form) machine entries)
    kept_fold machine [] manned is = (manned, is)
    kept_fold machine (entry ∷ entries) manned is = kept_fold (machine_after meaning form machine entry)
        entries (grind (arith, manned-step, manned-loss)) (step machine entry.by entry.what manned is)

    pub kept-manned : (history : List (Entry C R)) → P (opening meaning form)
        → IsManned (replay meaning form history).shell × P (replay meaning form history)
    kept-manned history is = kept_fold (opening meaning form) history manned-opening is

  pub manned-replay : (history : List (Entry C R)) → IsManned (replay meaning form history).shell
  manned-replay history = (kept-manned (λ machine. Unit {0}) (λ machine by told manned is. is) history tt).0

-- ---- who waits

-- the members of a rebuild under way are those active, and there are some
pub manned-members : (shell : Shell) (rebuild : Rebuild) → IsManned shell → shell.rebuild ≡ Some rebuild
    → HasMembers (Some rebuild) (actives shell.conns)
manned-members shell rebuild manned is = grind arith

-- all connectors' content commands are refused then
pub content_waits : (shell : Shell) (rebuild : Rebuild) (by : ConnId) → IsManned shell → shell.rebuild ≡ Some rebuild
    → is_held_up rebuild.stage true ≡ true → content_cause shell by ≢ None
content_waits shell rebuild by manned is held =
    grind (arith, manned-members, active_of, first_none, active_member, fourth_none)
