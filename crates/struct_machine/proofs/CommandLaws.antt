-- A command that isn't refused, done to a shell and to instances of one form.
use Rattle.struct_machine.proofs.Imports.{arith, ◌≡◌, ◌+◌, ◌⊎◌, inl, Bool, true, false, Option, None, Some, IfSome, refl, sym, ap, ◌∙◌, subst, subst₂, is_some, both_ways, false_from_ne_true, Caps, StrForm, CfId, ConnId, Refusal, ShellCmd, Machine, content_after, copied_after, moved_by, room_of, departure_from, command_done, unless, with_entered, entered_machine, CallOutcome, Meaning, Held, Departure, Instances, MayCommand, IsCaller, IsFacility, fresh_of, shape_of, Shell, ShellOutcome, shell_cause, leaver, caps_made, entered, ShellView, Fresh, Kept, AreFitting, caps_behind, fresh_behind, fresh_caps, IsFilled, IsFilling, IsManned, capacities-command, fitting-command, filled-step, departure_empties, forced_empties, manned-step, done, Spares, AreSpares, AreAdmitted, MayMake, MayAdd, fresh_left, kept_past, places_past, makes_second, held_past, HasNone, AreOf, IsOf, machine_of, room_in, bits_in, may_change_bits, Deeds, state_in, left_in, copied_in, caps_of, is_copying, Ask, Reply}
use Rattle.struct_machine.proofs.DeedLaws.{TurnsNone, bits_past, state_past, IsEmptyOf, AreIdle, back_caller, caps_past, copied_past, of_past}
use Rattle.struct_machine.proofs.InstanceLaws.{IsPlacing, IsSeconding, IsDropping, placing_command, facility_behind}
use Rattle.struct_machine.proofs.KeptLaws.{of_equal, manned-told, filled-told, caps_none, fresh_none, fresh_stands, fresh_under, held_stands, rebuild_held, room_left}
use Rattle.struct_machine.proofs.BeforeLaws.{MakesOrSwitches, adds_quietly, making, none_under, same_more, seconding}

-- ---- a command that isn't refused

module _ {C R I S : Type 0} (meaning : Meaning C R I S) (shelled : ShellView) (kept : Kept S)
    (of : AreOf meaning shelled kept) (by : ConnId) (command : ShellCmd)
    (accepted : shell_cause shelled.form (room_in meaning shelled kept) shelled.shell by command ≡ None) where
  abbrev form : StrForm
  form = shelled.form

  abbrev machine : Machine S
  machine = machine_of meaning shelled kept

  abbrev pub gone : Departure S
  gone = departure_from meaning form (leaver shelled.shell by command) machine

  abbrev pub acted : ShellOutcome
  acted = done meaning form machine by command

  abbrev rebuilding : Bool
  rebuilding = is_some shelled.shell.rebuild

  abbrev before : Option Fresh
  before = fresh_left shelled.shell (leaver shelled.shell by command) kept.fresh

  fitting : AreFitting meaning form machine acted.deeds
  fitting = fitting-command meaning form machine by command of.manned accepted

  placing : IsPlacing shelled.shell acted
  placing = placing_command meaning form machine by of.formed of.manned command accepted

  -- none stands before a command's deeds where none stood
  none_before : kept.fresh ≡ None → before ≡ None
  none_before none = grind (arith, caps_none)

  caps_before : caps_of before ≡ fresh_caps shelled.shell.rebuild
  caps_before = grind arith

  -- one that makes an instance, or puts one in the primary's place
  sudden_one : MakesOrSwitches acted.deeds → leaver shelled.shell by command ≡ None
  sudden_one either = grind arith

  state_kept : MakesOrSwitches acted.deeds → gone.state ≡ machine.content
  state_kept either = rw (sudden_one either) refl

  fresh_kept : MakesOrSwitches acted.deeds → before ≡ kept.fresh
  fresh_kept either = rw (sudden_one either) refl

  under_switch : acted.deeds.switch ≡ true → rebuilding ≡ true
  under_switch does = fresh_under meaning shelled kept of (fitting.stands does)

  whole_again : (held : Option (Held S)) → left_in (state_in meaning form held) held ≡ held
  whole_again held = grind arith

  left_some : (state : S) (held : Option (Held S)) → is_some (left_in state held) ≡ is_some held
  left_some state held = grind arith

  left_of : (state : S) (caps : Caps) (held : Option (Held S)) → IsOf meaning form caps held
      → IsOf meaning form caps (left_in state held)
  left_of state caps held of = grind arith

  -- the items in the new instance are those that the machine counts
  copied_behind_it : is_copying command ≡ false → copied_after acted.deeds (copied_in before)
      ≡ copied_after acted.deeds (copied_in kept.fresh + moved_by (room_of meaning form machine) command)
  copied_behind_it other = go command other of.filled.filling
    where
      Goes : ShellCmd → Type 0
      Goes command = is_copying command ≡ false → (copied_in kept.fresh ≡ 0) ⊎ IsFilling shelled.shell.rebuild
          → copied_after (done meaning form machine by command).deeds (copied_in
          (fresh_left shelled.shell (leaver shelled.shell by command) kept.fresh)) ≡ copied_after (done meaning
          form machine by command).deeds (copied_in kept.fresh + moved_by (room_of meaning form machine) command)

      go : (command : ShellCmd) → Goes command
      go ShellCmd.Disconnect other filling = grind (arith, done, departure_empties)
      go ShellCmd.Fail other filling = grind (arith, done, departure_empties)
      go (ShellCmd.Copy n) other filling = absurd (cc)
      go (ShellCmd.ForceConn conn) other filling = grind (arith, done, forced_empties)
      go command other filling = grind (arith, done, same_more)

  -- ---- the laws of rebuilds stay

  pub manned_behind : IsManned acted.shell
  manned_behind = manned-told acted.shell.mail
      acted.shell.lost (entered acted.shell) (subst (λ (cause : Option Refusal). IsManned (with_entered
      (unless meaning form cause machine (command_done meaning form machine by command))).machine.shell)
      accepted (manned-step meaning form machine by (Ask.Shell command) of.manned))

  pub filled_behind : IsFilled meaning form (command_done meaning form machine by command).machine
  filled_behind = filled-told meaning form acted.shell.mail acted.shell.lost (entered_machine
      (command_done meaning form machine by command).machine) (subst (λ (cause : Option Refusal). IsFilled meaning
      form (with_entered (unless meaning form cause machine (command_done meaning form machine by command))).machine)
      accepted (filled-step meaning form machine by (Ask.Shell command) of.manned of.filled))

  -- what came before the command, and the engines that were made for it
  pub record IsLeft (spares : Spares S) (left : Kept S) : Type 0 where
    pub other : is_copying command ≡ false
    pub spared : AreSpares meaning form shelled.shell command kept.held spares
    pub at : left.at ≡ kept.at
    pub held : left.held ≡ left_in gone.state kept.held
    pub fresh : left.fresh ≡ before

  module _ (spares : Spares S) (left : Kept S) (is : IsLeft spares left) where
    at_is : left.at ≡ shelled.shell.instances
    at_is = is.at ∙ of.places

    stands_left : is_some left.held ≡ is_some kept.held
    stands_left = ap is_some is.held ∙ left_some gone.state kept.held

    same_held : gone.state ≡ machine.content → left.held ≡ kept.held
    same_held same = is.held ∙ ap (λ (s : S). left_in s kept.held) same ∙ whole_again kept.held

    of_left : IsOf meaning form shelled.shell.caps left.held
    of_left = grind (arith, left_of)

    empty_made : is_some acted.deeds.make ≡ true → IsEmptyOf meaning form (caps_made shelled.shell) spares.empty
    empty_made some = grind (arith, making)

    may_make : (cf : CfId) → acted.deeds.make ≡ Some cf → MayMake meaning rebuilding left spares.empty cf
    may_make cf makes = record {
      place = subst (λ (o : Option CfId). IfSome o IsFacility) makes placing.facility;
      there = rw made refl;
      new = rw made refl;
      alone = is.fresh ∙ none_before (fresh_none meaning shelled kept of (fitting.alone some));
      bare = λ outside. ap (λ (at : Instances). at.primary) at_is ∙ placing.bare some outside;
      stands = λ under. stands_left ∙ rebuild_held meaning shelled kept of under;
      shape = λ under. rw made (shape_so left.held of_left);
      room = λ under. rw (same_held (state_kept (inl some)), made) (grind (arith, some));
    }
      where
        some : is_some acted.deeds.make ≡ true
        some = ap is_some makes

        made : IsEmptyOf meaning form (caps_made shelled.shell) spares.empty
        made = empty_made some

        shape_so : (held : Option (Held S)) → IsOf meaning form shelled.shell.caps held
            → IfSome held (λ (h : Held S). shape_of form ≡ h.shape)
        shape_so None of = tt
        shape_so (Some held) of = sym of.0

    -- the deeds may be done to the instances as they stand before them
    pub admitted : MayCommand by command
        → AreAdmitted meaning rebuilding acted.deeds (fresh_of shelled.shell.rebuild) spares left
    admitted may = record {
      back = by_back acted.deeds.back refl;
      make = by_make acted.deeds.make refl;
      second = by_second acted.deeds.second refl;
      dropped = grind (arith, IsDropping, at_is);
      switch = λ yes. (
        record {
          stands = grind (arith, fresh_kept, fresh_stands);
          there = fitting.stands yes;
          place = of.fresh_at;
          alone = grind (arith, at_is, none_under {X = CfId}, under_switch);
          filled = grind (arith, same_held, state_kept, fresh_kept, room_left);
        },
        none_under acted.deeds.back shelled.shell.rebuild fitting.back (under_switch yes),
        fitting.unmade yes,
        (placing.switch yes).0,
        (placing.switch yes).1,
        fitting.whole yes,
      );
    }
      where
        callers : IfSome acted.deeds.back IsCaller
        callers = grind (arith, back_caller)

        by_back : (back : Option ConnId) → acted.deeds.back ≡ back
            → IfSome back (λ conn. IsCaller conn × (left.fresh ≡ None) × (rebuilding ≡ false))
        by_back None backs = tt
        by_back (Some conn) backs = grind (arith, callers, none_before, fresh_none)

        by_make : (make : Option CfId) → acted.deeds.make ≡ make
            → IfSome make (MayMake meaning rebuilding left spares.empty)
        by_make None makes = tt
        by_make (Some cf) makes = may_make cf makes

        by_second : (second : Option CfId) → acted.deeds.second ≡ second
            → IfSome second (λ cf. MayAdd left spares.second cf × HasNone acted.deeds.back × HasNone acted.deeds.make)
        by_second None adds = tt
        by_second (Some cf) adds =
            let s : IsSeconding shelled.shell.instances acted.deeds cf = subst (λ (o : Option CfId). IfSome o
            (IsSeconding shelled.shell.instances acted.deeds)) adds placing.second in
            let command_adds : makes_second command ≡ true = grind (arith, seconding) in
            let copied : spares.second ≡ kept.held = is.spared.second command_adds in
            let quiet : gone.state ≡ machine.content = grind (arith, adds_quietly) in (
            grind (arith, stands_left, held_stands, at_is, same_held))

    -- ---- what the deeds leave

    abbrev pub past : Kept S
    past = kept_past meaning rebuilding acted.deeds (fresh_of shelled.shell.rebuild) spares left

    caps_left : caps_of left.fresh ≡ fresh_caps shelled.shell.rebuild
    caps_left = ap caps_of is.fresh ∙ caps_before

    capacities : (acted.shell.caps ≡ caps_behind form shelled.shell acted.deeds)
        × (fresh_caps acted.shell.rebuild ≡ fresh_behind shelled.shell acted.deeds)
    capacities = capacities-command meaning form machine by command of.manned accepted

    idle_without : is_some kept.held ≡ false → AreIdle meaning form (caps_made shelled.shell) spares.empty rebuilding
        acted.deeds
    idle_without none = grind (arith, false_from_ne_true, both_ways, rebuild_held, under_switch)

    empty_without : is_some kept.held ≡ false → gone.state ≡ meaning.empty (shape_of form)
    empty_without none = grind arith

    -- the items in the new instance are those that the machine counts
    copied_so : copied_in past.fresh
        ≡ copied_after acted.deeds (copied_in kept.fresh + moved_by (room_of meaning form machine) command)
    copied_so = copied_past meaning form (caps_made shelled.shell) spares.empty rebuilding acted.deeds left.fresh
        (λ some. is.fresh ∙ none_before (fresh_none meaning shelled kept of (fitting.alone some))) empty_made
        ∙ ap (λ (f : Option Fresh). copied_after acted.deeds (copied_in f)) is.fresh ∙ copied_behind_it is.other

    -- so the call's outcome is the machine's
    pub command_same : (after : ShellOutcome) (f : StrForm) (now : Kept S) → after ≡ acted → f ≡ shelled.form
        → now ≡ past → record {
          reply = Reply.Shell after.reply;
          machine = record {
            shell = after.shell;
            content = state_in meaning f now.held;
            copied = copied_in now.fresh;
          };
        } ≡ command_done meaning form machine by command
    command_same after f now acts same does = grind (arith, told, counted)
      where
        told : state_in meaning form now.held ≡ content_after meaning form rebuilding acted.deeds gone.state
        told = ap (λ (k : Kept S). state_in meaning form k.held) does ∙ ap (λ (o : Option (Held S)). state_in meaning
            form (held_past meaning rebuilding acted.deeds spares.empty left.fresh o)) is.held
            ∙ state_past meaning form (caps_made shelled.shell)
            spares.empty rebuilding acted.deeds left.fresh kept.held gone.state empty_made empty_without idle_without

        counted : copied_in now.fresh
            ≡ copied_after acted.deeds (copied_in kept.fresh + moved_by (room_of meaning form machine) command)
        counted = ap (λ (k : Kept S). copied_in k.fresh) does ∙ copied_so

    pub kept_behind : (after : ShellOutcome) (view : ShellView) (now : Kept S) → after ≡ acted → now ≡ past → is_some
        now.held ≡ is_some now.at.primary → view.form ≡ shelled.form → view.shell ≡ after.shell → AreOf meaning view now
    kept_behind after view now acts does stands same shell = of_equal meaning form view now same (record {
      formed = of.formed;
      places = ap (λ (k : Kept S). k.at) does ∙ ap (places_past rebuilding acted.deeds
          (fresh_of shelled.shell.rebuild)) at_is ∙ sym placing.places ∙ sym (ap (λ (s : Shell). s.instances) there);
      held = subst₂ (IsOf meaning form)
          (sym capacities.0 ∙ sym (ap (λ (s : Shell). s.caps) there)) (ap (λ (k : Kept S). k.held) (sym does))
          (of_past meaning form (caps_made shelled.shell) spares.empty acted.deeds shelled.shell left.fresh left.held
          of_left refl empty_made fitting.unmade (grind (arith, caps_left, fresh_kept, fresh_stands)));
      fresh = ap (λ (k : Kept S). caps_of k.fresh) does ∙ caps_past meaning form (caps_made shelled.shell)
          spares.empty acted.deeds shelled.shell left.fresh caps_left refl empty_made ∙ sym capacities.1
          ∙ sym (ap (λ (s : Shell). fresh_caps s.rebuild) there);
      fresh_at = subst (λ (s : Shell). IfSome (fresh_of s.rebuild) IsFacility) (sym there)
          (facility_behind meaning form machine by of.formed of.manned command accepted of.fresh_at);
      stands = stands;
      manned = subst IsManned (sym there) manned_behind;
      filled = subst (λ (s : Shell). IsFilled meaning form (record {
        shell = s;
        content = state_in meaning form now.held;
        copied = copied_in now.fresh;
      })) (sym shell) (subst (λ (outcome : CallOutcome R S). IsFilled
          meaning form outcome.machine) (sym (command_same after form now acts refl does)) filled_behind);
    })
      where
        there : view.shell ≡ acted.shell
        there = shell ∙ ap (λ (outcome : ShellOutcome). outcome.shell) acts

    -- deeds that don't end the primary turn no bit
    pub bits_same : TurnsNone meaning → (deeds : Deeds) (now : Kept S)
        → deeds ≡ acted.deeds → now ≡ past → may_change_bits deeds ≡ false
        → bits_in meaning shelled.form now.held ≡ bits_in meaning shelled.form left.held
    bits_same turns deeds now acts does quiet = ap (λ (k : Kept S). bits_in meaning form k.held) does
        ∙ bits_past meaning form (caps_made shelled.shell) spares.empty turns rebuilding acted.deeds left.fresh left.held
        (subst (λ (d : Deeds). may_change_bits d ≡ false) acts quiet) empty_made bare
      where
        bare : is_some acted.deeds.make ≡ true → rebuilding ≡ false → left.held ≡ None
        bare some outside =
            let none : shelled.shell.instances.primary ≡ None = placing.bare some outside in
            grind (arith, stands_left, of.stands, of.places)

    -- ---- whatever shell acted, and whatever deeds were done

    pub admitted_then : MayCommand by command → (after : ShellOutcome) (under : Bool) (fresh : Option CfId)
        → after ≡ acted → under ≡ rebuilding → fresh ≡ fresh_of shelled.shell.rebuild
        → AreAdmitted meaning under after.deeds fresh spares left
    admitted_then may after under fresh acts of_rebuild of_fresh = grind (arith, admitted)
