-- A shell and instances of one form.
use Rattle.struct_machine.proofs.Imports.{CfId, Mailboxes, Machine, IsFilled, ◌≡◌, true, List, Option, None, Result, option_map, inl, refl, sym, ap, ◌∙◌, subst, arith, is_some, Letter, StrForm, ConnId, Instances, CallOutcome, content_done, content_reply, Meaning, Held, Answer, answer, fresh_of, Shell, opening_shell, content_cause, if_failed, if_lost, unless_active, with_posted, letters_by, ShellView, Fresh, Rebuild, actives, IsForm, Refusal, fresh_caps, IsManned, none_fresh_then, not_so, third_none, manned-opening, active_member, active_of, first_none, somebody_member, Kept, nothing_kept, lacking_in, AreOf, machine_of, room_in, caps_of}

-- ---- letters, and what was told of a loss: the laws of rebuilds speak of neither

abbrev pub told_with : Mailboxes → Option CfId → Shell → Shell
told_with mail lost shell = record shell { mail = mail; lost = lost }

pub manned-told : (mail : Mailboxes) (lost : Option CfId) (shell : Shell) → IsManned shell
    → IsManned (told_with mail lost shell)
manned-told mail lost shell manned = grind arith

pub filled-told : {C R I S : Type 0} (meaning : Meaning C R I S) (form : StrForm) (mail : Mailboxes)
    (lost : Option CfId) (machine : Machine S) → IsFilled meaning form machine
    → IsFilled meaning form (record machine { shell = told_with mail lost machine.shell })
filled-told meaning form mail lost machine filled = record { filling = filled.filling; within = filled.within }

-- ---- where a new instance stands

pub caps_none : (fresh : Option Fresh) → caps_of fresh ≡ None → fresh ≡ None
caps_none fresh none = grind arith

pub same_standing : (fresh : Option Fresh) (rebuild : Option Rebuild) → caps_of fresh ≡ fresh_caps rebuild
    → is_some fresh ≡ is_some (fresh_of rebuild)
same_standing fresh rebuild same = grind arith

-- ---- a primary stands

-- and where a command on the content is accepted
pub content_stands : (shell : Shell) (by : ConnId) → IsManned shell → content_cause shell by ≡ None
    → is_some shell.instances.primary ≡ true
content_stands shell by manned accepted = manned.primary (somebody_member
    by (actives shell.conns) (grind (arith, active_member, active_of, first_none))) (not_so shell.failed
    Refusal.StructureFailed (third_none (unless_active shell by) (if_lost shell) (if_failed shell) _ accepted))

module _ {C R I S : Type 0} (meaning : Meaning C R I S) (shelled : ShellView) (kept : Kept S)
    (of : AreOf meaning shelled kept) where
  pub fresh_none : fresh_of shelled.shell.rebuild ≡ None → kept.fresh ≡ None
  fresh_none none = grind (arith, caps_none)

  pub fresh_stands : is_some (fresh_of shelled.shell.rebuild) ≡ true → is_some kept.fresh ≡ true
  fresh_stands stands = same_standing kept.fresh shelled.shell.rebuild of.fresh ∙ stands

  pub held_stands : is_some shelled.shell.instances.primary ≡ true → is_some kept.held ≡ true
  held_stands stands = of.stands ∙ ap (λ (at : Instances). is_some at.primary) of.places ∙ stands

  -- a rebuild has a primary
  pub rebuild_held : is_some shelled.shell.rebuild ≡ true → is_some kept.held ≡ true
  rebuild_held under = grind (arith, held_stands)

  pub fresh_under : is_some (fresh_of shelled.shell.rebuild) ≡ true → is_some shelled.shell.rebuild ≡ true
  fresh_under stands = grind arith

  pub room_left : lacking_in meaning kept.held kept.fresh ≡ (room_in meaning shelled kept).left
  room_left = grind (arith, rebuild_held, fresh_under, same_standing)

  -- no new instance stands where a command on the content is accepted, and a primary does
  pub content_alone : (by : ConnId) → content_cause shelled.shell by ≡ None → kept.fresh ≡ None
  content_alone by accepted = fresh_none (none_fresh_then shelled.shell by of.manned accepted)

-- what is of one form is of an equal one
pub of_equal : {C R I S : Type 0} (meaning : Meaning C R I S) (form : StrForm) (shelled : ShellView) (kept : Kept S)
    → shelled.form ≡ form → AreOf meaning (record shelled { form = form }) kept → AreOf meaning shelled kept
of_equal meaning form shelled kept same of =
    subst (λ (f : StrForm). AreOf meaning (record shelled { form = f }) kept) (sym same) of

-- ---- after a command on the content, and the letters that it sent

module _ {C R I S : Type 0} (meaning : Meaning C R I S) where
  -- what the instances hold then, and the reply
  abbrev pub IsAnswered : ConnId → C → Result R Refusal → (was now : Option (Held S)) → Type 0
  IsAnswered by command reply was now = Path (Option (Answer R S))
      (option_map (λ (held : Held S). (let a : Answer R S = record { reply = reply; held = held } in a)) now)
      (option_map (λ (held : Held S). answer meaning held by command) was)

  pub answered_some : (by : ConnId) (command : C) (reply : Result R Refusal) (was now : Option (Held S))
      → IsAnswered by command reply was now → is_some now ≡ is_some was
  answered_some by command reply was now is = grind arith

  pub kept_content : (shelled now : ShellView) (kept after : Kept S) (letters : List Letter) (by : ConnId)
      (command : C) (reply : Result R Refusal) → AreOf meaning shelled kept → now.form ≡ shelled.form
      → now.shell ≡ with_posted letters shelled.shell → IsAnswered by command reply kept.held after.held
      → after.at ≡ kept.at → kept.fresh ≡ None → after.fresh ≡ None → AreOf meaning now after
  kept_content shelled now kept after letters by command reply of same posted is at alone none =
      grind (arith, answered_some, manned-told)

  -- the call's outcome is the machine's
  pub content_same : (shelled now : ShellView) (kept after : Kept S) (letters : List Letter) (by : ConnId)
      (command : C) (reply : Result R Refusal) → AreOf meaning shelled kept → is_some kept.held ≡ true
      → now.form ≡ shelled.form → now.shell ≡ with_posted letters shelled.shell → letters ≡ letters_by meaning by command kept.held
      → IsAnswered by command reply kept.held after.held → kept.fresh ≡ None → after.fresh ≡ None
      → Path (CallOutcome R S) (record { reply = content_reply reply; machine = machine_of meaning now after })
      (content_done meaning shelled.form (machine_of meaning shelled kept) by command)
  content_same shelled now kept after letters by command reply of stands same posted sent is alone none = grind arith

  -- before the first call
  pub kept_opening : (shelled : ShellView) (kept : Kept S) → IsForm shelled.form
      → shelled.shell ≡ opening_shell shelled.form → kept ≡ nothing_kept → AreOf meaning shelled kept
  kept_opening shelled kept formed opens nothing = subst (AreOf meaning shelled) (sym nothing) (record {
    formed = formed;
    places = sym (ap (λ (shell : Shell). shell.instances) opens);
    held = tt;
    fresh = rw opens refl;
    fresh_at = rw opens tt;
    stands = refl;
    manned = subst IsManned (sym opens) (manned-opening meaning shelled.form);
    filled = record { filling = inl refl; within = omega arith };
  })
