-- What a lost facility makes of shell and instances.
use Rattle.struct_machine.proofs.Imports.{arith, ◌≡◌, true, false, Some, refl, sym, ap, ◌∙◌, subst, is_some, StrForm, CfId, Deeds, Machine, Meaning, Shell, ShellOutcome, loss_outcome, mark_outcome, no_deeds, reply_as, ShellView, LostAs, fresh_caps, IsManned, capacities-loss, filled-loss, loss-cases, manned-loss, rebuild-loss, is_failure, Kept, at_left, AreOf, IsOf, machine_of, caps_of, IsEnding, kept_without, lost_at}
use Rattle.struct_machine.proofs.KeptLaws.{of_equal}
use Rattle.struct_machine.proofs.InstanceLaws.{IsPlacing, IsDropping, loss_places, mark_told}

-- the deeds of a loss that is told so
abbrev deeds_as : LostAs → CfId → Deeds
deeds_as (LostAs.Simplex left) cf = record no_deeds { drop_at = Some cf }
deeds_as (LostAs.Stopped number) cf = record no_deeds { drop_fresh = true }
deeds_as LostAs.FailedNow cf = record no_deeds { drop_all = true }

module _ {C R I S : Type 0} (meaning : Meaning C R I S) (shelled : ShellView) (kept : Kept S)
    (of : AreOf meaning shelled kept) (cf : CfId) (how : LostAs)
    (tells : reply_as how ≡ (mark_outcome shelled.form cf shelled.shell).reply) where
  abbrev form : StrForm
  form = shelled.form

  abbrev machine : Machine S
  machine = machine_of meaning shelled kept

  abbrev acted : ShellOutcome
  acted = mark_outcome form cf shelled.shell

  deeds_so : acted.deeds ≡ deeds_as how cf
  deeds_so = grind (arith, loss-cases)

  placing : IsPlacing shelled.shell (loss_outcome form cf shelled.shell)
  placing = loss_places form cf shelled.shell shelled.shell of.manned.paired refl

  pub ending : IsEnding how cf kept
  ending = grind (arith, IsDropping)

  -- the machine is the one behind the mark
  pub lost_same : (now : ShellView) (after : Kept S) → now.form ≡ shelled.form → now.shell ≡ acted.shell
      → after ≡ kept_without how cf kept → machine_of meaning now after ≡ lost_at meaning shelled.form machine cf
  lost_same now after same came ends = grind (arith, deeds_so)

  pub kept_lost : (now : ShellView) (after : Kept S) → now.form ≡ shelled.form → now.shell ≡ acted.shell →
      after ≡ kept_without how cf kept → is_some after.held ≡ is_some after.at.primary → AreOf meaning now after
  kept_lost now after same came ends stands = of_equal meaning form now after same (record {
    formed = of.formed;
    places = ap (λ (k : Kept S). k.at) ends ∙ places_so how deeds_so ∙ sym (ap (λ (s : Shell). s.instances) came);
    held = grind (arith, held_so, deeds_so);
    fresh = grind (arith, fresh_so, deeds_so);
    fresh_at = grind (arith, rebuild-loss, mark_told);
    stands = stands;
    manned = subst IsManned (sym came) (manned-loss meaning form machine cf of.manned);
    filled = grind (arith, lost_same (record now { form = form }) after refl came ends, filled-loss);
  })
    where
      places_so : (how : LostAs) → acted.deeds ≡ deeds_as how cf → (kept_without how cf kept).at ≡ acted.shell.instances
      places_so (LostAs.Simplex left) is = ap (at_left cf) of.places ∙ sym (placing.places ∙ rw is refl)
      places_so (LostAs.Stopped number) is = of.places ∙ sym (placing.places ∙ rw is refl)
      places_so LostAs.FailedNow is = sym (placing.places ∙ rw is refl)

      held_so : (how : LostAs) → acted.deeds ≡ deeds_as how cf
          → IsOf meaning form acted.shell.caps (kept_without how cf kept).held
      held_so LostAs.FailedNow is = tt
      held_so how is = grind (arith, capacities-loss)

      fresh_so : (how : LostAs) → acted.deeds ≡ deeds_as how cf
          → caps_of (kept_without how cf kept).fresh ≡ fresh_caps acted.shell.rebuild
      fresh_so (LostAs.Simplex left) is = of.fresh ∙ sym ((capacities-loss form cf shelled.shell).1 ∙ rw is refl)
      fresh_so how is = sym ((capacities-loss form cf shelled.shell).1 ∙ rw is refl)

  -- where the structure doesn't fail, the content stays
  pub held_lost : (after : Kept S) → after ≡ kept_without how cf kept → is_failure how ≡ false → after.held ≡ kept.held
  held_lost after ends fine = grind arith
