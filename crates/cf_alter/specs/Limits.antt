-- Limits, and what there is.
use Rattle.cf_types.specs.declared.forms.StrForm.{StrForm}
use Rattle.engine_api.specs.Instances.{units_of}
use Rattle.engine_api.specs.Items.{Fits}
use Rattle.engine_api.specs.Machine.{Machine}
use Rattle.engine_api.specs.Meaning.{Meaning}
use Rattle.engine_api.specs.Shapes.{shape_of}
use Rattle.alter_model.specs.declared.contents.AlterContent.{AlterContent}
use Rattle.alter_model.specs.Meaning.{caps_or, IsWithin, need_of}

-- neither the limits nor the target take more units than the capacity, and the content's need is within the limits
pub record IsLimited {C R I S : Type 0} (meaning : Meaning C R I S) (form : StrForm)
    (machine : Machine (AlterContent S)) : Type 0 where
  pub limits : IsWithin (units_of machine.shell.caps) machine.content.limits
  pub target : IsWithin (units_of machine.shell.caps) machine.content.target
  pub need : Fits form.kind (need_of meaning (shape_of form) machine.content)
      (caps_or machine.content.limits machine.shell.caps)
