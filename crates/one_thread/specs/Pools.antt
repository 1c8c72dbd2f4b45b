-- The form of the structure.
use Rattle.std.specs.Prelude.{◌≡◌}
use Rattle.struct_machine.specs.CfTypes.declared.forms.Kind.TheVariants as kind
use Rattle.struct_machine.specs.CfTypes.declared.forms.StrForm.{StrForm}
use Rattle.struct_machine.specs.CfTypes.Forms.{IsForm}

pub record IsPoolForm (form : StrForm) : Type 0 where
  pub formed : IsForm form
  pub kind_is : form.kind ≡ kind.Cache
