-- The form of a cache structure.
use Rattle.std.specs.Prelude.{◌≡◌}
use Rattle.plex_board.specs.CfTypes.declared.forms.Kind.TheVariants as kind
use Rattle.plex_board.specs.CfTypes.declared.forms.StrForm.{StrForm}
use Rattle.plex_board.specs.CfTypes.Forms.{IsForm}

pub record IsCacheForm (form : StrForm) : Type 0 where
  pub formed : IsForm form
  pub kind_is : form.kind ≡ kind.Cache
