-- What of a structure's form its content goes by.
use Rattle.cf_types.specs.declared.forms.StrForm.{StrForm}
use Rattle.engine_api.specs.declared.shapes.Shape.{Shape}

abbrev pub shape_of : StrForm → Shape
shape_of form = record { kind = form.kind; caps = form.caps; conns = form.conns; vector = form.vector }
