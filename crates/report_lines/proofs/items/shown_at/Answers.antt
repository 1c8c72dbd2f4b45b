use Rattle.std.proofs.Common.{◌∙◌, ap}
use Rattle.cf_types.specs.declared.forms.Kind.{Kind}
use Rattle.line_rows.specs.Rows.{first_of}
use Rattle.report_lines.specs.Items.{behind_forms}
use Rattle.report_lines.proofs.items.shown_at.Goals as goal

pub returns : goal.returns
returns c = c.behind.ensures
    ∙ ap (λ (k : Kind). first_of (behind_forms k c.args.on) c.args.line.now) c.kind_of.ensures
