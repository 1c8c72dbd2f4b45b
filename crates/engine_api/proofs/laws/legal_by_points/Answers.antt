use Rattle.engine_api.proofs.PointLaws.{points_from_legal, legal_from_points}
use Rattle.engine_api.proofs.laws.legal_by_points.Goals as goal

pub returns : goal.returns
returns g c = (
  points_from_legal g.E.Engine.meaning c.args.form.now c.args.history.now,
  legal_from_points g.E.Engine.meaning c.args.form.now c.args.history.now,
)
