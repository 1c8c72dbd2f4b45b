use Rattle.run_laws.proofs.Readings.{only_reading}
use Rattle.run_laws.proofs.report.only_reading.Goals as goal

pub returns : goal.returns
returns c = only_reading
