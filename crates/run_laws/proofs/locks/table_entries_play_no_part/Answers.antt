use Rattle.run_laws.proofs.Imports.{refl}
use Rattle.run_laws.proofs.EntryLaws.{step_agrees, replies_agree}
use Rattle.run_laws.proofs.locks.table_entries_play_no_part.Goals as goal

pub returns-clause-step : goal.returns-clause-step
returns-clause-step c = step_agrees

pub returns-clause-replies : goal.returns-clause-replies
returns-clause-replies c = replies_agree

pub returns-clause-leave : goal.returns-clause-leave
returns-clause-leave c = λ one other content conn keep. refl
