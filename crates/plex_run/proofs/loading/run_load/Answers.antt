use Rattle.plex_run.proofs.Imports.{IfOk-weaker}
use Rattle.plex_run.proofs.LoadRunLaws.{load_runnable, load_run}
use Rattle.plex_run.proofs.loading.run_load.Goals as goal

pub run_over-requires-clause-script : goal.run_over-requires-clause-script
run_over-requires-clause-script g c κs within = load_runnable c.in_ok-script.script c.in_ok-script.ensures.load

pub returns-clause-run : goal.returns-clause-run
returns-clause-run g c = IfOk-weaker c.run_over.result _ _ (λ it run. load_run c.args.n c.valid_is_fresh.ensures
    c.within_script.ensures c.in_ok-script.ensures.script c.in_ok-script.ensures.load run) c.run_over.ensures.run
