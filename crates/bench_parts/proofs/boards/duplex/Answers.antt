use Rattle.plex_board.specs.CfTypes.declared.shell_commands.ShellCmd.TheVariants as cmd
use Rattle.plex_board.specs.EngineApi.declared.asks.Ask.TheVariants as ask
use Rattle.bench_parts.proofs.SeatLaws.{pool-asked}
use Rattle.bench_parts.proofs.boards.duplex.Goals as goal

pub call-requires-clause-ask : goal.call-requires-clause-ask
call-requires-clause-ask g c κs within = pool-asked c.args.board.now (ask.Shell cmd.DuplexStart) c.requires.board_is
