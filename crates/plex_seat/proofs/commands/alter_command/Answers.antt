-- What the text says is what was read, where no word is left.
use Rattle.std.specs.Prelude.{◌≡◌, Err}
use Rattle.std.proofs.Common.{rules}
use Rattle.plex_report.specs.PlexSpell.AlterReading.{alter_at}
use Rattle.plex_report.specs.PlexSpell.Places.{names_of}
use Rattle.plex_seat.proofs.CommandLaws.{said-whole, said-in_part, said-missed}
use Rattle.plex_seat.proofs.commands.alter_command.Goals as goal

pub returns-in_err-cmd : goal.returns-in_err-cmd
returns-in_err-cmd c =
    let same : c.from_residual.result ≡ Err c.in_err-cmd.field-0.0 = search (rules, c.from_residual.ensures) in
    rw same (said-missed alter_at c.args.script.now c.args.text.now c.judge.result.rigour
    (names_of c.judge.result) c.of-words.result c.judge.ensures.rigour c.judge.ensures.declared c.of-words.ensures
    c.in_err-cmd.field-0.0 c.alter.new.words c.in_err-cmd.ensures)

pub returns-then-is_done : goal.returns-then-is_done
returns-then-is_done c = said-whole alter_at c.args.script.now c.args.text.now c.judge.result.rigour
    (names_of c.judge.result) c.of-words.result c.judge.ensures.rigour c.judge.ensures.declared c.of-words.ensures
    c.in_ok-cmd.cmd c.alter.new.words c.in_ok-cmd.ensures (c.if-is_done.ensures.0 (search rules))

pub returns-else-is_done : goal.returns-else-is_done
returns-else-is_done c = said-in_part alter_at c.args.script.now c.args.text.now c.judge.result.rigour
    (names_of c.judge.result) c.of-words.result c.judge.ensures.rigour c.judge.ensures.declared c.of-words.ensures
    c.in_ok-cmd.cmd c.alter.new.words c.in_ok-cmd.ensures c.if-is_done.ensures.1
