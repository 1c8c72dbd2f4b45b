use Rattle.plex_script.proofs.Imports.{rules, sym, ◌∙◌}
use Rattle.plex_script.proofs.CommandLaws.{command-made, none-made}
use Rattle.plex_script.proofs.command_reader.read_command.Goals as goal

pub returns-in-Ok-Some-clause-made : goal.returns-in-Ok-Some-clause-made
returns-in-Ok-Some-clause-made c = grind (rules, command-made)

pub returns-in-Ok-None-clause-not_one : goal.returns-in-Ok-None-clause-not_one
returns-in-Ok-None-clause-not_one c = λ is asked makes.
    none-made c.args.script.now c.args.on c.args.by c.args.text.now
    (sym (c.in-Ok-None.ensures) ∙ c.in-Ok-None.field-0-is) asked makes
