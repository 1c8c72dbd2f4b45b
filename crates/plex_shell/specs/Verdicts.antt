-- What is to be done with a call, and what a command brings to the content.
use Rattle.std.specs.Prelude.{Bool, List, [], ◌∷◌, Option, None, Some}
use Rattle.cf_types.specs.declared.forms.StrForm.{StrForm}
use Rattle.cf_types.specs.declared.numbers.CfId.{CfId}
use Rattle.cf_types.specs.declared.numbers.ConnId.{ConnId}
use Rattle.cf_types.specs.declared.refusals.Refusal.{Refusal}
use Rattle.cf_types.specs.declared.shell_commands.ShellCmd.{ShellCmd}
use Rattle.cf_types.specs.declared.shell_commands.ShellCmd.TheVariants as cmd
use Rattle.engine_api.specs.declared.asks.Ask.{Ask}
use Rattle.engine_api.specs.declared.asks.Ask.TheVariants as ask
use Rattle.engine_api.specs.declared.deeds.Room.{Room}
use Rattle.engine_api.specs.Rebuilds.{fresh_of, is_copy}
use Rattle.engine_api.specs.Shell.{Shell, Leaver, shell_cause, content_cause, unless_rebuilding, unless_in, if_severed}
use Rattle.plex_shell.specs.declared.verdicts.Verdict.{Verdict}
use Rattle.plex_shell.specs.declared.verdicts.Verdict.TheVariants.{Refuse, Content, Copy, Act}

-- refused for the first cause, or else for who does it
abbrev pub refused_or : Option Refusal → Verdict → Verdict
refused_or None verdict = verdict
refused_or (Some refusal) verdict = Refuse refusal

-- who does a common command: COPY is done where the instances are
abbrev pub doer_of : ShellCmd → Verdict
doer_of (cmd.Copy n) = Copy
doer_of _ = Act

abbrev pub verdict : {C : Type 0} → StrForm → Room → Shell → ConnId → Ask C → Verdict
verdict form room shell by (ask.Shell command) = refused_or (shell_cause form room shell by command) (doer_of command)
verdict form room shell by (ask.Content command) = refused_or (content_cause shell by) Content

-- who departs from the content, and whether the interests that outlive a failure stay
abbrev pub leaver_pair : Option Leaver → Option (ConnId × Bool)
leaver_pair None = None
leaver_pair (Some leaver) = Some (leaver.conn, leaver.keep)

-- the facilities of the primary, of the secondary, and of a rebuild's new instance
abbrev pub instances_of : Shell → Option CfId × Option CfId × Option CfId
instances_of shell = (shell.instances.primary, shell.instances.secondary, fresh_of shell.rebuild)

-- why COPY of a structure that stands is refused: the rebuild isn't there or not in COPY, or an instance is out of reach
abbrev pub copying_causes : Shell → ConnId → List (Option Refusal)
copying_causes shell by =
    unless_rebuilding shell.rebuild ∷ unless_in is_copy shell.rebuild
    ∷ if_severed shell by shell.instances.primary ∷ if_severed shell by (fresh_of shell.rebuild) ∷ []
