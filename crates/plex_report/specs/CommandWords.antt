-- The words of commands, under the names of a script.
use Rattle.std.specs.Prelude.{ℕ, List}
use Rattle.plex_script.specs.CfTypes.declared.shell_commands.ShellCmd.{ShellCmd}
use Rattle.plex_script.specs.CfTypes.declared.alter_commands.AlterCmd.{AlterCmd}
use Rattle.plex_script.specs.CfTypes.declared.cache_commands.CacheCmd.{CacheCmd}
use Rattle.plex_script.specs.CfTypes.declared.list_commands.QueueCmd.{QueueCmd}
use Rattle.plex_script.specs.CfTypes.declared.lock_commands.LockCmd.{LockCmd}
use Rattle.plex_script.specs.EngineApi.declared.asks.Ask.{Ask}
use Rattle.plex_script.specs.EngineApi.declared.asks.Ask.TheVariants as ask
use Rattle.plex_script.specs.PlexPlain.PlainWords as plain
use Rattle.plex_script.specs.declared.scripts.Script.{Script}

abbrev pub shell_words : Script → ShellCmd → List (List ℕ)
shell_words script cmd = plain.shell_words script.connectors cmd

abbrev pub alter_words : Script → AlterCmd CacheCmd → List (List ℕ)
alter_words script cmd = plain.alter_words cmd

abbrev pub queue_words : Script → QueueCmd → List (List ℕ)
queue_words script cmd = plain.queue_words cmd

abbrev pub lock_words : Script → LockCmd → List (List ℕ)
lock_words script cmd = plain.lock_words script.connectors cmd

-- a common command, or one on the content
abbrev pub ask_words : {C : Type 0} → (Script → C → List (List ℕ)) → Script → Ask C → List (List ℕ)
ask_words cmd_words script (ask.Shell cmd) = shell_words script cmd
ask_words cmd_words script (ask.Content cmd) = cmd_words script cmd
