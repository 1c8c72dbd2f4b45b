-- The words of the commands of a list structure with event queues.
use Rattle.std.specs.Prelude.{List, [], ◌∷◌, codes}
use Rattle.cf_types.specs.declared.list_commands.QueueCmd.{QueueCmd}
use Rattle.cf_types.specs.declared.list_commands.QueueCmd.TheVariants as queue
use Rattle.plex_spell.specs.Tokens.{Token}
use Rattle.plex_spell.specs.Tokens.Token.{Literal, Term}
use Rattle.plex_spell.specs.Fields.{number}
use Rattle.plex_spell.specs.ListWords.{list_tokens, IsListLine}

abbrev pub queue_tokens : QueueCmd → List Token
queue_tokens (queue.List cmd) = list_tokens cmd
queue_tokens (queue.MonSub header key) =
    Literal (codes "MONSUB") ∷ number header ∷ Literal (codes "KEY") ∷ Term key.0 ∷ []
queue_tokens (queue.UnmonSub header key) =
    Literal (codes "UNMONSUB") ∷ number header ∷ Literal (codes "KEY") ∷ Term key.0 ∷ []
queue_tokens queue.Deq = Literal (codes "DEQ") ∷ []

abbrev pub IsQueueLine : QueueCmd → Type 0
IsQueueLine (queue.List cmd) = IsListLine cmd
IsQueueLine (queue.MonSub header key) = Unit {0}
IsQueueLine (queue.UnmonSub header key) = Unit {0}
IsQueueLine queue.Deq = Unit {0}
