-- What becomes of a structure that loses an instance.
use Rattle.std.specs.Prelude.{Bool, true, false}
use Rattle.cf_types.specs.declared.shell_commands.ShellReply.{ShellReply}
use Rattle.cf_types.specs.declared.shell_commands.ShellReply.TheVariants as reply
use Rattle.plex_shell.specs.declared.lost_as.LostAs.{LostAs}
use Rattle.plex_shell.specs.declared.lost_as.LostAs.TheVariants.{Simplex, Stopped, FailedNow}

-- as a journal tells it
abbrev pub reply_as : LostAs → ShellReply
reply_as (Simplex cf) = reply.Simplex cf
reply_as (Stopped number) = reply.Stopped number
reply_as FailedNow = reply.FailedNow

-- a reply that tells a loss
abbrev pub is_loss : ShellReply → Bool
is_loss (reply.Simplex cf) = true
is_loss (reply.Stopped number) = true
is_loss reply.FailedNow = true
is_loss _ = false
