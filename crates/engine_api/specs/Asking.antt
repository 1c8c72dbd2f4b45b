-- Who may ask what of a structure.
use Rattle.std.specs.Prelude.{◌≡◌, ◌≤◌}
use Rattle.cf_types.specs.declared.limits.TheConstants.{COPY_ITEMS}
use Rattle.cf_types.specs.declared.numbers.ConnId.{ConnId}
use Rattle.cf_types.specs.declared.shell_commands.ShellCmd.{ShellCmd}
use Rattle.cf_types.specs.declared.shell_commands.ShellCmd.TheVariants as cmd
use Rattle.cf_types.specs.Forms.{IsConnector, IsCaller, IsFacility, IsCapacity}
use Rattle.engine_api.specs.declared.asks.Ask.{Ask}
use Rattle.engine_api.specs.declared.asks.Ask.TheVariants as ask

abbrev pub IsOperator : ConnId → Type 0
IsOperator conn = conn.0 ≡ 0

-- who may give a common command, and which numbers it may name. The operator's NEXT and RESPOND are asked too, and
-- refused
abbrev pub MayCommand : ConnId → ShellCmd → Type 0
MayCommand by (cmd.Connect keep) = IsConnector by
MayCommand by cmd.Disconnect = IsConnector by
MayCommand by cmd.Fail = IsConnector by
MayCommand by cmd.Next = IsCaller by
MayCommand by cmd.Respond = IsCaller by
MayCommand by (cmd.RebuildStart caps) = IsCaller by × IsCapacity caps
MayCommand by cmd.RebuildStop = IsCaller by
MayCommand by cmd.RebuildConnect = IsConnector by
MayCommand by (cmd.Copy n) = IsConnector by × (1 ≤ n) × (n ≤ COPY_ITEMS)
MayCommand by cmd.RebuildComplete = IsConnector by
MayCommand by (cmd.ForceConn other) = IsOperator by × IsConnector other
MayCommand by cmd.ForceStr = IsOperator by
MayCommand by (cmd.LoseConn other cf) = IsOperator by × IsConnector other × IsFacility cf
MayCommand by (cmd.RestoreConn other cf) = IsOperator by × IsConnector other × IsFacility cf
MayCommand by (cmd.Vary cf off) = IsOperator by × IsFacility cf
MayCommand by cmd.DuplexStart = IsOperator by
MayCommand by cmd.DuplexStop = IsOperator by

-- who may ask what: connectors alone ask for commands on the content
abbrev pub MayAsk : {C : Type 0} → ConnId → Ask C → Type 0
MayAsk by (ask.Shell command) = MayCommand by command
MayAsk by (ask.Content command) = IsConnector by
