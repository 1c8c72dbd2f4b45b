-- The words of the commands that structures of every kind share.
use Rattle.std.specs.Prelude.{ℕ, ◌==◌, Bool, true, not, List, [], ◌∷◌, codes}
use Rattle.cf_types.specs.declared.limits.TheConstants.{CAPACITY}
use Rattle.cf_types.specs.declared.numbers.ConnId.{ConnId}
use Rattle.cf_types.specs.declared.shell_commands.ShellCmd.{ShellCmd}
use Rattle.cf_types.specs.declared.shell_commands.ShellCmd.TheVariants.{Connect, Disconnect, Fail, Next, Respond, RebuildStart, RebuildStop, RebuildConnect, Copy, RebuildComplete, ForceConn, ForceStr, LoseConn, RestoreConn, Vary, DuplexStart, DuplexStop}
use Rattle.plex_spell.specs.Tokens.{Token}
use Rattle.plex_spell.specs.Tokens.Token.{Literal, Number, OfFacility, OfConnector}
use Rattle.plex_spell.specs.Fields.{one_of_two, disposition}

-- of entries, elements, records and items there are as many as a capacity has, from 1 on
abbrev pub amount : ℕ → Token
amount n = Number 1 CAPACITY n

abbrev pub shell_tokens : ShellCmd → List Token
shell_tokens (Connect keep) = Literal (codes "CONNECT") ∷ disposition keep ∷ []
shell_tokens Disconnect = Literal (codes "DISCONNECT") ∷ []
shell_tokens Fail = Literal (codes "FAIL") ∷ []
shell_tokens Next = Literal (codes "NEXT") ∷ []
shell_tokens Respond = Literal (codes "RESPOND") ∷ []
shell_tokens (RebuildStart caps) = Literal (codes "REBUILD") ∷ Literal (codes "START") ∷ amount caps.entries ∷ amount
    caps.elements ∷ []
shell_tokens RebuildStop = Literal (codes "REBUILD") ∷ Literal (codes "STOP") ∷ []
shell_tokens RebuildConnect = Literal (codes "REBUILD") ∷ Literal (codes "CONNECT") ∷ []
shell_tokens (Copy n) = Literal (codes "COPY") ∷ amount n ∷ []
shell_tokens RebuildComplete = Literal (codes "REBUILD") ∷ Literal (codes "COMPLETE") ∷ []
shell_tokens (ForceConn conn) = Literal (codes "FORCECONN") ∷ OfConnector conn ∷ []
shell_tokens ForceStr = Literal (codes "FORCESTR") ∷ []
shell_tokens (LoseConn conn cf) = Literal (codes "LOSECONN") ∷ OfConnector conn ∷ OfFacility cf ∷ []
shell_tokens (RestoreConn conn cf) = Literal (codes "RESTORECONN") ∷ OfConnector conn ∷ OfFacility cf ∷ []
shell_tokens (Vary cf off) = Literal (codes "VARY") ∷ OfFacility cf ∷ one_of_two (codes "OFF") (codes "ON") off ∷ []
shell_tokens DuplexStart = Literal (codes "DUPLEX") ∷ Literal (codes "START") ∷ []
shell_tokens DuplexStop = Literal (codes "DUPLEX") ∷ Literal (codes "STOP") ∷ []

-- the operator is caller 0
abbrev pub is_operator : ConnId → Bool
is_operator by = by.0 == 0

-- connectors give the commands up to COMPLETE of a rebuild, the operator the others; both start and stop rebuilds
abbrev pub may_give : ConnId → ShellCmd → Bool
may_give by (Connect keep) = not (is_operator by)
may_give by Disconnect = not (is_operator by)
may_give by Fail = not (is_operator by)
may_give by Next = not (is_operator by)
may_give by Respond = not (is_operator by)
may_give by (RebuildStart caps) = true
may_give by RebuildStop = true
may_give by RebuildConnect = not (is_operator by)
may_give by (Copy n) = not (is_operator by)
may_give by RebuildComplete = not (is_operator by)
may_give by (ForceConn conn) = is_operator by
may_give by ForceStr = is_operator by
may_give by (LoseConn conn cf) = is_operator by
may_give by (RestoreConn conn cf) = is_operator by
may_give by (Vary cf off) = is_operator by
may_give by DuplexStart = is_operator by
may_give by DuplexStop = is_operator by
