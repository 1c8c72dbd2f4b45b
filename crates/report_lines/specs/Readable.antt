-- Which entries and items the lines of a report may show.
use Rattle.std.specs.Prelude.{◌≡◌, ℕ, ◌≤◌, ◌<◌, ◌^◌, List, length}
use Rattle.cf_types.specs.declared.forms.Kind.{Kind}
use Rattle.cf_types.specs.declared.forms.Kind.TheVariants as kind
use Rattle.cf_types.specs.declared.names.Name16.{Name16}
use Rattle.cf_types.specs.declared.numbers.ConnId.{ConnId}
use Rattle.cf_types.specs.declared.numbers.StrNo.{StrNo}
use Rattle.cf_types.specs.declared.shell_commands.ShellReply.{ShellReply}
use Rattle.cf_types.specs.declared.shell_commands.ShellReply.TheVariants as shell
use Rattle.cf_types.specs.Forms.{IsFacility}
use Rattle.engine_api.specs.declared.asks.Ask.{Ask}
use Rattle.engine_api.specs.declared.asks.Reply.{Reply}
use Rattle.engine_api.specs.declared.asks.Reply.TheVariants as reply
use Rattle.engine_api.specs.declared.asks.What.{What}
use Rattle.engine_api.specs.declared.asks.What.TheVariants as what
use Rattle.engine_api.specs.declared.histories.Entry.{Entry}
use Rattle.engine_api.specs.LinkAsks.{operator}
use Rattle.plex_script.specs.declared.scripts.AnyAsk.{AnyAsk}
use Rattle.plex_script.specs.declared.scripts.Script.{Script}
use Rattle.plex_script.specs.declared.transcripts.Shown.{Shown}
use Rattle.plex_script.specs.declared.transcripts.Shown.TheVariants.{Call, Test, Word, BadIndex, Posted, Took}
use Rattle.plex_script.specs.Causes.{kind_of}
use Rattle.plex_script.specs.Commands.{MakesCommand}
use Rattle.reply_rows.specs.Replies.{IsReply}
use Rattle.reply_rows.specs.Within.{IsShellReply}

-- a number of 32 bits
abbrev pub IsSmall : ℕ → Type 0
IsSmall n = n < 2 ^ 32

-- ---- entries

-- what is told of a loss: which instance is left, what is stopped, or that nothing is left
abbrev pub IsLossReply : List Name16 → ShellReply → Type 0
IsLossReply connectors (shell.Simplex cf) = IsShellReply connectors (shell.Simplex cf)
IsLossReply connectors (shell.Stopped number) = IsShellReply connectors (shell.Stopped number)
IsLossReply connectors shell.FailedNow = IsShellReply connectors shell.FailedNow
IsLossReply connectors _ = ⊥

abbrev pub IsMarkReply : {R : Type 0} → List Name16 → Reply R → Type 0
IsMarkReply connectors (reply.Shell answer) = IsLossReply connectors answer
IsMarkReply connectors (reply.Content answer) = ⊥
IsMarkReply connectors (reply.Refused refusal) = ⊥

module _ {C R : Type 0} (of : Ask C → AnyAsk) (In : List Name16 → R → Type 0) (script : Script) (on : StrNo) where
  -- a call of one of the script's callers, which some text says; or a mark of a facility
  abbrev pub IsWhat : ConnId → Reply R → What C → Type 0
  IsWhat by answer (what.Call asked) =
      (by.0 ≤ length script.connectors) × ((text : List ℕ) × MakesCommand script on by text (of asked))
      × IsReply script.connectors (In script.connectors) answer
  IsWhat by answer (what.Lost cf) = (by ≡ operator) × IsFacility cf × IsMarkReply script.connectors answer

  abbrev pub IsEntry : Entry C R → Type 0
  IsEntry entry = IsSmall entry.no × IsWhat entry.by entry.reply entry.what

-- ---- items

-- what is said of a bit is said of structures that have vectors
abbrev pub HasBits : Kind → Type 0
HasBits kind.Cache = Unit {0}
HasBits (kind.List headers locks refs) = Unit {0}
HasBits kind.Lock = ⊥

abbrev pub IsPlace : Script → StrNo → Type 0
IsPlace script on = on.0 < length script.structures

abbrev pub IsItem : Script → Shown → Type 0
IsItem script (Call on number) = IsPlace script on × IsSmall number
IsItem script (Test on index bit at) =
    IsPlace script on × HasBits (kind_of script.structures on) × IsSmall index × IsSmall at
IsItem script (Word on word bits at) = IsPlace script on × IsSmall word × IsSmall bits × IsSmall at
IsItem script (BadIndex on index word len) = IsPlace script on × IsSmall index × IsSmall len
IsItem script (Posted on sure) = IsPlace script on × IsSmall sure
IsItem script (Took on sure) = IsPlace script on × IsSmall sure
