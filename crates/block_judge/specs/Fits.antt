-- Entries that are the machine's next ones.
use Rattle.std.specs.Prelude.{◌≡◌, ◌↔◌, ℕ, Bool, true, List, [], ◌∷◌, ◌++◌, fold, Option, None, Some}
use Rattle.cf_types.specs.declared.forms.StrForm.{StrForm}
use Rattle.cf_types.specs.declared.numbers.CfId.{CfId}
use Rattle.cf_types.specs.declared.shell_commands.ShellReply.{ShellReply}
use Rattle.engine_api.specs.declared.asks.Ask.{Ask}
use Rattle.engine_api.specs.declared.asks.Reply.{Reply}
use Rattle.engine_api.specs.declared.asks.Reply.TheVariants as reply
use Rattle.engine_api.specs.declared.asks.What.{What}
use Rattle.engine_api.specs.declared.asks.What.TheVariants as what
use Rattle.engine_api.specs.declared.histories.Entry.{Entry}
use Rattle.engine_api.specs.History.{machine_after}
use Rattle.engine_api.specs.Meaning.{Meaning}
use Rattle.engine_api.specs.Machine.{Machine}
use Rattle.block_laws.specs.Steps.{AreNext}

abbrev pub IsShell : {R : Type 0} → Reply R → ShellReply → Type 0
IsShell answer told = answer ≡ reply.Shell told

-- the facility of a mark
abbrev pub facility_told : {C : Type 0} → What C → Option CfId
facility_told (what.Call ask) = None
facility_told (what.Lost cf) = Some cf

-- whether marks and the call behind them are the machine's next entries, and the machine behind them where they are
pub record IsBlockJudged {C R I S : Type 0} (meaning : Meaning C R I S) (form : StrForm) (old new : Machine S)
    (count : ℕ) (marks : List (Entry C R)) (entry : Entry C R) (ask : Ask C) (fits : Bool) : Type 0 where
  pub told : (fits ≡ true) ↔ AreNext meaning form old count marks entry ask
  pub left : fits ≡ true → new ≡ fold (machine_after meaning form) old (marks ++ entry ∷ [])
