-- What a caller asks in the work of one line: its call, again after an event round while it is refused for the stage
-- of a rebuild; or an event round alone.
use Rattle.std.specs.Prelude.{◌≡◌, ℕ, zero, suc, ◌+◌, ◌-◌, ◌*◌, if◌then◌else◌, Option, None, Some}
use Rattle.plex_script.specs.declared.agents.TheConstants.{ROUND, ROUND_ASKS}
use Rattle.cf_types.specs.declared.forms.Kind.{Kind}
use Rattle.cf_types.specs.declared.forms.Kind.TheVariants as kind
use Rattle.cf_types.specs.declared.shell_commands.ShellCmd.{ShellCmd}
use Rattle.cf_types.specs.declared.shell_commands.ShellCmd.TheVariants as cmd
use Rattle.engine_api.specs.declared.asks.Ask.TheVariants as ask
use Rattle.engine_api.specs.declared.told.Told.{Told}
use Rattle.plex_script.specs.declared.agents.Step.{Step}
use Rattle.plex_script.specs.declared.agents.Step.TheVariants.{Call, Next, Respond, Rest}
use Rattle.plex_script.specs.declared.scripts.AnyAsk.{AnyAsk}
use Rattle.plex_script.specs.declared.scripts.AnyAsk.TheVariants as any
use Rattle.plex_script.specs.declared.scripts.Act.{Act}
use Rattle.plex_script.specs.declared.scripts.Act.TheVariants as act

-- what a line begins with. A round takes so many events at most
abbrev pub first_step : Act → ℕ → Step
first_step (act.Call asked) retry = Call retry
first_step act.Events retry = Next (ROUND - 1) None
first_step (act.Test index) retry = Rest
first_step (act.TestWord word) retry = Rest
first_step act.Post retry = Rest
first_step act.Take retry = Rest

-- behind a round: the line's call, which may be asked so many times again, or nothing
abbrev pub after_round : Option ℕ → Step
after_round None = Rest
after_round (Some asks) = Call asks

-- the next event, so many more at most
abbrev pub round_step : ℕ → Option ℕ → Step
round_step zero behind = after_round behind
round_step (suc left) behind = Next left behind

-- a call that may be asked again is, after an event round, as often as the line says. A round goes on while there are
-- events, and answers those that owe a response
abbrev pub step_after : Step → Told → Step
step_after (Call zero) told = Rest
step_after (Call (suc asks)) told = if told.again then Next (ROUND - 1) (Some asks) else Rest
step_after (Next left behind) told =
    if told.owes then Respond left behind else if told.event then round_step left behind else after_round behind
step_after (Respond left behind) told = round_step left behind
step_after Rest told = Rest

-- how many asks are left at most
abbrev pub asks_behind : Option ℕ → ℕ
asks_behind None = 0
asks_behind (Some asks) = 1 + ROUND_ASKS * asks

abbrev pub most_asks : Step → ℕ
most_asks (Call asks) = 1 + ROUND_ASKS * asks
most_asks (Next left behind) = 2 * left + 2 + asks_behind behind
most_asks (Respond left behind) = 2 * left + 1 + asks_behind behind
most_asks Rest = 0

-- a common command, asked of a structure of this kind
abbrev pub shell_ask : Kind → ShellCmd → AnyAsk
shell_ask kind.Cache command = any.Cache (ask.Shell command)
shell_ask (kind.List headers locks refs) command = any.List (ask.Shell command)
shell_ask kind.Lock command = any.Lock (ask.Shell command)

-- what a step asks, if it asks anything: of a structure of this kind, where this is the line's call
abbrev pub asked_by : Kind → Option AnyAsk → Step → Option AnyAsk
asked_by kind line (Call asks) = line
asked_by kind line (Next left behind) = Some (shell_ask kind cmd.Next)
asked_by kind line (Respond left behind) = Some (shell_ask kind cmd.Respond)
asked_by kind line Rest = None

-- the call of a line, if it is one
abbrev pub call_of : Act → Option AnyAsk
call_of (act.Call asked) = Some asked
call_of act.Events = None
call_of (act.Test index) = None
call_of (act.TestWord word) = None
call_of act.Post = None
call_of act.Take = None

-- where the line has no call, no step asks it
abbrev pub IsReady : Option AnyAsk → Step → Type 0
IsReady (Some asked) now = Unit {0}
IsReady None (Call asks) = ⊥
IsReady None (Next left behind) = behind ≡ None
IsReady None (Respond left behind) = behind ≡ None
IsReady None Rest = Unit {0}
