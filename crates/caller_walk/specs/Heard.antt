-- A caller's calls from an entry of a history on, and what its next one tells.
use Rattle.std.specs.Prelude.{◌≡◌, ◌↔◌, ℕ, ◌+◌, ◌==◌, Bool, true, false, List, [], ◌∷◌, drop, slice_get, Option, None, Some}
use Rattle.caller_slots.specs.RunShown.CfTypes.declared.alter_commands.AlterCmd.{AlterCmd}
use Rattle.caller_slots.specs.RunShown.CfTypes.declared.cache_commands.CacheCmd.{CacheCmd}
use Rattle.caller_slots.specs.RunShown.CfTypes.declared.list_commands.QueueCmd.{QueueCmd}
use Rattle.caller_slots.specs.RunShown.CfTypes.declared.lock_commands.LockCmd.{LockCmd}
use Rattle.caller_slots.specs.RunShown.CfTypes.declared.forms.Kind.{Kind}
use Rattle.caller_slots.specs.RunShown.CfTypes.declared.numbers.ConnId.{ConnId}
use Rattle.caller_slots.specs.RunShown.CfTypes.declared.shell_commands.ShellCmd.TheVariants as cmd
use Rattle.caller_slots.specs.RunShown.EngineApi.declared.asks.Ask.{Ask}
use Rattle.caller_slots.specs.RunShown.EngineApi.declared.asks.Ask.TheVariants as asks
use Rattle.caller_slots.specs.RunShown.EngineApi.declared.asks.What.{What}
use Rattle.caller_slots.specs.RunShown.EngineApi.declared.asks.What.TheVariants as what
use Rattle.caller_slots.specs.RunShown.EngineApi.declared.histories.Entry.{Entry}
use Rattle.caller_slots.specs.RunShown.EngineApi.History.{Call, own}
use Rattle.caller_slots.specs.RunShown.EngineApi.Told.{told_of}
use Rattle.caller_slots.specs.RunShown.PlexScript.declared.agents.Step.{Step}
use Rattle.caller_slots.specs.RunShown.PlexScript.declared.agents.Step.TheVariants as step
use Rattle.caller_slots.specs.RunShown.PlexScript.declared.asks.AnyHistory.{AnyHistory}
use Rattle.caller_slots.specs.RunShown.PlexScript.declared.asks.AnyHistory.TheVariants as history
use Rattle.caller_slots.specs.RunShown.PlexScript.declared.scripts.AnyAsk.{AnyAsk}
use Rattle.caller_slots.specs.RunShown.PlexScript.declared.scripts.AnyAsk.TheVariants as any
use Rattle.caller_slots.specs.RunShown.PlexScript.Agent.{asked_by}
use Rattle.caller_slots.specs.RunShown.PlexScript.Heard.{AnyCall, any_calls, own_calls}
use Rattle.caller_walk.specs.declared.heard.Heard.{Heard}

-- ---- entries of one kind

abbrev pub is_call_by : {C : Type 0} → ConnId → ConnId → What C → Bool
is_call_by conn by (what.Call asked) = by.0 == conn.0
is_call_by conn by (what.Lost cf) = false

-- the entry is a call of this caller
abbrev pub is_own : {C R : Type 0} → ConnId → Entry C R → Bool
is_own conn entry = is_call_by conn entry.by entry.what

-- the entry at a place tells the caller's first call behind so many entries
pub record IsOwnAt {C R : Type 0} (conn : ConnId) (entries : List (Entry C R)) (from place : ℕ) : Type 0 where
  pub entry : Entry C R
  pub there : slice_get entries place ≡ Some entry
  pub ask : Ask C
  pub asks : entry.what ≡ what.Call ask
  pub first : own (drop from entries) conn
      ≡ record { no = entry.no; by = entry.by; ask = ask; reply = entry.reply } ∷ own (drop (place + 1) entries) conn

-- a call asks what a step asks, where this is the line's
abbrev pub AsksThis : {C : Type 0} → Step → Option (Ask C) → Ask C → Type 0
AsksThis (step.Call retry) line ask = line ≡ Some ask
AsksThis (step.Next left behind) line ask = ask ≡ asks.Shell cmd.Next
AsksThis (step.Respond left behind) line ask = ask ≡ asks.Shell cmd.Respond
AsksThis step.Rest line ask = ⊥

-- what is heard is the caller's first call behind so many entries, and the others begin where it says
pub record IsFirstHeard {C R : Type 0} (now : Step) (line : Option (Ask C)) (conn : ConnId)
    (entries : List (Entry C R)) (from : ℕ) (heard : Heard) : Type 0 where
  pub call : Call C R
  pub first : own (drop from entries) conn ≡ call ∷ own (drop heard.next entries) conn
  pub told : heard.told ≡ told_of call.no call.ask call.reply
  pub right : (heard.as_asked ≡ true) ↔ AsksThis now line call.ask

abbrev pub IsHeardFirst : {C R : Type 0} → Step → Option (Ask C) → ConnId → List (Entry C R) → ℕ → Option Heard
    → Type 0
IsHeardFirst now line conn entries from None = own (drop from entries) conn ≡ []
IsHeardFirst now line conn entries from (Some heard) = IsFirstHeard now line conn entries from heard

-- ---- histories of whatever kind

-- the line's call, if it is one of this kind
abbrev pub cache_ask : Option AnyAsk → Option (Ask (AlterCmd CacheCmd))
cache_ask (Some (any.Cache ask)) = Some ask
cache_ask (Some (any.List ask)) = None
cache_ask (Some (any.Lock ask)) = None
cache_ask None = None

abbrev pub list_ask : Option AnyAsk → Option (Ask QueueCmd)
list_ask (Some (any.Cache ask)) = None
list_ask (Some (any.List ask)) = Some ask
list_ask (Some (any.Lock ask)) = None
list_ask None = None

abbrev pub lock_ask : Option AnyAsk → Option (Ask LockCmd)
lock_ask (Some (any.Cache ask)) = None
lock_ask (Some (any.List ask)) = None
lock_ask (Some (any.Lock ask)) = Some ask
lock_ask None = None

-- the history without its first entries, so many
abbrev pub any_drop : ℕ → AnyHistory → AnyHistory
any_drop n (history.Cache entries) = history.Cache (drop n entries)
any_drop n (history.List entries) = history.List (drop n entries)
any_drop n (history.Lock entries) = history.Lock (drop n entries)

-- the caller's calls behind so many entries
abbrev pub left_at : ConnId → AnyHistory → ℕ → List AnyCall
left_at conn entries n = own_calls (any_calls (any_drop n entries)) conn

-- the same of a history of whatever kind
pub record IsNextCall (kind : Kind) (line : Option AnyAsk) (now : Step) (conn : ConnId) (entries : AnyHistory)
    (from : ℕ) (heard : Heard) : Type 0 where
  pub call : AnyCall
  pub first : left_at conn entries from ≡ call ∷ left_at conn entries heard.next
  pub told : heard.told ≡ call.told
  pub number : heard.told.no ≡ call.no
  pub right : (heard.as_asked ≡ true) ↔ (asked_by kind line now ≡ Some call.ask)

abbrev pub IsNext : Kind → Option AnyAsk → Step → ConnId → AnyHistory → ℕ → Option Heard → Type 0
IsNext kind line now conn entries from None = left_at conn entries from ≡ []
IsNext kind line now conn entries from (Some heard) = IsNextCall kind line now conn entries from heard
