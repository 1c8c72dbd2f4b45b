-- The calls of a structure's history, as its callers hear of them, whatever its kind.
use Rattle.std.specs.Prelude.{ℕ, ◌==◌, Bool, false, List, [], length, filter, find, fold, map, slice_get, Option, None, Some, unwrap_or}
use Rattle.cf_types.specs.declared.numbers.ConnId.{ConnId}
use Rattle.cf_types.specs.declared.numbers.StrNo.{StrNo}
use Rattle.engine_api.specs.declared.asks.Ask.{Ask}
use Rattle.engine_api.specs.declared.told.Told.{Told}
use Rattle.engine_api.specs.History.{Call, calls}
use Rattle.engine_api.specs.Told.{told_of}
use Rattle.plex_script.specs.declared.scripts.AnyAsk.{AnyAsk}
use Rattle.plex_script.specs.declared.scripts.AnyAsk.TheVariants as ask
use Rattle.plex_script.specs.declared.asks.AnyHistory.{AnyHistory}
use Rattle.plex_script.specs.declared.asks.AnyHistory.TheVariants as history

-- a call: its number, who called, what was asked, and what was told of it
pub record AnyCall : Type 0 where
  pub no : ℕ
  pub by : ConnId
  pub ask : AnyAsk
  pub told : Told

abbrev pub any_call : {C R : Type 0} → (Ask C → AnyAsk) → Call C R → AnyCall
any_call of call = record { no = call.no; by = call.by; ask = of call.ask; told = told_of call.no call.ask call.reply }

abbrev pub any_calls : AnyHistory → List AnyCall
any_calls (history.Cache entries) = map (any_call ask.Cache) (calls entries)
any_calls (history.List entries) = map (any_call ask.List) (calls entries)
any_calls (history.Lock entries) = map (any_call ask.Lock) (calls entries)

-- how many entries there are
abbrev pub any_length : AnyHistory → ℕ
any_length (history.Cache entries) = length entries
any_length (history.List entries) = length entries
any_length (history.Lock entries) = length entries

-- the call with this number
abbrev pub call_numbered : ℕ → List AnyCall → Option AnyCall
call_numbered number calls = find (λ call. call.no == number) calls

-- the calls of one caller, in order
abbrev pub own_calls : List AnyCall → ConnId → List AnyCall
own_calls calls conn = filter (λ call. call.by.0 == conn.0) calls

-- whether a connector is active, by what it was told of its own calls
abbrev pub link_after : Bool → AnyCall → Bool
link_after linked call = unwrap_or call.told.linked linked

abbrev pub is_linked : List AnyCall → Bool
is_linked calls = fold link_after false calls

-- the calls of a structure, of so many histories
abbrev pub calls_of : Option AnyHistory → List AnyCall
calls_of None = []
calls_of (Some entries) = any_calls entries

abbrev pub calls_on : List AnyHistory → StrNo → List AnyCall
calls_on histories on = calls_of (slice_get histories on.0)

abbrev pub length_of : Option AnyHistory → ℕ
length_of None = 0
length_of (Some entries) = any_length entries

abbrev pub length_on : List AnyHistory → StrNo → ℕ
length_on histories on = length_of (slice_get histories on.0)
