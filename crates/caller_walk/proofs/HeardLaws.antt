-- A caller's first call in a history of whatever kind, and whether it is what its step asks.
use Rattle.std.proofs.Common.{◌≡◌, ◌↔◌, ℕ, ◌==◌, Bool, true, false, List, [], ◌∷◌, map, filter, drop, Option, Some, None, refl, sym, ap, ◌∙◌, cond}
use Rattle.caller_slots.specs.RunShown.CfTypes.declared.{forms.Kind.Kind, numbers.ConnId.ConnId}
use Rattle.caller_slots.specs.RunShown.CfTypes.declared.alter_commands.AlterCmd.{AlterCmd}
use Rattle.caller_slots.specs.RunShown.CfTypes.declared.cache_commands.CacheCmd.{CacheCmd}
use Rattle.caller_slots.specs.RunShown.CfTypes.declared.list_commands.QueueCmd.{QueueCmd}
use Rattle.caller_slots.specs.RunShown.CfTypes.declared.lock_commands.LockCmd.{LockCmd}
use Rattle.caller_slots.specs.RunShown.EngineApi.declared.{asks.Ask.Ask, asks.Reply.Reply, histories.Entry.Entry, told.Told.Told}
use Rattle.caller_slots.specs.RunShown.EngineApi.History.{Call, calls, own}
use Rattle.caller_slots.specs.RunShown.EngineApi.Told.{told_of}
use Rattle.caller_slots.specs.RunShown.PlexScript.declared.{agents.Step.Step, asks.AnyHistory.AnyHistory, scripts.AnyAsk.AnyAsk}
use Rattle.caller_slots.specs.RunShown.PlexScript.Agent.{asked_by}
use Rattle.caller_slots.specs.RunShown.PlexScript.Heard.{AnyCall, any_call, own_calls}
use Rattle.caller_slots.specs.RunShown.Kinds.{IsOfKind}
use Rattle.caller_walk.specs.declared.heard.Heard.{Heard}
use Rattle.caller_walk.specs.Heard.{cache_ask, list_ask, lock_ask, left_at, AsksThis, IsHeardFirst, IsFirstHeard, IsNext, IsNextCall}

told_number : {C R : Type 0} (number : ℕ) (ask : Ask C) (answer : Reply R) → (told_of number ask answer).no ≡ number
told_number number ask (Reply.Shell answer) = refl
told_number number ask (Reply.Content answer) = refl
told_number number ask (Reply.Refused refusal) = refl

module _ {C R : Type 0} (of : Ask C → AnyAsk) (conn : ConnId) where
  -- one's own among calls of whatever kind
  own_any : (some : List (Call C R))
      → own_calls (map (any_call of) some) conn ≡ map (any_call of) (filter (λ call. call.by.0 == conn.0) some)
  own_any [] = refl
  own_any (call ∷ some) = by_test (call.by.0 == conn.0) refl (own_any some)
    where
      by_test : (b : Bool) → call.by.0 == conn.0 ≡ b
          → own_calls (map (any_call of) some) conn ≡ map (any_call of) (filter (λ c. c.by.0 == conn.0) some)
          → own_calls (map (any_call of) (call ∷ some)) conn
          ≡ map (any_call of) (filter (λ c. c.by.0 == conn.0) (call ∷ some))
      by_test true mine rest = rw mine (ap (λ (l : List AnyCall). any_call of call ∷ l) rest)
      by_test false apart rest = rw apart rest

  left_own : (entries : List (Entry C R)) → own_calls (map (any_call of) (calls entries)) conn
      ≡ map (any_call of) (own entries conn)
  left_own entries = own_any (calls entries)

  module _ (kind : Kind) (line : Option AnyAsk) (its : Option (Ask C)) (now : Step)
      (asks : (ask : Ask C) → AsksThis now its ask ↔ (asked_by kind line now ≡ Some (of ask))) where
    next_of : (left : ℕ → List AnyCall) (entries : List (Entry C R)) (from : ℕ) (heard : Heard)
        → ((n : ℕ) → left n ≡ own_calls (map (any_call of) (calls (drop n entries))) conn)
        → IsFirstHeard now its conn entries from heard
        → (call : AnyCall) × (left from ≡ call ∷ left heard.next) × (heard.told ≡ call.told)
        × (heard.told.no ≡ call.no) × ((heard.as_asked ≡ true) ↔ (asked_by kind line now ≡ Some call.ask))
    next_of left entries from heard is at = (
      any_call of at.call,
      is from ∙ left_own (drop from entries) ∙ ap (map (any_call of)) at.first
          ∙ ap (λ (l : List AnyCall). any_call of at.call ∷ l)
          (sym (is heard.next ∙ left_own (drop heard.next entries))),
      at.told,
      ap (λ (told : Told). told.no) at.told ∙ told_number at.call.no at.call.ask at.call.reply,
      (λ right. (asks at.call.ask).0 (at.right.0 right), λ asked. at.right.1 ((asks at.call.ask).1 asked)),
    )

    none_of : (left : ℕ → List AnyCall) (entries : List (Entry C R)) (from : ℕ)
        → ((n : ℕ) → left n ≡ own_calls (map (any_call of) (calls (drop n entries))) conn)
        → own (drop from entries) conn ≡ [] → left from ≡ []
    none_of left entries from is none = is from ∙ left_own (drop from entries) ∙ ap (map (any_call of)) none

-- ---- what a step asks, of one kind

cache_asks : (line : Option AnyAsk) (now : Step) (ask : Ask (AlterCmd CacheCmd))
    → AsksThis now (cache_ask line) ask ↔ (asked_by Kind.Cache line now ≡ Some (AnyAsk.Cache ask))
cache_asks (Some (AnyAsk.Cache mine)) (Step.Call retry) ask = (λ e. cc, λ e. cc)
cache_asks (Some (AnyAsk.List other)) (Step.Call retry) ask = (λ e. absurd cc, λ e. absurd cc)
cache_asks (Some (AnyAsk.Lock other)) (Step.Call retry) ask = (λ e. absurd cc, λ e. absurd cc)
cache_asks None (Step.Call retry) ask = (λ e. absurd cc, λ e. absurd cc)
cache_asks line (Step.Next left behind) ask = (λ e. cc, λ e. cc)
cache_asks line (Step.Respond left behind) ask = (λ e. cc, λ e. cc)
cache_asks line Step.Rest ask = (λ e. absurd e, λ e. absurd cc)

list_asks : (headers locks : ℕ) (refs : _) (line : Option AnyAsk) (now : Step) (ask : Ask QueueCmd)
    → AsksThis now (list_ask line) ask ↔ (asked_by (Kind.List headers locks refs) line now ≡ Some (AnyAsk.List ask))
list_asks headers locks refs (Some (AnyAsk.List mine)) (Step.Call retry) ask = (λ e. cc, λ e. cc)
list_asks headers locks refs (Some (AnyAsk.Cache other)) (Step.Call retry) ask = (λ e. absurd cc, λ e. absurd cc)
list_asks headers locks refs (Some (AnyAsk.Lock other)) (Step.Call retry) ask = (λ e. absurd cc, λ e. absurd cc)
list_asks headers locks refs None (Step.Call retry) ask = (λ e. absurd cc, λ e. absurd cc)
list_asks headers locks refs line (Step.Next left behind) ask = (λ e. cc, λ e. cc)
list_asks headers locks refs line (Step.Respond left behind) ask = (λ e. cc, λ e. cc)
list_asks headers locks refs line Step.Rest ask = (λ e. absurd e, λ e. absurd cc)

lock_asks : (line : Option AnyAsk) (now : Step) (ask : Ask LockCmd)
    → AsksThis now (lock_ask line) ask ↔ (asked_by Kind.Lock line now ≡ Some (AnyAsk.Lock ask))
lock_asks (Some (AnyAsk.Lock mine)) (Step.Call retry) ask = (λ e. cc, λ e. cc)
lock_asks (Some (AnyAsk.Cache other)) (Step.Call retry) ask = (λ e. absurd cc, λ e. absurd cc)
lock_asks (Some (AnyAsk.List other)) (Step.Call retry) ask = (λ e. absurd cc, λ e. absurd cc)
lock_asks None (Step.Call retry) ask = (λ e. absurd cc, λ e. absurd cc)
lock_asks line (Step.Next left behind) ask = (λ e. cc, λ e. cc)
lock_asks line (Step.Respond left behind) ask = (λ e. cc, λ e. cc)
lock_asks line Step.Rest ask = (λ e. absurd e, λ e. absurd cc)

-- ---- what is heard

pub heard_cache : (kind : Kind) (line : Option AnyAsk) (now : Step) (conn : ConnId) (entries : _) (from : ℕ)
    (heard : Option Heard) → IsOfKind kind (AnyHistory.Cache entries)
    → IsHeardFirst now (cache_ask line) conn entries from heard
    → IsNext kind line now conn (AnyHistory.Cache entries) from heard
heard_cache Kind.Cache line now conn entries from None of_kind none =
    none_of AnyAsk.Cache conn Kind.Cache line (cache_ask line) now (cache_asks line now)
    (left_at conn (AnyHistory.Cache entries)) entries from (λ n. refl) none
heard_cache Kind.Cache line now conn entries from (Some heard) of_kind at =
    let next = next_of AnyAsk.Cache conn Kind.Cache line (cache_ask line) now (cache_asks line now)
    (left_at conn (AnyHistory.Cache entries)) entries from heard (λ n. refl) at in
    record { call = next.0; first = next.1; told = next.2; number = next.3; right = next.4 }
heard_cache (Kind.List headers locks refs) line now conn entries from heard of_kind at = absurd of_kind
heard_cache Kind.Lock line now conn entries from heard of_kind at = absurd of_kind

pub heard_list : (kind : Kind) (line : Option AnyAsk) (now : Step) (conn : ConnId) (entries : _) (from : ℕ)
    (heard : Option Heard) → IsOfKind kind (AnyHistory.List entries)
    → IsHeardFirst now (list_ask line) conn entries from heard
    → IsNext kind line now conn (AnyHistory.List entries) from heard
heard_list (Kind.List headers locks refs) line now conn entries from None of_kind none =
    none_of AnyAsk.List conn (Kind.List headers locks refs) line (list_ask line) now
    (list_asks headers locks refs line now) (left_at conn (AnyHistory.List entries)) entries from (λ n. refl) none
heard_list (Kind.List headers locks refs) line now conn entries from (Some heard) of_kind at =
    let next = next_of AnyAsk.List conn (Kind.List headers locks refs) line (list_ask line) now
    (list_asks headers locks refs line now) (left_at conn (AnyHistory.List entries)) entries from heard (λ n. refl) at in
    record { call = next.0; first = next.1; told = next.2; number = next.3; right = next.4 }
heard_list Kind.Cache line now conn entries from heard of_kind at = absurd of_kind
heard_list Kind.Lock line now conn entries from heard of_kind at = absurd of_kind

pub heard_lock : (kind : Kind) (line : Option AnyAsk) (now : Step) (conn : ConnId) (entries : _) (from : ℕ)
    (heard : Option Heard) → IsOfKind kind (AnyHistory.Lock entries)
    → IsHeardFirst now (lock_ask line) conn entries from heard
    → IsNext kind line now conn (AnyHistory.Lock entries) from heard
heard_lock Kind.Lock line now conn entries from None of_kind none =
    none_of AnyAsk.Lock conn Kind.Lock line (lock_ask line) now (lock_asks line now)
    (left_at conn (AnyHistory.Lock entries)) entries from (λ n. refl) none
heard_lock Kind.Lock line now conn entries from (Some heard) of_kind at =
    let next = next_of AnyAsk.Lock conn Kind.Lock line (lock_ask line) now (lock_asks line now)
    (left_at conn (AnyHistory.Lock entries)) entries from heard (λ n. refl) at in
    record { call = next.0; first = next.1; told = next.2; number = next.3; right = next.4 }
heard_lock Kind.Cache line now conn entries from heard of_kind at = absurd of_kind
heard_lock (Kind.List headers locks refs) line now conn entries from heard of_kind at = absurd of_kind

-- ---- whether anything is left

map_none : {A B : Type 0} (f : A → B) (xs : List A) → map f xs ≡ [] → xs ≡ []
map_none f [] is = refl
map_none f (x ∷ xs) is = absurd cc

pub left_none : {C R : Type 0} (of : Ask C → AnyAsk) (conn : ConnId) (entries : List (Entry C R))
    → (own entries conn ≡ []) ↔ (own_calls (map (any_call of) (calls entries)) conn ≡ [])
left_none of conn entries = (
  λ none. left_own of conn entries ∙ ap (map (any_call of)) none,
  λ none. map_none (any_call of) (own entries conn) (sym (left_own of conn entries) ∙ none),
)
