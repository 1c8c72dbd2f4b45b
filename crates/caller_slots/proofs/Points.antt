-- The end of a legal history is a point of it, and no call is past it.
use Rattle.run_shown.proofs.EngineApi.Imports.{◌≡◌, ℕ, ◌+◌, ◌<◌, ◌≤◌, inl, inr, Bool, List, [], ◌∷◌, ◌++◌, length, take, refl, sym, ap, subst, ◌∙◌, arith, map-append, Contains, ConnId, StrForm, Meaning, IsLegal, Call, Turn, calls, numbers, IsPoint, stands_after, after_turn}
use Rattle.std.proofs.Common.{map}
use Rattle.run_shown.specs.EngineApi.declared.{asks.Ask.Ask, histories.Entry.Entry}
use Rattle.std.proofs.lemmas.List.{take_all}
use Rattle.std.proofs.lemmas.List.Elements.{Contains-push}
use Rattle.run_shown.specs.EngineApi.History.{Tells}
use Rattle.run_shown.proofs.EngineApi.HistoryLaws.{by_turns, calls-turn, call_added}
use Rattle.run_shown.proofs.EngineApi.NumberLaws.{number_added, length-turn, numbers_rise, RisesTo, numbered_legal}
use Rattle.run_shown.specs.Meanings.{altered_caches}
use Rattle.run_shown.specs.QueueModel.ListQueues.{queued_lists}
use Rattle.run_shown.specs.LockModel.Meaning.{lock_meaning}
use Rattle.run_shown.specs.PlexScript.declared.asks.AnyHistory.{AnyHistory}
use Rattle.run_shown.specs.PlexScript.declared.scripts.AnyAsk.{AnyAsk}
use Rattle.run_shown.specs.PlexScript.Heard.{AnyCall, any_call, any_calls, any_length}
use Rattle.run_shown.specs.Kinds.{IsAnyLegal, AnyTells, any_stands}

-- none of these is above that
abbrev pub AreUpTo : ℕ → List ℕ → Type 0
AreUpTo high [] = Unit {0}
AreUpTo high (n ∷ ns) = (n ≤ high) × AreUpTo high ns

abbrev pub AreCallsUpTo : ℕ → List AnyCall → Type 0
AreCallsUpTo high [] = Unit {0}
AreCallsUpTo high (call ∷ calls) = (call.no ≤ high) × AreCallsUpTo high calls

module _ {C R I S : Type 0} (meaning : Meaning C R I S) (form : StrForm) where
  pub end_is_point : (history : List (Entry C R)) → IsLegal meaning form history → IsPoint history (length history)
  end_is_point history legal = by_turns meaning form (λ h. IsPoint h (length h)) (inl refl) (λ h turn fine point.
      let added : ℕ = number_added meaning form h turn in
      let all : numbers (after_turn meaning form h turn) ≡ numbers h ++ added ∷ [] =
      grind (arith, calls-turn, map-append, call_added) in
      inr (subst (λ (n : ℕ). Contains (numbers (after_turn meaning form h turn)) n) (sym (length-turn meaning form h
      turn)) (subst (λ (ns : List ℕ). Contains ns added) (sym all) (Contains-push (numbers h) added)))) history legal

  tells_end : (history : List (Entry C R)) (q : ℕ) (conn : ConnId) (index : ℕ) → IsLegal meaning form history
      → q ≤ length history
      → Tells meaning form history (length history) q conn index (stands_after meaning form history conn index)
  tells_end history q conn index legal few = record {
    point = end_is_point history legal;
    seen = few;
    stood = inl (sym (ap (λ (h : List (Entry C R)). stands_after meaning form h conn index)
        (take_all (length history) history (omega arith))));
  }

  rises_up : (low : ℕ) (some : List (Call C R)) (high : ℕ) → RisesTo meaning form low some high → low ≤ high
  rises_up low [] high rises = rises
  rises_up low (call ∷ some) high rises = (let more = rises_up call.no some high rises.1 in omega (arith, rises.0, more))

  calls_up : (of : Ask C → AnyAsk) (low : ℕ) (some : List (Call C R)) (high : ℕ) → RisesTo meaning form low some high
      → AreCallsUpTo high (map (any_call of) some)
  calls_up of low [] high rises = tt
  calls_up of low (call ∷ some) high rises = (rises_up call.no some high rises.1, calls_up of call.no some high rises.1)

pub any_tells_end : (form : StrForm) (h : AnyHistory) (q : ℕ) (conn : ConnId) (index : ℕ) → IsAnyLegal form h
    → q ≤ any_length h → AnyTells form h (any_length h) q conn index (any_stands form h conn index)
any_tells_end form (AnyHistory.Cache entries) q conn index legal few =
    tells_end altered_caches form entries q conn index legal few
any_tells_end form (AnyHistory.List entries) q conn index legal few =
    tells_end queued_lists form entries q conn index legal few
any_tells_end form (AnyHistory.Lock entries) q conn index legal few =
    tells_end lock_meaning form entries q conn index legal few

pub any_calls_up : (form : StrForm) (h : AnyHistory) → IsAnyLegal form h → AreCallsUpTo (any_length h) (any_calls h)
any_calls_up form (AnyHistory.Cache entries) legal = calls_up altered_caches form
    AnyAsk.Cache 0 (calls entries) (length entries) (numbers_rise altered_caches form entries legal)
any_calls_up form (AnyHistory.List entries) legal = calls_up queued_lists form
    AnyAsk.List 0 (calls entries) (length entries) (numbers_rise queued_lists form entries legal)
any_calls_up form (AnyHistory.Lock entries) legal = calls_up lock_meaning form
    AnyAsk.Lock 0 (calls entries) (length entries) (numbers_rise lock_meaning form entries legal)

-- a test tells nothing past the end
pub legal_point : (form : StrForm) (h : AnyHistory) (at sure : ℕ) (conn : ConnId) (index : ℕ) (bit : Bool)
    → IsAnyLegal form h → AnyTells form h at sure conn index bit → at ≤ any_length h
legal_point form (AnyHistory.Cache entries) at sure conn index bit legal tells =
    (let numbered = numbered_legal altered_caches form entries legal in numbered.within at tells.point)
legal_point form (AnyHistory.List entries) at sure conn index bit legal tells =
    (let numbered = numbered_legal queued_lists form entries legal in numbered.within at tells.point)
legal_point form (AnyHistory.Lock entries) at sure conn index bit legal tells =
    (let numbered = numbered_legal lock_meaning form entries legal in numbered.within at tells.point)
