-- What a history of whatever kind says of its calls: how many there are, and that their numbers rise.
use Rattle.std.proofs.Common.{◌≡◌, ℕ, suc, ◌*◌, ◌<◌, ◌≤◌, ◌==◌, Bool, true, false, List, [], ◌∷◌, length, map, refl, sym, ap, ◌∙◌, arith, suc-le-suc, zero-lt-suc, All}
use Rattle.std.proofs.lemmas.Bool.{eq-eqb, ne_eqb, false≢true}
use Rattle.lock_model.specs.Meaning.{lock_meaning}
use Rattle.queue_model.specs.ListQueues.{queued_lists}
use Rattle.plex_script.specs.CfTypes.declared.{forms.StrForm.StrForm, forms.Kind.Kind, numbers.ConnId.ConnId}
use Rattle.plex_script.specs.EngineApi.declared.{asks.Ask.Ask, histories.Entry.Entry}
use Rattle.plex_script.specs.EngineApi.Meaning.{Meaning}
use Rattle.plex_script.specs.EngineApi.History.{Call, calls, IsLegal}
use Rattle.plex_script.proofs.EngineApi.NumberLaws.{RisesTo, numbers_rise, three_each}
use Rattle.plex_script.specs.declared.{asks.AnyHistory.AnyHistory, scripts.AnyAsk.AnyAsk}
use Rattle.plex_script.specs.Heard.{AnyCall, any_call, any_calls, any_length, own_calls}
use Rattle.run_shown.specs.Meanings.{altered_caches}
use Rattle.run_shown.specs.Kinds.{IsOfKind, IsAnyLegal, Rising, any_take, no_calls}
use Rattle.std.proofs.lemmas.List as lists

module _ {C R I S : Type 0} (meaning : Meaning C R I S) (of : Ask C → AnyAsk) (form : StrForm) where
  -- the calls, as their callers hear of them
  abbrev pub heard_of : List (Entry C R) → List AnyCall
  heard_of entries = map (any_call of) (calls entries)

  rise_heard : (low : ℕ) (some : List (Call C R)) (high : ℕ) → RisesTo meaning form low some high
      → Rising low (map (any_call of) some)
  rise_heard low [] high rises = tt
  rise_heard low (call ∷ some) high rises = (rises.0, rise_heard call.no some high rises.1)

  few_heard : (entries : List (Entry C R)) → IsLegal meaning form entries
      → length entries ≤ 3 * length (heard_of entries)
  few_heard entries legal =
      let same : length (heard_of entries) ≡ length (calls entries) = lists.length-map (calls entries) (any_call of) in
      let few : length entries ≤ 3 * length (calls entries) = three_each meaning form entries legal in
      omega (arith, same, few)

-- ---- the calls of a legal history

-- a call and the marks before it are three entries at most
pub length_calls : (form : StrForm) (h : AnyHistory) → IsAnyLegal form h → any_length h ≤ 3 * length (any_calls h)
length_calls form (AnyHistory.Cache entries) legal = few_heard altered_caches AnyAsk.Cache form entries legal
length_calls form (AnyHistory.List entries) legal = few_heard queued_lists AnyAsk.List form entries legal
length_calls form (AnyHistory.Lock entries) legal = few_heard lock_meaning AnyAsk.Lock form entries legal

pub calls_rise : (form : StrForm) (h : AnyHistory) → IsAnyLegal form h → Rising 0 (any_calls h)
calls_rise form (AnyHistory.Cache entries) legal = rise_heard altered_caches
    AnyAsk.Cache form 0 (calls entries) (length entries) (numbers_rise altered_caches form entries legal)
calls_rise form (AnyHistory.List entries) legal = rise_heard queued_lists
    AnyAsk.List form 0 (calls entries) (length entries) (numbers_rise queued_lists form entries legal)
calls_rise form (AnyHistory.Lock entries) legal = rise_heard lock_meaning
    AnyAsk.Lock form 0 (calls entries) (length entries) (numbers_rise lock_meaning form entries legal)

-- ---- the front of a history

pub take_all : (h : AnyHistory) → any_take (any_length h) h ≡ h
take_all (AnyHistory.Cache entries) = ap AnyHistory.Cache (lists.take_all (length entries) entries (omega arith))
take_all (AnyHistory.List entries) = ap AnyHistory.List (lists.take_all (length entries) entries (omega arith))
take_all (AnyHistory.Lock entries) = ap AnyHistory.Lock (lists.take_all (length entries) entries (omega arith))

none_taken : (kind : Kind) (h : AnyHistory) → IsOfKind kind h → any_take 0 h ≡ no_calls kind
none_taken Kind.Cache (AnyHistory.Cache entries) of_kind = refl
none_taken (Kind.List headers locks refs) (AnyHistory.List entries) of_kind = refl
none_taken Kind.Lock (AnyHistory.Lock entries) of_kind = refl
none_taken _ _ of_kind = absurd of_kind

pub take_none : (form : StrForm) (h : AnyHistory) → IsOfKind form.kind h → any_take 0 h ≡ no_calls form.kind
take_none form h of_kind = none_taken form.kind h of_kind

-- ---- calls by their callers

eqb_swap : (a b : ℕ) → a == b ≡ false → b == a ≡ false
eqb_swap a b apart = ne_eqb b a (λ same. false≢true (sym apart ∙ eq-eqb a b (sym same)))

pub own_same : (call : AnyCall) (calls : List AnyCall) (conn : ConnId) → call.by.0 == conn.0 ≡ true
    → own_calls (call ∷ calls) conn ≡ call ∷ own_calls calls conn
own_same call calls conn same = rw same refl

own_other : (call : AnyCall) (calls : List AnyCall) (conn : ConnId) → call.by.0 == conn.0 ≡ false
    → own_calls (call ∷ calls) conn ≡ own_calls calls conn
own_other call calls conn other = rw other refl

some_own : (call : AnyCall) (calls : List AnyCall) → own_calls (call ∷ calls) call.by ≡ call ∷ own_calls calls call.by
some_own call calls = own_same call calls call.by (eq-eqb call.by.0 call.by.0 refl)

-- the first of a caller's calls is above what the numbers rise from
first_above : (low : ℕ) (calls : List AnyCall) (conn : ConnId) (first : AnyCall) (more : List AnyCall)
    → Rising low calls → own_calls calls conn ≡ first ∷ more → low < first.no
first_above low [] conn first more rise e = absurd cc
first_above low (call ∷ calls) conn first more rise e =
    by_caller (call.by.0 == conn.0) refl (λ rest. first_above call.no calls conn first more rise.1 rest)
  where
    by_caller : (b : Bool) → call.by.0 == conn.0 ≡ b → (own_calls calls conn ≡ first ∷ more → call.no < first.no)
        → low < first.no
    by_caller true same above = grind (arith, own_same)
    by_caller false other above = grind (arith, own_other)

tail_same : (x y : AnyCall) (xs ys : List AnyCall) → x ∷ xs ≡ y ∷ ys → (x ≡ y) × (xs ≡ ys)
tail_same x y xs ys e = (cc, cc)

-- where both begin with the same call, what follows has the same calls of each caller
rest_same : (call : AnyCall) (calls others : List AnyCall) (conn : ConnId)
    → own_calls (call ∷ calls) conn ≡ own_calls (call ∷ others) conn → own_calls calls conn ≡ own_calls others conn
rest_same call calls others conn e = grind (arith, tail_same, own_same, own_other)

-- both begin with the same call
first_same : (first other : AnyCall) (calls others : List AnyCall) → Rising first.no calls → Rising other.no others
    → own_calls (first ∷ calls) first.by ≡ own_calls (other ∷ others) first.by
    → own_calls (first ∷ calls) other.by ≡ own_calls (other ∷ others) other.by → first ≡ other
first_same first other calls others rise rise' mine its =
    grind (arith, own_same, eq-eqb, tail_same, eqb_swap, first_above, own_other)

abbrev AreBy : ℕ → List AnyCall → Type 0
AreBy callers calls = All (λ call. call.by.0 ≤ callers) calls

same_from : (callers low low' : ℕ) (calls others : List AnyCall)
    → Rising low calls → Rising low' others → AreBy callers calls → AreBy callers others
    → ((conn : ConnId) → conn.0 ≤ callers → own_calls calls conn ≡ own_calls others conn) → calls ≡ others
same_from callers low low' [] [] rise rise' by by' same = refl
same_from callers low low' [] (other ∷ others) rise rise' by by' same =
    absurd (cc (same other.by (by' 0 other (zero-lt-suc (length others))), some_own other others))
same_from callers low low' (first ∷ calls) [] rise rise' by by' same =
    absurd (cc (same first.by (by 0 first (zero-lt-suc (length calls))), some_own first calls))
same_from callers low low' (first ∷ calls) (other ∷ others) rise rise' by by' same =
    let is : first ≡ other = first_same first other calls others rise.1 rise'.1 (same first.by
    (by 0 first (zero-lt-suc (length calls)))) (same other.by (by' 0 other (zero-lt-suc (length others)))) in
    let rest : calls ≡ others = same_from callers first.no other.no calls others rise.1 rise'.1
    (λ k d k<. by (suc k) d (suc-le-suc k<)) (λ k d k<. by' (suc k) d (suc-le-suc k<)) (λ conn within. rest_same first
    calls others conn (same conn within ∙ ap (λ (it : AnyCall). own_calls (it ∷ others) conn) (sym is))) in
    ap (λ (it : AnyCall). it ∷ calls) is ∙ ap (λ (some : List AnyCall). other ∷ some) rest

-- two lists of calls whose numbers rise, and that have the same calls of each caller, are the same
pub same_calls : (callers : ℕ) (calls others : List AnyCall) → Rising 0 calls → Rising 0 others
    → All (λ call. call.by.0 ≤ callers) calls → All (λ call. call.by.0 ≤ callers) others
    → ((conn : ConnId) → conn.0 ≤ callers → own_calls calls conn ≡ own_calls others conn) → calls ≡ others
same_calls callers calls others rise rise' by by' same = same_from callers 0 0 calls others rise rise' by by' same
