-- Histories of whatever kind: which calls they have, and what they lead to.
use Rattle.std.specs.Prelude.{ℕ, ◌+◌, ◌*◌, ◌^◌, ◌<◌, ◌&&◌, nat_lt, Bool, false, if◌then◌else◌, List, [], ◌∷◌, fold, take, sum_by}
use Rattle.plex_script.specs.CfTypes.declared.forms.StrForm.{StrForm}
use Rattle.plex_script.specs.CfTypes.declared.forms.Kind.{Kind}
use Rattle.plex_script.specs.CfTypes.declared.forms.Kind.TheVariants as kind
use Rattle.plex_script.specs.CfTypes.declared.numbers.ConnId.{ConnId}
use Rattle.plex_script.specs.EngineApi.Asking.{MayAsk}
use Rattle.plex_script.specs.EngineApi.History.{numbers, stands_after, IsLegal, IsPoint, Tells}
use Rattle.lock_model.specs.Meaning.{lock_meaning}
use Rattle.queue_model.specs.ListQueues.{queued_lists}
use Rattle.plex_script.specs.declared.scripts.AnyAsk.{AnyAsk}
use Rattle.plex_script.specs.declared.scripts.AnyAsk.TheVariants as ask
use Rattle.plex_script.specs.declared.asks.AnyHistory.{AnyHistory}
use Rattle.plex_script.specs.declared.asks.AnyHistory.TheVariants as history
use Rattle.plex_script.specs.Heard.{AnyCall}
use Rattle.run_shown.specs.Meanings.{altered_caches}

-- the history of a structure with no calls yet
abbrev pub no_calls : Kind → AnyHistory
no_calls kind.Cache = history.Cache []
no_calls (kind.List headers locks refs) = history.List []
no_calls kind.Lock = history.Lock []

-- the first entries of a history, so many
abbrev pub any_take : ℕ → AnyHistory → AnyHistory
any_take n (history.Cache entries) = history.Cache (take n entries)
any_take n (history.List entries) = history.List (take n entries)
any_take n (history.Lock entries) = history.Lock (take n entries)

-- each call's number is above the one before it, and the first above this
abbrev pub Rising : ℕ → List AnyCall → Type 0
Rising low [] = Unit {0}
Rising low (call ∷ calls) = (low < call.no) × Rising call.no calls

-- the history is one of a structure of this kind
abbrev pub IsOfKind : Kind → AnyHistory → Type 0
IsOfKind kind.Cache (history.Cache entries) = Unit {0}
IsOfKind kind.Cache (history.List entries) = ⊥
IsOfKind kind.Cache (history.Lock entries) = ⊥
IsOfKind (kind.List headers locks refs) (history.Cache entries) = ⊥
IsOfKind (kind.List headers locks refs) (history.List entries) = Unit {0}
IsOfKind (kind.List headers locks refs) (history.Lock entries) = ⊥
IsOfKind kind.Lock (history.Cache entries) = ⊥
IsOfKind kind.Lock (history.List entries) = ⊥
IsOfKind kind.Lock (history.Lock entries) = Unit {0}

-- the ask is one of a structure of this kind
abbrev pub IsAskOf : Kind → AnyAsk → Type 0
IsAskOf kind.Cache (ask.Cache asked) = Unit {0}
IsAskOf kind.Cache (ask.List asked) = ⊥
IsAskOf kind.Cache (ask.Lock asked) = ⊥
IsAskOf (kind.List headers locks refs) (ask.Cache asked) = ⊥
IsAskOf (kind.List headers locks refs) (ask.List asked) = Unit {0}
IsAskOf (kind.List headers locks refs) (ask.Lock asked) = ⊥
IsAskOf kind.Lock (ask.Cache asked) = ⊥
IsAskOf kind.Lock (ask.List asked) = ⊥
IsAskOf kind.Lock (ask.Lock asked) = Unit {0}

-- a caller may ask this
abbrev pub MayAskAny : ConnId → AnyAsk → Type 0
MayAskAny by (ask.Cache asked) = MayAsk by asked
MayAskAny by (ask.List asked) = MayAsk by asked
MayAskAny by (ask.Lock asked) = MayAsk by asked

-- ---- numbers

-- the numbers of the calls
abbrev pub any_numbers : AnyHistory → List ℕ
any_numbers (history.Cache entries) = numbers entries
any_numbers (history.List entries) = numbers entries
any_numbers (history.Lock entries) = numbers entries

-- the number of a call of the history, or 0
abbrev pub IsAnyPoint : AnyHistory → ℕ → Type 0
IsAnyPoint (history.Cache entries) n = IsPoint entries n
IsAnyPoint (history.List entries) n = IsPoint entries n
IsAnyPoint (history.Lock entries) n = IsPoint entries n

-- the number of the last call, 0 if there is none
abbrev pub last_number : ℕ → AnyCall → ℕ
last_number so_far call = call.no

abbrev pub end_of : List AnyCall → ℕ
end_of calls = fold last_number 0 calls

-- ---- bits

-- the bit of a connector's vector
abbrev pub any_stands : StrForm → AnyHistory → ConnId → ℕ → Bool
any_stands form (history.Cache entries) conn index = stands_after altered_caches form entries conn index
any_stands form (history.List entries) conn index = stands_after queued_lists form entries conn index
any_stands form (history.Lock entries) conn index = stands_after lock_meaning form entries conn index

-- numbers from one on, so many
abbrev pub numbers_from : ℕ → ℕ → List ℕ
numbers_from first ℕ.zero = []
numbers_from first (ℕ.suc n) = first ∷ numbers_from (first + 1) n

-- the 32 bits of a word of a connector's vector, the least index lowest; past the vector's end they are 0
abbrev pub any_word : StrForm → AnyHistory → ConnId → ℕ → ℕ
any_word form entries conn word =
    sum_by (λ k. if nat_lt (32 * word + k) form.vector && any_stands form entries conn (32 * word + k) then 2 ^ k
    else 0)
    (numbers_from 0 32)

-- the history is legal
abbrev pub IsAnyLegal : StrForm → AnyHistory → Type 0
IsAnyLegal form (history.Cache entries) = IsLegal altered_caches form entries
IsAnyLegal form (history.List entries) = IsLegal queued_lists form entries
IsAnyLegal form (history.Lock entries) = IsLegal lock_meaning form entries

-- a test that shows a bit with a number tells what stood at a numbered point, not before what the connector had seen
-- complete
abbrev pub AnyTells : StrForm → AnyHistory → ℕ → ℕ → ConnId → ℕ → Bool → Type 0
AnyTells form (history.Cache entries) at sure conn index bit = Tells altered_caches form entries at sure conn index bit
AnyTells form (history.List entries) at sure conn index bit = Tells queued_lists form entries at sure conn index bit
AnyTells form (history.Lock entries) at sure conn index bit = Tells lock_meaning form entries at sure conn index bit
