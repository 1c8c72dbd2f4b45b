-- A history read block by block: marks, and the call behind them.
use Rattle.std.specs.Prelude.{◌≡◌, ℕ, ◌+◌, ◌<◌, ◌≤◌, ◌⊎◌, Bool, List, [], ◌∷◌, ◌++◌, length}
use Rattle.cf_types.specs.declared.forms.StrForm.{StrForm}
use Rattle.cf_types.specs.declared.numbers.ConnId.{ConnId}
use Rattle.engine_api.specs.declared.asks.Ask.{Ask}
use Rattle.engine_api.specs.declared.asks.What.TheVariants as what
use Rattle.engine_api.specs.declared.histories.Entry.{Entry}
use Rattle.engine_api.specs.Meaning.{Meaning}
use Rattle.engine_api.specs.Answers.{read_all}
use Rattle.engine_api.specs.History.{IsLegal, calls, replay, stands_after}
use Rattle.engine_api.specs.Points.{MayEnd, IsReplied}

-- a call behind its marks
pub record EndsBlock {C R : Type 0} (block : List (Entry C R)) : Type 0 where
  pub marks : List (Entry C R)
  pub entry : Entry C R
  pub ask : Ask C
  pub is : block ≡ marks ++ entry ∷ []
  pub marked : calls marks ≡ []
  pub asks : entry.what ≡ what.Call ask

-- a block is a call behind its marks, or marks at the end of a history
abbrev pub IsBlock : {C R : Type 0} → List (Entry C R) → (behind : List (Entry C R)) → Type 0
IsBlock block behind = EndsBlock block ⊎ ((calls block ≡ []) × (behind ≡ []))

module _ {C R I S : Type 0} (meaning : Meaning C R I S) (form : StrForm) where
  -- the entry may stand behind these: its number counts on, its reply is the machine's, and a call may have the marks
  -- before it
  pub record IsFit (before : List (Entry C R)) (entry : Entry C R) : Type 0 where
    pub number : entry.no ≡ length before + 1
    pub replied : IsReplied meaning form (replay meaning form before) entry.by entry.reply entry.what
    pub ends : MayEnd meaning form (read_all meaning form before) entry.by entry.what

  abbrev pub AreFit : List (Entry C R) → List (Entry C R) → Type 0
  AreFit before [] = Unit {0}
  AreFit before (entry ∷ entries) = IsFit before entry × AreFit (before ++ entry ∷ []) entries

  -- the first block with which a history isn't legal begins at this place, from 1
  pub record IsBadBlock (history : List (Entry C R)) (place : ℕ) : Type 0 where
    pub before : List (Entry C R)
    pub block : List (Entry C R)
    pub behind : List (Entry C R)
    pub whole : history ≡ before ++ (block ++ behind)
    pub cut : IsBlock block behind
    pub legal : IsLegal meaning form before
    pub bad : IsLegal meaning form (before ++ block) → ⊥
    pub here : place ≡ length before + 1

  -- a test at the call of the last block: the bit is what stands behind it, or, where that call wasn't seen complete,
  -- what stood before the block
  pub record TellsNow (before block : List (Entry C R)) (sure : ℕ) (conn : ConnId) (index : ℕ) (bit : Bool) : Type 0
    where
      pub seen : sure ≤ length (before ++ block)
      pub stood : (bit ≡ stands_after meaning form (before ++ block) conn index)
          ⊎ ((sure < length (before ++ block)) × (bit ≡ stands_after meaning form before conn index))
