-- What a history is found to be, and how far a judge has come.
use Rattle.std.specs.Prelude.{◌≡◌, ◌≤◌, ◌==◌, ◌+◌, ℕ, if◌then◌else◌, List, [], length, take}
use Rattle.std.specs.List.{between}
use Rattle.cf_types.specs.declared.forms.StrForm.{StrForm}
use Rattle.cf_types.specs.declared.numbers.ConnId.{ConnId}
use Rattle.engine_api.specs.declared.asks.What.{What}
use Rattle.engine_api.specs.declared.asks.What.TheVariants as what
use Rattle.engine_api.specs.declared.histories.Entry.{Entry}
use Rattle.engine_api.specs.Asking.{MayAsk}
use Rattle.engine_api.specs.History.{IsLegal, calls, replay}
use Rattle.engine_api.specs.Machine.{Machine}
use Rattle.engine_api.specs.Meaning.{Meaning}
use Rattle.block_laws.specs.Blocks.{IsBadBlock}
use Rattle.history_check.specs.declared.judged.Judged.{Judged}
use Rattle.history_check.specs.declared.judged.Judged.TheVariants as judged

-- a call that its caller may ask
abbrev pub MayTell : {C : Type 0} → ConnId → What C → Type 0
MayTell by (what.Call ask) = MayAsk by ask
MayTell by (what.Lost cf) = Unit {0}

abbrev pub IsAskable : {C R : Type 0} → Entry C R → Type 0
IsAskable entry = MayTell entry.by entry.what

module _ {C R I S : Type 0} (meaning : Meaning C R I S) (form : StrForm) where
  -- a legal history, or one whose first bad block begins at this place, from 1
  abbrev pub IsJudged : List (Entry C R) → Judged → Type 0
  IsJudged history judged.Legal = IsLegal meaning form history
  IsJudged history (judged.Bad place) = IsBadBlock meaning form history place

  -- a judge has come so far: what stands before its block is legal, the machine is behind that, and the block has marks
  -- alone
  pub record IsAt (machine : Machine S) (history : List (Entry C R)) (start now : ℕ) : Type 0 where
    pub begun : start ≤ now
    pub within : now ≤ length history
    pub legal : IsLegal meaning form (take start history)
    pub behind : machine ≡ replay meaning form (take start history)
    pub marks : calls (between start now history) ≡ []

-- where the last block began at the end of a history, there is none
abbrev pub end_judged : ℕ → ℕ → Judged
end_judged start count = if start == count then judged.Legal else judged.Bad (start + 1)
