-- Legality point by point: numbers, groups with the marks that their calls may have, and replies.
use Rattle.std.specs.Prelude.{◌≡◌, ◌≤◌, ◌⊎◌, ℕ, ◌+◌, true, List, [], ◌∷◌, length, take, slice_get, Some}
use Rattle.cf_types.specs.declared.numbers.CfId.{CfId}
use Rattle.engine_api.specs.declared.asks.What.{What}
use Rattle.engine_api.specs.declared.asks.What.TheVariants as what
use Rattle.engine_api.specs.declared.histories.Entry.{Entry}
use Rattle.engine_api.specs.LinkAsks.{links_asked, operator, Asks}
use Rattle.cf_types.specs.declared.forms.StrForm.{StrForm}
use Rattle.cf_types.specs.declared.numbers.ConnId.{ConnId}
use Rattle.engine_api.specs.declared.asks.Reply.{Reply}
use Rattle.engine_api.specs.Meaning.{Meaning}
use Rattle.engine_api.specs.Machine.{Machine, step, loss_step}
use Rattle.engine_api.specs.History.{replay}
use Rattle.engine_api.specs.Answers.{Reading, read_all}

-- some of these, in their order
abbrev pub AreSome : List CfId → List CfId → Type 0
AreSome marks [] = marks ≡ []
AreSome marks (cf ∷ cfs) = AreSome marks cfs ⊎ ((rest : List CfId) × (marks ≡ cf ∷ rest) × AreSome rest cfs)

-- Marks that a call may have: of some of the links that it may ask; of one only, where the first that is down ends that.
pub record AreMarksOf (asks : Asks) (marks : List CfId) : Type 0 where
  pub some : AreSome marks asks.links
  pub one : asks.stops ≡ true → length marks ≤ 1

module _ {C R I S : Type 0} (meaning : Meaning C R I S) (form : StrForm) where
  -- a call may have the marks that stand before it
  abbrev pub MayEnd : Reading (Machine S) → ConnId → What C → Type 0
  MayEnd reading by (what.Call ask) = AreMarksOf (links_asked meaning form reading.began by ask) reading.marks
  MayEnd reading by (what.Lost cf) = Unit {0}

  -- the reply of what is told, and who tells it
  abbrev pub IsReplied : Machine S → ConnId → Reply R → What C → Type 0
  IsReplied state by reply (what.Call ask) = reply ≡ (step meaning form state by ask).reply
  IsReplied state by reply (what.Lost cf) = (by ≡ operator) × (reply ≡ (loss_step meaning form state cf).reply)

  pub record IsByPoints (history : List (Entry C R)) : Type 0 where
    pub numbered : (i : ℕ) (entry : Entry C R) → slice_get history i ≡ Some entry → entry.no ≡ i + 1
    pub groups : (i : ℕ) (entry : Entry C R) → slice_get history i ≡ Some entry
        → MayEnd (read_all meaning form (take i history)) entry.by entry.what
    pub ended : (let end = read_all meaning form history in end.marks ≡ [])
    pub replies : (i : ℕ) (entry : Entry C R) → slice_get history i ≡ Some entry
        → IsReplied (replay meaning form (take i history)) entry.by entry.reply entry.what
