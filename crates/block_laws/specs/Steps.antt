-- A block held against the machine, step by step.
use Rattle.std.specs.Prelude.{◌≡◌, ℕ, ◌+◌, List, [], ◌∷◌, length}
use Rattle.cf_types.specs.declared.forms.StrForm.{StrForm}
use Rattle.cf_types.specs.declared.numbers.CfId.{CfId}
use Rattle.engine_api.specs.declared.asks.Ask.{Ask}
use Rattle.engine_api.specs.declared.asks.What.TheVariants as what
use Rattle.engine_api.specs.declared.histories.Entry.{Entry}
use Rattle.engine_api.specs.LinkAsks.{operator, links_asked}
use Rattle.engine_api.specs.Meaning.{Meaning}
use Rattle.engine_api.specs.Machine.{Machine, step, loss_step}
use Rattle.engine_api.specs.History.{replay}
use Rattle.engine_api.specs.Points.{AreMarksOf}

-- entries that are marks of these facilities
abbrev pub AreMarksAt : {C R : Type 0} → List (Entry C R) → List CfId → Type 0
AreMarksAt [] [] = Unit {0}
AreMarksAt [] (cf ∷ cfs) = ⊥
AreMarksAt (entry ∷ entries) [] = ⊥
AreMarksAt (entry ∷ entries) (cf ∷ cfs) = (entry.what ≡ what.Lost cf) × AreMarksAt entries cfs

module _ {C R I S : Type 0} (meaning : Meaning C R I S) (form : StrForm) where
  -- a call that is the machine's next
  pub record CallFits (machine : Machine S) (count : ℕ) (entry : Entry C R) (ask : Ask C) : Type 0 where
    pub number : entry.no ≡ count + 1
    pub replied : entry.reply ≡ (step meaning form machine entry.by ask).reply

  -- a mark that is the machine's next
  pub record MarkFits (machine : Machine S) (count : ℕ) (entry : Entry C R) (cf : CfId) : Type 0 where
    pub number : entry.no ≡ count + 1
    pub by : entry.by ≡ operator
    pub replied : entry.reply ≡ (loss_step meaning form machine cf).reply

  -- marks, one behind another, and the call behind them
  abbrev pub StepsFit : Machine S → ℕ → List (Entry C R) → List CfId → Entry C R → Ask C → Type 0
  StepsFit machine count [] cfs entry ask = CallFits machine count entry ask
  StepsFit machine count (mark ∷ marks) [] entry ask = ⊥
  StepsFit machine count (mark ∷ marks) (cf ∷ cfs) entry ask =
      MarkFits machine count mark cf
      × StepsFit (loss_step meaning form machine cf).machine (count + 1) marks cfs entry ask

  pub record BlockFits (before marks : List (Entry C R)) (cfs : List CfId) (entry : Entry C R) (ask : Ask C) : Type 0
    where
      pub marked : AreMarksOf (links_asked meaning form (replay meaning form before) entry.by ask) cfs
      pub steps : StepsFit (replay meaning form before) (length before) marks cfs entry ask

  -- Marks, and the call behind them, are the machine's next entries behind so many: the call may have these marks, each
  -- is the machine's next loss, and the call is its next behind them.
  pub record AreNext (machine : Machine S) (count : ℕ) (marks : List (Entry C R)) (entry : Entry C R) (ask : Ask C)
      : Type 0 where
    pub cfs : List CfId
    pub lost : AreMarksAt marks cfs
    pub marked : AreMarksOf (links_asked meaning form machine entry.by ask) cfs
    pub steps : StepsFit machine count marks cfs entry ask
