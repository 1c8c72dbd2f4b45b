-- What a history says by an engine's meaning it says by the model's.
use Rattle.plex_board.proofs.Imports.{List, Bool, Option, ℕ, All, All-weaker, subst, StrForm, CfId, Entry, Meaning, About, PassSeen, IsTold, Links, AreAsked, answers, Means}

module _ {C R I S J T : Type 0} (meaning : Meaning C R I S) (model : Meaning C R J T) (means : Means meaning model)
    (form : StrForm) (history : List (Entry C R)) where
  pub told_means : (passes : List (PassSeen (About C R)))
      → All (λ (pass : PassSeen (About C R)). All (IsTold meaning form history pass.owner) pass.tests) passes
      → All (λ (pass : PassSeen (About C R)). All (IsTold model form history pass.owner) pass.tests) passes
  told_means passes all = All-weaker (λ (pass : PassSeen (About C R)). All (IsTold meaning form history pass.owner)
      pass.tests) (λ (pass : PassSeen (About C R)). All (IsTold model form history pass.owner) pass.tests)
      (λ pass each. All-weaker (IsTold meaning form history pass.owner) (IsTold model form history pass.owner)
      (λ test is. means.told form history pass.owner test is) pass.tests each) passes all

  pub asked_means : {L : Type 0} (asks : L → Option ℕ) (downs : L → Option (List ℕ)) (faults : L → ℕ)
      (old new : Links L) → AreAsked asks downs faults (answers meaning form history) old new
      → AreAsked asks downs faults (answers model form history) old new
  asked_means asks downs faults old new are =
      subst (λ (a : CfId → List Bool). AreAsked asks downs faults a old new) (means.asked form history) are
