-- Links that were asked as a history says have its marks and calls.
use Rattle.struct_cell.proofs.Imports.{ℕ, List, Option, sym, subst, StrForm, CfId, IsFacility, Entry, answers, IsLegal, Meaning, marks_at, marks_counted, AreAsked, Links, link_at, asked_calls, asked_faults, asked_told, TellsEnough, IsCountedAs}
use Rattle.struct_machine.specs.CfIo.Count.{RisesBy}

module _ {C R I S L : Type 0} (calls : L → Option ℕ) (downs : L → Option (List ℕ)) (faults : L → ℕ)
    (enough : (link : L) → TellsEnough (calls link) (downs link)) (meaning : Meaning C R I S) (form : StrForm) where
  pub counted_links : (history : List (Entry C R)) → IsLegal meaning form history → (old new : Links L)
      → AreAsked calls downs faults (answers meaning form history) old new → (cf : CfId) → IsFacility cf
      → IsCountedAs calls downs faults (answers meaning form history cf) (marks_at history cf)
      (link_at old cf) (link_at new cf)
  counted_links history legal old new are cf facility =
      let asked = are.asked cf facility in record {
        marked = subst (λ (n : ℕ). RisesBy n (faults (link_at old cf)) (faults (link_at new cf)))
            (sym (marks_counted meaning form history legal cf))
            (asked_faults calls downs faults (answers meaning form history cf) (link_at old cf) (link_at new cf) asked);
        counted = asked_calls calls downs faults (answers meaning form history cf) (link_at old cf) (link_at new cf) asked;
        told = λ told tells. asked_told calls downs faults told (answers meaning form history cf) (link_at old cf)
            (link_at new cf) (enough (link_at old cf)) tells asked;
      }
