-- A structure that nobody has called: its links were asked nothing.
use Rattle.plex_board.proofs.Imports.{◌≡◌, ℕ, ◌<◌, ◌≤◌, Bool, List, [], map, All, All-nil, refl, sym, ap, subst, ◌∙◌, arith, Option, length, range_with_len, StrForm, CfId, ConnId, Links, AreAsked, AnyHistory, AnyCall, any_calls, any_length, any_take, own_calls, WordTable, StrType, IsAnyLegal, any_answers, PassShown, unused_pass, CellShown}
use Rattle.run_shown.proofs.HistoryLaws.{same_calls, calls_rise, length_calls, take_all}
use Rattle.plex_board.proofs.SightLaws.{each_of}

-- before the first call no link answered
none_answered : (form : StrForm) (h : AnyHistory) (cf : CfId) → any_answers form (any_take 0 h) cf ≡ []
none_answered form (AnyHistory.Cache entries) cf = refl
none_answered form (AnyHistory.List entries) cf = refl
none_answered form (AnyHistory.Lock entries) cf = refl

module _ {L : Type 0} {asks : L → Option ℕ} {downs : L → Option (List ℕ)} {faults : L → ℕ} where
  -- links of which none was asked are as they were
  none_asked : (answers : CfId → List Bool) (old new : Links L) → AreAsked asks downs faults answers old new
      → ((cf : CfId) → answers cf ≡ []) → new ≡ old
  none_asked answers old new asked none =
      let all : AreAsked asks downs faults (λ (cf : CfId). []) old new = grind arith in
      let one : new.one ≡ old.one = all.asked (record { 0 = 1 }) (omega arith, omega arith) in
      let two : new.two ≡ old.two = all.asked (record { 0 = 2 }) (omega arith, omega arith) in
      let three : new.three ≡ old.three = all.asked (record { 0 = 3 }) (omega arith, omega arith) in
      let four : new.four ≡ old.four = all.asked (record { 0 = 4 }) (omega arith, omega arith) in
      grind arith

  -- the links of a structure that nobody has called
  pub unused_links : (cell : CellShown L) (entries : AnyHistory) {handed : Links L}
      → IsAnyLegal cell.form entries → All (λ (call : AnyCall). call.by.0 ≤ cell.callers) (any_calls entries)
      → ((owner : ConnId) → owner.0 ≤ cell.callers → own_calls (any_calls entries) owner ≡ [])
      → AreAsked asks downs faults (any_answers cell.form entries) cell.links handed → handed ≡ cell.links
  unused_links cell entries {handed} legal within none asked =
      let no_calls : any_calls entries ≡ [] = same_calls cell.callers (any_calls entries) []
      (calls_rise cell.form entries legal) tt within (All-nil (λ (call : AnyCall). call.by.0 ≤ cell.callers)) none in
      let few : any_length entries ≡ 0 = omega (arith, length_calls cell.form entries legal, ap length no_calls) in
      let whole : any_take 0 entries ≡ entries = ap (λ (n : ℕ). any_take n entries) (sym few) ∙ take_all entries in
      none_asked (any_answers cell.form entries) cell.links handed asked (λ cf.
      ap (λ (h : AnyHistory). any_answers cell.form h cf) (sym whole) ∙ none_answered cell.form entries cf)

-- what a history says of an owner's calls, where all its callers have passes that have seen nothing
pub unused_none : (str_type : StrType) (words : WordTable) (count : ℕ) (passes : List PassShown) (all : List AnyCall)
    → passes ≡ map (unused_pass str_type words) (range_with_len 0 count) → All (λ (pass : PassShown). pass.calls ≡
    own_calls all pass.owner) passes → (owner : ConnId) → owner.0 < count → own_calls all owner ≡ []
unused_none str_type words count passes all are mine owner below =
    let P : PassShown → Type 0 = λ pass. pass.calls ≡ own_calls all pass.owner in
    sym (each_of P (unused_pass str_type words) 0 count owner.0 owner.0 (subst (All P) are mine) below (omega arith))
