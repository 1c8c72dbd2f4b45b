-- Where the links of what is no facility answered nothing, each mark names a facility.
use Rattle.run_laws.proofs.Imports.{◌≡◌, ◌+◌, ◌⊎◌, Bool, true, List, [], ◌∷◌, refl, ap, ◌∙◌, arith, if◌then◌else◌, cases_lt, nat_tests, IsFacility, StrForm, CfId, What, Entry, is_mark_as, marks_at, trues, marks_counted, altered_caches, queued_lists, lock_meaning, AnyHistory, IsAnyLegal, NamesFacility, NamesFacilities, MarksFacilities, answers}

facility_or : (cf : CfId) → IsFacility cf ⊎ (¬ IsFacility cf)
facility_or cf = grind (arith, cases_lt)

-- no mark of what is no facility
abbrev NoOther : {C R : Type 0} → List (Entry C R) → Type 0
NoOther entries = (cf : CfId) → ¬ IsFacility cf → marks_at entries cf ≡ 0

module _ {C R : Type 0} where
  more_marks : (entry : Entry C R) (entries : List (Entry C R)) (cf : CfId) (b : Bool)
      → is_mark_as cf entry.what ≡ b → marks_at (entry ∷ entries) cf ≡ (if b then 1 else 0) + marks_at entries cf
  more_marks entry entries cf b is = grind arith

  rest_none : (entry : Entry C R) (entries : List (Entry C R)) → NoOther (entry ∷ entries) → NoOther entries
  rest_none entry entries none cf other = grind (arith, more_marks)

  first_named : (entry : Entry C R) (entries : List (Entry C R)) (told : What C) → entry.what ≡ told
      → NoOther (entry ∷ entries) → NamesFacility told
  first_named entry entries (What.Call ask) is none = tt
  first_named entry entries (What.Lost cf) is none =
      grind (arith, nat_tests, facility_or cf, more_marks entry entries cf true, none cf)

  all_named : (entries : List (Entry C R)) → NoOther entries → NamesFacilities entries
  all_named [] none = tt
  all_named (entry ∷ entries) none =
      (first_named entry entries entry.what refl none, all_named entries (rest_none entry entries none))

-- what the link to a facility answered
abbrev pub answers_of : StrForm → AnyHistory → CfId → List Bool
answers_of form (AnyHistory.Cache entries) cf = answers altered_caches form entries cf
answers_of form (AnyHistory.List entries) cf = answers queued_lists form entries cf
answers_of form (AnyHistory.Lock entries) cf = answers lock_meaning form entries cf

pub marks_facilities : (form : StrForm) (entries : AnyHistory) → IsAnyLegal form entries
    → ((cf : CfId) → ¬ IsFacility cf → answers_of form entries cf ≡ []) → MarksFacilities entries
marks_facilities form (AnyHistory.Cache entries) legal none =
    all_named entries (λ cf other. marks_counted altered_caches form entries legal cf ∙ ap trues (none cf other))
marks_facilities form (AnyHistory.List entries) legal none =
    all_named entries (λ cf other. marks_counted queued_lists form entries legal cf ∙ ap trues (none cf other))
marks_facilities form (AnyHistory.Lock entries) legal none =
    all_named entries (λ cf other. marks_counted lock_meaning form entries legal cf ∙ ap trues (none cf other))
