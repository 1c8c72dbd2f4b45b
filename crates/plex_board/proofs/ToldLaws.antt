-- Where links tell which calls are down, a history is that of the run with these.
use Rattle.plex_board.proofs.Imports.{◌≡◌, ℕ, ◌+◌, ◌==◌, ◌⊎◌, inl, inr, Bool, List, [], ◌∷◌, ◌++◌, refl, sym, ap, ◌∙◌, arith, append_assoc, fold, take, drop, Option, if◌then◌else◌, Decides, list_any, same_from_decides, Decides-by_or, Decides-eqb, cases_lt, take-append-drop, fold_push, Decides-contains, IsListed, TellsEnough, IsFacility, Links, CfId, Entry, links_asked, Asks, reached_in, marks_of, answers_to, StrForm, Meaning, Call, Turn, calls, replay, after_turn, IsLegal, answers, answers_from, read_all, link_at, calls_after, Telling, IsAsTold, AreAsked, Tells, is_listed, down_of, after_call, Agree, marks_agree, by_turns, calls-turn, IsAtGroup, group-turn, answers-turn, answers-append, asked_told}

listed_decides : (downs : List ℕ) (count : ℕ) → Decides (is_listed downs count) (IsListed downs count)
listed_decides downs count =
    Decides-contains downs (count + 1) (is_listed downs count) (Decides-by_or (λ n. n == count + 1)
    (λ n. n ≡ count + 1) (list_any (λ n. n == count + 1)) (λ n. Decides-eqb n (count + 1)) refl (λ _ _. refl) downs)

told_front : (told : Telling) (xs ys all : List Bool) → all ≡ xs ++ ys → IsAsTold told all → IsAsTold told xs
told_front told xs ys all parts each front answer more e =
    each front answer (more ++ ys) (grind (arith, append_assoc))

told_last : (told : Telling) (xs all : List Bool) (answer : Bool) → all ≡ xs ++ answer ∷ [] → IsAsTold told all
    → answer ≡ is_listed told.downs (calls_after xs told.calls)
told_last told xs all answer parts each = grind (arith, same_from_decides, listed_decides)

module _ {C R I S : Type 0} (meaning : Meaning C R I S) (form : StrForm) (told : CfId → Telling) where
  abbrev pub AreAsTold : List (Entry C R) → Type 0
  AreAsTold history = (cf : CfId) → IsAsTold (told cf) (answers meaning form history cf)

  abbrev pub run_of : List (Call C R) → List (Entry C R)
  run_of some = fold (after_call meaning form told) [] some

  abbrev IsRun : List (Entry C R) → Type 0
  IsRun history = IsAtGroup meaning form history × (AreAsTold history → history ≡ run_of (calls history))

  run-turn : (history : List (Entry C R)) (turn : Turn C) → IsRun history → IsRun (after_turn meaning form history turn)
  run-turn history turn run = (
    group-turn meaning form history turn run.0,
    λ all.
        let asks : Asks = links_asked meaning form (replay meaning form history) turn.by turn.ask in
        let d : CfId → Bool = down_of meaning form told history in
        let before : AreAsTold history = (λ cf. told_front (told cf) (answers meaning form history cf)
        (answers_to turn.down asks cf) _ (answers-turn meaning form history turn cf run.0) (all cf)) in
        let agree : Agree (reached_in turn.down asks) turn.down d = (λ cf h. told_last (told cf)
        (answers meaning form history cf) _ (turn.down cf) (answers-turn meaning form history turn cf run.0 ∙ ap
        (λ (b : Bool). answers meaning form history cf ++ (if b then turn.down cf ∷ [] else [])) h) (all cf)) in
        let same : marks_of turn.down asks ≡ marks_of d asks = marks_agree asks turn.down d agree in
        let now : history ≡ run_of (calls history) = run.1 before in
        grind (arith, calls-turn, fold_push),
  )

  -- a legal front of a history whose answers are those told is the run of its calls
  pub front_exact : (history : List (Entry C R)) (n : ℕ) → IsLegal meaning form (take n history) → AreAsTold history
      → take n history ≡ run_of (calls (take n history))
  front_exact history n legal all =
      let front : List (Entry C R) = take n history in
      let parts : (cf : CfId) → answers meaning form history cf ≡ answers meaning form front cf
      ++ answers_from meaning form (read_all meaning form front) (drop n history) cf =
      (λ cf. ap (λ (h : List (Entry C R)). answers meaning form h cf) (sym (take-append-drop n history))
      ∙ answers-append meaning form front (drop n history) cf) in
      (by_turns meaning form IsRun (refl, λ all. refl) (λ h turn fine run. run-turn h turn run) front legal).1
      (λ cf. told_front (told cf) (answers meaning form front cf) _ _ (parts cf) (all cf))

  -- ---- over links

  facility_or : (cf : CfId) → IsFacility cf ⊎ (¬ IsFacility cf)
  facility_or cf = grind (arith, cases_lt)

  nothing_told : (told : Telling) → IsAsTold told []
  nothing_told told [] answer more e = absurd cc
  nothing_told told (first ∷ front) answer more e = absurd cc

  pub links_told : {L : Type 0} (calls' : L → Option ℕ) (downs : L → Option (List ℕ)) (faults : L → ℕ)
      (history : List (Entry C R)) (old new : Links L) → ((link : L) → TellsEnough (calls' link) (downs link))
      → ((cf : CfId) → IsFacility cf → Tells calls' downs faults (told cf) (link_at old cf))
      → AreAsked calls' downs faults (answers meaning form history) old new → AreAsTold history
  links_told calls' downs faults history old new enough tells asked cf = elim (facility_or cf) [
    | inl here ↦ asked_told calls' downs faults (told cf) (answers meaning form history cf) (link_at old cf)
        (link_at new cf) (enough (link_at old cf)) (tells cf here) (asked.asked cf here)
    | inr other ↦ rw (asked.others cf other) (nothing_told (told cf))
  ]
