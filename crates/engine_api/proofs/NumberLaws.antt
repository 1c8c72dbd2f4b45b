-- The numbers of calls, where marks stand between them.
use Rattle.engine_api.proofs.Imports.{◌≡◌, ℕ, ◌+◌, ◌*◌, ◌<◌, ◌≤◌, ◌⊎◌, inl, inr, List, [], ◌∷◌, ◌++◌, length, sym, subst, ◌∙◌, arith, append-nil, length-append, Contains, cases_lt, nat_tests, map-append, fold_push, filter-append, Contains-push_cases, CfId, Entry, links_asked, StrForm, ConnId, Ask, Meaning, Machine, Call, Turn, calls, with_mark, with_marks, marks_by, after_turn, IsLegal, numbers, IsPoint, last_call_below, IsNumbered}
use Rattle.engine_api.proofs.AskLaws.{marks_few, two_asked}
use Rattle.engine_api.proofs.HistoryLaws.{by_turns, calls-turn, call_added}

module _ {C R : Type 0} where
  pub numbered_none : IsNumbered {C = C} {R = R} []
  numbered_none = grind arith

module _ {C R I S : Type 0} (meaning : Meaning C R I S) (form : StrForm) where
  length-marks : (marks : List CfId) (history : List (Entry C R))
      → length (with_marks meaning form history marks) ≡ length history + length marks
  length-marks [] history = omega arith
  length-marks (cf ∷ marks) history =
      grind (arith, length-append, length-marks marks (with_mark meaning form history cf))

  module _ (history : List (Entry C R)) (turn : Turn C) where
    -- the number of the call that a turn adds: marks may stand before it
    abbrev pub number_added : ℕ
    number_added =
        length (with_marks meaning form history (marks_by meaning form turn.down history turn.by turn.ask)) + 1

    pub length-turn : length (after_turn meaning form history turn) ≡ number_added
    length-turn = grind (arith, length-append)

    pub number_past : length history < number_added
    number_past = omega (arith, length-marks (marks_by meaning form turn.down history turn.by turn.ask) history)

    pub last_below-turn : (n : ℕ) → n ≤ number_added
        → last_call_below (after_turn meaning form history turn) n ≡ last_call_below history n
    last_below-turn n low = grind (arith, call_added, nat_tests, calls-turn, append-nil, filter-append)

    pub last_below-past : (n : ℕ) → number_added < n
        → last_call_below (after_turn meaning form history turn) n ≡ number_added
    last_below-past n past = grind (arith, call_added, nat_tests, calls-turn, fold_push, filter-append)

    pub point_cases : (n : ℕ)
        → IsPoint (after_turn meaning form history turn) n → IsPoint history n ⊎ (number_added ≡ n)
    point_cases n (inl none) = inl (inl none)
    point_cases n (inr there) =
        let all : numbers (after_turn meaning form history turn) ≡ numbers history ++ number_added ∷ [] =
        grind (arith, calls-turn, map-append, call_added) in
        elim (Contains-push_cases (numbers history) number_added n
        (subst (λ (ns : List ℕ). Contains ns n) all there)) [ inl old ↦ inl (inr old) | inr new ↦ inr new ]

    numbered_turn : IsNumbered history → IsNumbered (after_turn meaning form history turn)
    numbered_turn was =
        let number = number_added in
        let past : length history < number = number_past in
        let whole : length (after_turn meaning form history turn) ≡ number = length-turn in
        record {
          within = λ n point. subst (λ (m : ℕ). n ≤ m) (sym whole) (
              elim (point_cases n point) [
                | inl old ↦ let few = was.within n old in omega (arith, few, past)
                | inr new ↦ omega (arith, new)
              ]);
          below = λ n. subst (λ (m : ℕ). last_call_below (after_turn meaning form history turn) n ≤ m) (sym whole) (
              elim (cases_lt number n) [
                | inl high ↦ let here = last_below-past n high in omega (arith, here)
                | inr low ↦
                    let same = last_below-turn n low in
                    let few = was.below n in omega (arith, same, few, past)
              ]);
          ended = λ n behind. last_below-past n (subst (λ (m : ℕ). m < n) whole behind) ∙ sym whole;
          points = λ n point. elim (point_cases n point) [
            | inl old ↦ let few = was.within n old in last_below-turn (n + 1) (omega (arith, few, past))
                ∙ was.points n old
            | inr new ↦ last_below-past (n + 1) (omega (arith, new)) ∙ new
          ];
        }

  -- what the cell keeps of the numbers holds of each legal history
  pub numbered_legal : (history : List (Entry C R)) → IsLegal meaning form history → IsNumbered history
  numbered_legal history legal =
      by_turns meaning form IsNumbered numbered_none (λ h turn fine was. numbered_turn h turn was) history legal

  -- ---- in place of "numbers are counts"

  -- numbers rise
  abbrev pub RisesTo : ℕ → List (Call C R) → ℕ → Type 0
  RisesTo low [] high = low ≤ high
  RisesTo low (call ∷ calls) high = (low < call.no) × RisesTo call.no calls high

  rises_push : (low : ℕ) (some : List (Call C R)) (high : ℕ) (call : Call C R) → RisesTo low some high
      → high < call.no → RisesTo low (some ++ call ∷ []) call.no
  rises_push low [] high call rises above = (omega (arith, rises), omega arith)
  rises_push low (first ∷ some) high call rises above = (rises.0, rises_push first.no some high call rises.1 above)

  pub numbers_rise : (history : List (Entry C R))
      → IsLegal meaning form history → RisesTo 0 (calls history) (length history)
  numbers_rise history legal = by_turns meaning form (λ h. RisesTo 0 (calls h) (length h))
      (omega arith) (λ h turn fine rises. rw (calls-turn meaning form h turn, length-turn h turn)
      (rises_push 0 (calls h) (length h) (call_added meaning form h turn) rises (number_past h turn))) history legal

  -- where a call asks two links at most, there are three entries a call at most
  pub length_calls : ((state : Machine S) (by : ConnId) (ask : Ask C)
      → (let asks = links_asked meaning form state by ask in length asks.links ≤ 2))
      → (history : List (Entry C R)) → IsLegal meaning form history → length history ≤ 3 * length (calls history)
  length_calls two history legal = by_turns meaning form (λ h. length h ≤ 3 * length (calls h)) (omega arith) (
      grind (arith, length-marks, length-turn, calls-turn, length-append, call_added, marks_few)) history legal

  pub three_each : (history : List (Entry C R)) → IsLegal meaning form history
      → length history ≤ 3 * length (calls history)
  three_each history legal = length_calls (λ machine by asked. two_asked meaning form machine by asked) history legal
