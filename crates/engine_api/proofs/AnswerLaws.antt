-- What a legal history tells of the answers of links, turn by turn.
use Rattle.engine_api.proofs.Imports.{◌≡◌, ◌+◌, Bool, List, [], ◌∷◌, ◌++◌, refl, ap, ◌∙◌, arith, append_assoc, append-nil, length-append, fold, Option, fold_push, filter-append, CfId, Entry, links_asked, asked_unless, Asks, AreDistinct, answers_to, StrForm, Refusal, Meaning, Machine, opening, Turn, replay, next_mark, with_mark, with_marks, after_turn, IsLegal, Reading, begun, read_entry, read_all, answers_from, answers, marks_at, trues}
use Rattle.engine_api.proofs.AskLaws.{answers_marked, times, marked_once, distinct_apart}
use Rattle.engine_api.proofs.HistoryLaws.{replay-push, by_turns}

module _ {C R I S : Type 0} (meaning : Meaning C R I S) (form : StrForm) where
  from-append : (reading : Reading (Machine S)) (xs ys : List (Entry C R)) (cf : CfId)
      → answers_from meaning form reading (xs ++ ys) cf ≡ answers_from meaning form reading
      xs cf ++ answers_from meaning form (fold (read_entry meaning form) reading xs) ys cf
  from-append reading [] ys cf = refl
  from-append reading (x ∷ xs) ys cf =
      grind (arith, append_assoc, from-append (read_entry meaning form reading x) xs ys cf)

  -- the answers of a history begin with those of a front of it
  pub answers-append : (xs ys : List (Entry C R)) (cf : CfId) → answers meaning form (xs ++ ys)
      cf ≡ answers meaning form xs cf ++ answers_from meaning form (read_all meaning form xs) ys cf
  answers-append xs ys cf = from-append (begun (opening meaning form)) xs ys cf

  -- ---- marks

  abbrev at : Machine S → List CfId → Machine S → Reading (Machine S)
  at began marks now = record { began = began; marks = marks; now = now }

  read-marks : (marks some : List CfId) (history : List (Entry C R)) (began : Machine S) → read_all
      meaning form history ≡ at began some (replay meaning form history) → read_all meaning form (with_marks meaning
      form history marks) ≡ at began (some ++ marks) (replay meaning form (with_marks meaning form history marks))
  read-marks [] some history began e = grind (arith, append-nil)
  read-marks (cf ∷ marks) some history began e =
      let mark : Entry C R = next_mark meaning form history cf in
      let one : read_all meaning form (with_mark meaning form history cf)
      ≡ at began (some ++ cf ∷ []) (replay meaning form (with_mark meaning form history cf)) =
      grind (arith, fold_push, replay-push) in
      read-marks marks (some ++ cf ∷ []) (with_mark meaning form history cf) began one
      ∙ ap (λ (all : List CfId). at began all (replay meaning form (with_marks meaning form history (cf ∷ marks))))
      (append_assoc some (cf ∷ []) marks)

  answers-marks : (marks : List CfId) (history : List (Entry C R)) (cf : CfId)
      → answers meaning form (with_marks meaning form history marks) cf ≡ answers meaning form history cf
  answers-marks [] history cf = refl
  answers-marks (lost ∷ marks) history cf =
      grind (arith, answers-append, append-nil, answers-marks marks (with_mark meaning form history lost) cf)

  -- ---- turns

  -- a history that ends with a group
  abbrev pub IsAtGroup : List (Entry C R) → Type 0
  IsAtGroup history = read_all meaning form history ≡ begun (replay meaning form history)

  -- behind marks of a group
  pub read-marked : (history : List (Entry C R)) (marks : List CfId) → IsAtGroup history
      → read_all meaning form (with_marks meaning form history marks)
      ≡ at (replay meaning form history) marks (replay meaning form (with_marks meaning form history marks))
  read-marked history marks e = read-marks marks [] history (replay meaning form history) e

  pub group-turn : (history : List (Entry C R)) (turn : Turn C) → IsAtGroup history
      → IsAtGroup (after_turn meaning form history turn)
  group-turn history turn e = grind (arith, fold_push, read-marked, replay-push)

  pub legal_group : (history : List (Entry C R)) → IsLegal meaning form history → IsAtGroup history
  legal_group history legal = by_turns meaning form IsAtGroup refl (λ h turn fine e. group-turn h turn e) history legal

  -- a turn adds the answers of the links that its call asks
  pub answers-turn : (history : List (Entry C R)) (turn : Turn C) (cf : CfId) → IsAtGroup history
      → answers meaning form (after_turn meaning form history turn) cf ≡ answers meaning form
      history cf ++ answers_to turn.down (links_asked meaning form (replay meaning form history) turn.by turn.ask) cf
  answers-turn history turn cf e = grind (arith, answers-append, append-nil, read-marked, answers-marks, answers_marked)

  -- ---- how many marks there are

  marks-append : (xs ys : List (Entry C R)) (cf : CfId) → marks_at (xs ++ ys) cf ≡ marks_at xs cf + marks_at ys cf
  marks-append xs ys cf = grind (arith, filter-append, length-append)

  marks-marks : (marks : List CfId) (history : List (Entry C R)) (cf : CfId)
      → marks_at (with_marks meaning form history marks) cf ≡ marks_at history cf + times cf marks
  marks-marks [] history cf = omega arith
  marks-marks (mark ∷ marks) history cf = grind (
    arith,
    times,
    marks-append,
    filter-append,
    length-append,
    marks-marks marks (with_mark meaning form history mark) cf,
  )

  pub asked_distinct : (cause : Option Refusal) (asks : Asks)
      → (let it = asked_unless cause asks in AreDistinct it.links)
  asked_distinct cause asks = grind (arith, distinct_apart)

  trues-append : (xs ys : List Bool) → trues (xs ++ ys) ≡ trues xs + trues ys
  trues-append xs ys = grind (arith, filter-append, length-append)

  abbrev AreCounted : CfId → List (Entry C R) → Type 0
  AreCounted cf history = IsAtGroup history × (marks_at history cf ≡ trues (answers meaning form history cf))

  counted-turn : (cf : CfId) (history : List (Entry C R)) (turn : Turn C) → AreCounted cf history
      → AreCounted cf (after_turn meaning form history turn)
  counted-turn cf history turn counted = grind (
    arith,
    marks-append,
    times,
    marks-marks,
    marked_once,
    asked_distinct,
    answers-turn,
    trues-append,
    group-turn,
  )

  -- a history has as many marks of a facility as its link answered Down
  pub marks_counted : (history : List (Entry C R)) → IsLegal meaning form history → (cf : CfId)
      → marks_at history cf ≡ trues (answers meaning form history cf)
  marks_counted history legal cf = (by_turns meaning form (AreCounted cf)
      (refl, refl) (λ h turn fine counted. counted-turn cf h turn counted) history legal).1
