-- What is left behind some lines: one after another, above others, in one way, and to the end.
use Rattle.std.proofs.Common.{◌≡◌, List, [], ◌∷◌, ◌++◌, refl, sym, ap, subst, ◌∙◌, append_assoc}
use Rattle.report_fronts.specs.Grammars.{Every, Steps, Goes, AreFilled}

module _ {Slot Line : Type 0} (Opens : Slot → Line → List Slot → Type 0) where
  abbrev Leads : List Slot → List Line → List Slot → Type 0
  Leads slots lines left = Goes Opens slots lines left

  -- one after another
  pub goes_on : (slots mid left : List Slot) (xs ys : List Line) → Leads slots xs mid → Leads mid ys left
      → Leads slots (xs ++ ys) left
  goes_on slots mid left [] ys first then = subst (λ (s : List Slot). Leads s ys left) (sym first) then
  goes_on slots mid left (x ∷ xs) ys first then = (first.0, first.1, goes_on first.0 mid left xs ys first.2 then)

  -- a line more
  pub goes_one : (slots mid left : List Slot) (xs : List Line) (line : Line) → Leads slots xs mid
      → Steps Opens mid line left → Leads slots (xs ++ line ∷ []) left
  goes_one slots mid left xs line first then = goes_on slots mid left xs (line ∷ []) first (left, then, refl)

  pub record Halves (slots left : List Slot) (xs ys : List Line) : Type 0 where
    pub mid : List Slot
    pub first : Leads slots xs mid
    pub then : Leads mid ys left

  pub goes_apart : (slots left : List Slot) (xs ys : List Line) → Leads slots (xs ++ ys) left
      → Halves slots left xs ys
  goes_apart slots left [] ys goes = record { mid = slots; first = refl; then = goes }
  goes_apart slots left (x ∷ xs) ys goes =
      let rest = goes_apart goes.0 left xs ys goes.2 in
      record { mid = rest.mid; first = (goes.0, goes.1, rest.first); then = rest.then }

  -- above others that wait
  pub steps_above : (slots next under : List Slot) (line : Line) → Steps Opens slots line next
      → Steps Opens (slots ++ under) line (next ++ under)
  steps_above [] next under line steps = absurd steps
  steps_above (slot ∷ slots) next under line steps =
      (steps.0, steps.1, ap (λ (s : List Slot). s ++ under) steps.2 ∙ append_assoc steps.0 slots under)

  pub goes_above : (slots left under : List Slot) (lines : List Line) → Leads slots lines left
      → Leads (slots ++ under) lines (left ++ under)
  goes_above slots left under [] goes = ap (λ (s : List Slot). s ++ under) goes
  goes_above slots left under (line ∷ lines) goes =
      (goes.0 ++ under, steps_above slots goes.0 under line goes.1, goes_above goes.0 left under lines goes.2)

  -- the first slots are filled by the first lines
  pub record Parts (slots under : List Slot) (lines : List Line) : Type 0 where
    pub mine : List Line
    pub others : List Line
    pub is : lines ≡ mine ++ others
    pub first : Leads slots mine []
    pub then : Leads under others []

  pub filled_apart : (slots under : List Slot) (lines : List Line) → Leads (slots ++ under) lines []
      → Parts slots under lines
  filled_apart [] under lines goes = record { mine = []; others = lines; is = refl; first = refl; then = goes }
  filled_apart (slot ∷ slots) under [] goes = absurd cc
  filled_apart (slot ∷ slots) under (line ∷ lines) goes =
      let more : List Slot = goes.1.0 in
      let next : goes.0 ≡ (more ++ slots) ++ under = goes.1.2 ∙ sym (append_assoc more slots under) in
      let rest = filled_apart (more ++ slots) under lines (subst (λ (s : List Slot). Leads s lines []) next goes.2) in
      record {
        mine = line ∷ rest.mine;
        others = rest.others;
        is = ap (λ (ls : List Line). line ∷ ls) rest.is;
        first = (more ++ slots, (more, goes.1.1, refl), rest.first);
        then = rest.then;
      }

  -- some slots are filled, and then others
  pub filled_on : (slots under : List Slot) (xs ys : List Line) → Leads slots xs [] → Leads under ys []
      → Leads (slots ++ under) (xs ++ ys) []
  filled_on slots under xs ys first then =
      goes_on (slots ++ under) under [] xs ys (goes_above slots [] under xs first) then

  -- in one way
  module _ (one : (slot : Slot) (line : Line) (a b : List Slot) → Opens slot line a → Opens slot line b → a ≡ b) where
    one_step : (slots a b : List Slot) (line : Line) → Steps Opens slots line a → Steps Opens slots line b → a ≡ b
    one_step [] a b line first other = absurd first
    one_step (slot ∷ slots) a b line first other =
        first.2 ∙ (ap (λ (s : List Slot). s ++ slots) (one slot line first.0 other.0 first.1 other.1) ∙ sym other.2)

    pub one_left : (slots a b : List Slot) (lines : List Line) → Leads slots lines a → Leads slots lines b → a ≡ b
    one_left slots a b [] first other = sym first ∙ other
    one_left slots a b (line ∷ lines) first other =
        let same = one_step slots first.0 other.0 line first.1 other.1 in
        one_left first.0 a b lines first.2 (subst (λ (s : List Slot). Leads s lines b) (sym same) other.2)

  -- slots that may be filled open no others
  module _ (May : Slot → Type 0) (fills : (slot : Slot) → May slot → AreFilled Opens (slot ∷ []))
      (opens : (slot : Slot) (line : Line) (more : List Slot) → May slot → Opens slot line more → Every May more) where
    pub every_on : (xs ys : List Slot) → Every May xs → Every May ys → Every May (xs ++ ys)
    every_on [] ys h k = k
    every_on (x ∷ xs) ys h k = (h.0, every_on xs ys h.1 k)

    pub still_may : (slots left : List Slot) (lines : List Line) → Every May slots → Leads slots lines left
        → Every May left
    still_may slots left [] may goes = subst (Every May) goes may
    still_may [] left (line ∷ lines) may goes = absurd goes.1
    still_may (slot ∷ slots) left (line ∷ lines) may goes =
        let more = opens slot line goes.1.0 may.0 goes.1.1 in
        still_may goes.0 left lines (subst (Every May) (sym goes.1.2) (every_on goes.1.0 slots more may.1)) goes.2

    pub all_filled : (slots : List Slot) → Every May slots → AreFilled Opens slots
    all_filled [] may = ([], refl)
    all_filled (slot ∷ slots) may =
        let first = fills slot may.0 in
        let then = all_filled slots may.1 in
        (first.0 ++ then.0, filled_on (slot ∷ []) slots first.0 then.0 first.1 then.1)
