-- The line that begins at a place, as a cut of what is left there.
use Rattle.std.proofs.Common.{◌≡◌, ℕ, suc, ◌+◌, ◌-◌, ◌≤◌, ◌==◌, true, false, List, [], ◌∷◌, ◌++◌, length, drop, take, refl, sym, ap, ◌∙◌, arith, length-append, length-drop, drop-drop}
use Rattle.std.proofs.Math.Seq.{take-length}
use Rattle.std.specs.List.{before_first, after_first}
use Rattle.report_texts.specs.Texts.{feeds}
use Rattle.report_fronts.specs.Cuts.{is_free}
use Rattle.report_read.specs.declared.cursor.Cursor.{Cursor}
use Rattle.report_read.specs.Lines.{IsPlaced, IsCut}
use Rattle.plex_spell.specs.Places.{stands_in}
use Rattle.plex_spell.proofs.CutLaws.{IsCut-stands}

-- what stands behind the front and one more
drop-front : (front : List ℕ) (b : ℕ) (rest : List ℕ) → drop (length front + 1) (front ++ b ∷ rest) ≡ rest
drop-front [] b rest = refl
drop-front (f ∷ front) b rest = next (length front) (f ∷ []) (drop-front front b rest)
  where
    next : (n : ℕ) (fs : List ℕ) → drop (n + 1) (front ++ b ∷ rest) ≡ rest
        → drop (suc n + 1) (f ∷ front ++ b ∷ rest) ≡ rest
    next n fs e = let same : suc n + 1 ≡ suc (n + 1) = omega arith in rw same e

pub all_left : (text : List ℕ) (at : ℕ) → take (length text - at) (drop at text) ≡ drop at text
all_left text at = let e = length-drop at text in ap (λ (k : ℕ). take k (drop at text)) (sym e) ∙ take-length (drop at text)

none_left : (rest : List ℕ) → stands_in 10 rest ≡ false → feeds rest ≡ 0
none_left [] none = refl
none_left (b ∷ rest) none = grind (arith, none_left rest)

behind : (text line more : List ℕ) (at to : ℕ) → drop at text ≡ line ++ 10 ∷ more → to ≡ at + length line + 1
    → drop to text ≡ more
behind text line more at to whole e =
    let same : to ≡ at + (length line + 1) = omega (arith, e) in
    ap (λ (k : ℕ). drop k text) same ∙ (sym (drop-drop (length line + 1) at text)
    ∙ (ap (λ (t : List ℕ). drop (length line + 1) t) whole ∙ drop-front line 10 more))

within : (text line more : List ℕ) (at to : ℕ) → drop at text ≡ line ++ 10 ∷ more → to ≡ at + length line + 1
    → to ≤ length text
within text line more at to whole e =
    let long = ap length whole in
    let all = length-drop at text in
    let sum = length-append line (10 ∷ more) in
    omega (arith, long, all, sum, e)

cut_of : (text line more : List ℕ) (from to : Cursor) → IsPlaced text from → drop from.at text ≡ line ++ 10 ∷ more
    → is_free line ≡ true → to.at ≡ from.at + length line + 1 → to.count ≡ from.count + 1 → IsCut text from line to
cut_of text line more from to placed whole free at count = record {
  free = free;
  is = whole ∙ ap (λ (t : List ℕ). line ++ 10 ∷ t) (sym (behind text line more from.at to.at whole at));
  count = count;
  placed = record {
    within = within text line more from.at to.at whole at;
    few = let few = placed.few in omega (arith, few, at, count);
  };
}

pub cut_found : (text rest line : List ℕ) (from : Cursor) → IsPlaced text from → rest ≡ drop from.at text
    → stands_in 10 rest ≡ true → line ≡ before_first (λ b. b == 10) rest
    → IsCut text from line (record { at = from.at + length line + 1; count = from.count + 1 })
cut_found text rest line from placed rest_is stands line_is =
    let made = IsCut-stands 10 rest stands in
    cut_of text line (after_first (λ b. b == 10) rest) from
    (record { at = from.at + length line + 1; count = from.count + 1 }) placed
    (sym rest_is ∙ (made.whole ∙ ap (λ (t : List ℕ). t ++ 10 ∷ after_first (λ b. b == 10) rest) (sym line_is)))
    (ap is_free line_is ∙ made.first) refl refl

pub cut_none : (text rest : List ℕ) (from : Cursor) → rest ≡ drop from.at text → stands_in 10 rest ≡ false
    → feeds (drop from.at text) ≡ 0
cut_none text rest from e none = ap feeds (sym e) ∙ none_left rest none
