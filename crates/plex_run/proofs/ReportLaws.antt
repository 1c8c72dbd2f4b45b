-- A report whose lines are put one after another.
use Rattle.plex_run.proofs.Imports.{◌≡◌, ℕ, add-one, zero, suc, ◌+◌, ◌<◌, List, [], ◌∷◌, ◌++◌, length, length-append, take, drop, map, Option, None, Some, append-nil, unwrap_or, refl, sym, ap, ◌∙◌, append_assoc, arith, concat, flat_map, Appends, concat-append, take-append-drop, line_text, GainsPrefix, PassesOn}
use Rattle.std.specs.List.{slice_get}
use Rattle.plex_run.proofs.Written.{GainsPrefix-before}
use Rattle.plex_run.proofs.Passing.{passes-both, passed-all, passed-part, passed-front}

-- the text of so many lines
abbrev text_of : ℕ → List (List ℕ) → List ℕ
text_of k lines = concat (take k lines)

cut_at : (lines : List (List ℕ)) (k : ℕ) → concat lines ≡ text_of k lines ++ concat (drop k lines)
cut_at lines k =
    sym (ap (λ (l : List (List ℕ)). concat l) (take-append-drop k lines)) ∙ concat-append (take k lines) (drop k lines)

all_lines : (lines : List (List ℕ)) (k : ℕ) → slice_get lines k ≡ None → take k lines ≡ lines
all_lines [] zero past = refl
all_lines [] (suc k) past = refl
all_lines (line ∷ lines) zero past = absurd (cc)
all_lines (line ∷ lines) (suc k) past = ap (λ (l : List (List ℕ)). line ∷ l) (all_lines lines k past)

-- past the last line it is the whole text
text_whole : (lines : List (List ℕ)) (k : ℕ) → slice_get lines k ≡ None → text_of k lines ≡ concat lines
text_whole lines k past = ap (λ (l : List (List ℕ)). concat l) (all_lines lines k past)

text_more : (lines : List (List ℕ)) (k : ℕ) (line : List ℕ) → slice_get lines k ≡ Some line
    → text_of (k + 1) lines ≡ text_of k lines ++ line
text_more lines k line h = rw add-one (one_more lines k line h)
  where
    one_more : (lines : List (List ℕ)) (k : ℕ) (line : List ℕ) → slice_get lines k ≡ Some line
        → text_of (suc k) lines ≡ text_of k lines ++ line
    one_more [] k line h = cc
    one_more (l ∷ ls) zero line h = append-nil l ∙ ap (λ o. unwrap_or o []) h
    one_more (l ∷ ls) (suc k) line h =
        ap (λ t. l ++ t) (one_more ls k line h) ∙ sym (append_assoc l (text_of k ls) line)

module _ {old mid : Option (List ℕ)} (new : Option (List ℕ)) {before after : List ℕ} (lines : List (List ℕ)) (k : ℕ)
    (passed : PassesOn old mid before after (text_of k lines)) where
  -- past the last line, and what stood in the piece was written
  pub all_written : slice_get lines k ≡ None → Appends mid new after → Appends old new (before ++ concat lines)
  all_written past gained =
      rw (sym (text_whole lines k past)) (passed-all old mid new before after (text_of k lines) passed gained)

  -- a front of the first lines is one of all
  first_lines : (n : ℕ) → GainsPrefix old new (before ++ text_of n lines) → GainsPrefix old new (before ++ concat lines)
  first_lines n part = rw (cut_at lines n, ← append_assoc)
      (GainsPrefix-before old new (before ++ text_of n lines) (concat (drop n lines)) part)

  -- a front of what stood in the piece was written
  pub text_front : GainsPrefix mid new after → GainsPrefix old new (before ++ concat lines)
  text_front part = first_lines k (passed-part old mid new before after (text_of k lines) passed part)

  -- and so it is with a front of the next line
  pub text_front_more : (line : List ℕ) → slice_get lines k ≡ Some line → GainsPrefix mid new (after ++ line)
      → GainsPrefix old new (before ++ concat lines)
  text_front_more line next part = first_lines (k + 1) (rw (text_more lines k line next)
      (passed-front old mid new before after (text_of k lines) line passed part))

-- one more line
pub text_longer : (old mid new : Option (List ℕ)) (before after : List ℕ) (lines : List (List ℕ)) (k : ℕ)
    → PassesOn old mid before after (text_of k lines) → (line more : List ℕ) → slice_get lines k ≡ Some line
    → PassesOn mid new after more line → PassesOn old new before more (text_of (k + 1) lines)
text_longer old mid new before after lines k passed line more next passes = rw (text_more lines k line next)
    (passes-both old mid new before after more (text_of k lines) line passed passes)

pub all_short : (lines : List (List ℕ)) (k : ℕ) {n m : ℕ} → n ≡ length (text_of k lines) → n < m
    → slice_get lines k ≡ None → length (concat lines) < m
all_short lines k is low past = grind (arith, text_whole)

pub length_longer : (lines : List (List ℕ)) (k : ℕ) (line : List ℕ) → slice_get lines k ≡ Some line
    → length (text_of (k + 1) lines) ≡ length (text_of k lines) + length line
length_longer lines k line next =
    ap (λ (l : List ℕ). length l) (text_more lines k line next) ∙ length-append (text_of k lines) line

-- ---- whole reports

-- the texts of the lines are the text of the report
pub report_text : {texts : List (List ℕ)} (lines : List (List ℕ))
    → texts ≡ map line_text lines → concat texts ≡ flat_map line_text lines
report_text {texts} lines same = ap (λ (l : List (List ℕ)). concat l) same ∙ each lines
  where
    each : (lines : List (List ℕ)) → concat (map line_text lines) ≡ flat_map line_text lines
    each [] = refl
    each (line ∷ lines) = ap (λ l. line_text line ++ l) (each lines)

-- and so it is behind a heading
pub headed_text : {heading head : List ℕ} {texts : List (List ℕ)} (lines : List (List ℕ))
    → heading ≡ head → texts ≡ map line_text lines → heading ++ concat texts ≡ head ++ flat_map line_text lines
headed_text {heading} {head} {texts} lines is same =
    ap (λ l. l ++ concat texts) is ∙ ap (λ l. head ++ l) (report_text lines same)
