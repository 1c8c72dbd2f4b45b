-- A line and its words.
use Rattle.plex_spell.proofs.Imports.{◌≡◌, ℕ, ◌+◌, Bool, true, false, not, List, [], ◌∷◌, length, drop, position, unwrap_or, refl, ap, ◌∙◌, arith, suc, slice_split, filter, take_while, prefix_len, position_or_len, take_while-cons, prefix_len-le-length, common_steps, is_blank, is_nonempty, words_of, begins_word}

abbrev pub is_mark : ℕ → Bool
is_mark b = not (is_blank b)

-- where the first word ends
pub record IsFront (text : List ℕ) : Type 0 where
  pub parts : List (List ℕ)
  pub split : slice_split is_blank text ≡ take_while is_mark text ∷ parts
  pub rest : filter is_nonempty parts ≡ words_of (drop (prefix_len is_mark text) text)

drop_next : (n b : ℕ) (text : List ℕ) → drop (1 + n) (b ∷ text) ≡ drop n text
drop_next n b text = let e : 1 + n ≡ suc n = omega arith in rw e refl

IsFront-cons : (b : ℕ) (text : List ℕ) (blank : Bool) → is_blank b ≡ blank → IsFront text → IsFront (b ∷ text)
IsFront-cons b text true e h = record {
  parts = slice_split is_blank text;
  split = rw (take_while-cons is_mark b text, e) refl;
  rest = rw e (rw e refl);
}
IsFront-cons b text false e h = record {
  parts = h.parts;
  split = rw (take_while-cons is_mark b text, e, h.split) refl;
  rest = grind (arith, drop_next);
}

pub front_of : (text : List ℕ) → IsFront text
front_of [] = record { parts = []; split = refl; rest = refl }
front_of (b ∷ text) = IsFront-cons b text (is_blank b) refl (front_of text)

nonempty_front : (b : ℕ) (text : List ℕ) → is_mark b ≡ true → is_nonempty (take_while is_mark (b ∷ text)) ≡ true
nonempty_front b text h = rw (take_while-cons is_mark b text, h) refl

-- a text that begins with a word has it first
pub words_of-first : (text : List ℕ) → begins_word text ≡ true
    → words_of text ≡ take_while is_mark text ∷ words_of (drop (prefix_len is_mark text) text)
words_of-first [] h = absurd (cc)
words_of-first (b ∷ text) h =
    let front = front_of (b ∷ text) in
    let some = nonempty_front b text h in
    ap (filter is_nonempty) front.split ∙ (grind arith)

-- the place of the first blank, or the length
pub place_or_length : (p : ℕ → Bool) (xs : List ℕ) → unwrap_or (position p xs) (length xs) ≡ position_or_len p xs
place_or_length p xs = grind (arith, common_steps, prefix_len-le-length (λ x. not (p x)) xs)
