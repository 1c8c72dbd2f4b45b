-- A text is split in one way, which is found line by line.
use Rattle.plex_run.proofs.Imports.{◌≡◌, ◌≢◌, ℕ, ◌+◌, ◌-◌, ◌≤◌, ◌<◌, ◌==◌, ◌⊎◌, inl, inr, Bool, true, false, not, List, [], ◌∷◌, ◌++◌, length, take, drop, Some, None, codes, position, list_all, flat_map, line_text, refl, sym, ap, ◌∙◌, subst, append_assoc, append-nil, length-append, length-drop, take_all, length-take-le, take-append_seam, arith, nat_lt, nat_tests, or_parts, list_any, position_or_len, any-some, any-none, any-place, IsCut-stands, same_cut, not_free-middle, IsBefore, AreBefore, IsSplit, HasNoReport}

abbrev is_free : List ℕ → Bool
is_free line = list_all (λ b. not (b == 10)) line

abbrev text_of : List (List ℕ) → List ℕ
text_of lines = flat_map line_text lines

-- what stands behind the script's part
abbrev Ends : List ℕ → List ℕ → List ℕ → Type 0
Ends text part rest =
    (text ≡ part ++ (codes "REPORT\n" ++ rest)) ⊎ ((text ≡ part ++ codes "REPORT") × (rest ≡ []))

text-behind : (line : List ℕ) (lines : List (List ℕ)) (tail : List ℕ)
    → text_of (line ∷ lines) ++ tail ≡ line ++ 10 ∷ (text_of lines ++ tail)
text-behind line lines tail = ap (λ t. t ++ tail) (append_assoc line (10 ∷ []) (text_of lines))
    ∙ append_assoc line (10 ∷ text_of lines) tail

-- the word has no feed
word-free : (line left : List ℕ) → line ++ 10 ∷ left ≡ codes "REPORT" → ⊥
word-free line left e = not_free-middle 10 line left (ap is_free e)

nonempty : (line left : List ℕ) → [] ≡ line ++ 10 ∷ left → ⊥
nonempty [] left e = cc
nonempty (b ∷ line) left e = cc

-- ---- a line before the word

-- without its first line the text is split likewise
pub record Peeled (line left part rest : List ℕ) : Type 0 where
  pub front : List ℕ
  pub is : part ≡ line ++ 10 ∷ front
  pub split : IsSplit left front rest

peel-lines : (line left part rest : List ℕ) (lines : List (List ℕ)) → IsBefore line → AreBefore lines
    → part ≡ text_of lines → Ends (line ++ 10 ∷ left) part rest → Peeled line left part rest
peel-lines line left part rest [] fine before is (inl whole) =
    let e : line ++ 10 ∷ left ≡ codes "REPORT" ++ 10 ∷ rest = whole ∙ ap (λ p. p ++ (codes "REPORT\n" ++ rest)) is in
    absurd (fine.1 (same_cut 10 line left (codes "REPORT") rest fine.0 refl e).0)
peel-lines line left part rest [] fine before is (inr last) =
    absurd (word-free line left (last.0 ∙ ap (λ p. p ++ codes "REPORT") is))
peel-lines line left part rest (first ∷ lines) fine before is (inl whole) =
    let tail : List ℕ = codes "REPORT\n" ++ rest in
    let e : line ++ 10 ∷ left ≡ first ++ 10 ∷ (text_of lines ++ tail) =
    whole ∙ (ap (λ p. p ++ tail) is ∙ text-behind first lines tail) in
    let cut = same_cut 10 line left first (text_of lines ++ tail) fine.0 before.0.0 e in
    record {
      front = text_of lines;
      is = is ∙ (append_assoc first (10 ∷ []) (text_of lines) ∙ ap (λ l. l ++ 10 ∷ text_of lines) (sym cut.0));
      split = record { lines = lines; before = before.1; part_is = refl; whole = inl cut.1 };
    }
peel-lines line left part rest (first ∷ lines) fine before is (inr last) =
    let tail : List ℕ = codes "REPORT" in
    let e : line ++ 10 ∷ left ≡ first ++ 10 ∷ (text_of lines ++ tail) =
    last.0 ∙ (ap (λ p. p ++ tail) is ∙ text-behind first lines tail) in
    let cut = same_cut 10 line left first (text_of lines ++ tail) fine.0 before.0.0 e in
    record {
      front = text_of lines;
      is = is ∙ (append_assoc first (10 ∷ []) (text_of lines) ∙ ap (λ l. l ++ 10 ∷ text_of lines) (sym cut.0));
      split = record { lines = lines; before = before.1; part_is = refl; whole = inr (cut.1, last.1) };
    }

pub peel : (line left part rest : List ℕ) → IsBefore line → IsSplit (line ++ 10 ∷ left) part rest
    → Peeled line left part rest
peel line left part rest fine split =
    peel-lines line left part rest split.lines fine split.before split.part_is split.whole

-- and with a line more
pub put : (line left part rest : List ℕ) → IsBefore line → IsSplit left part rest
    → IsSplit (line ++ 10 ∷ left) (line ++ 10 ∷ part) rest
put line left part rest fine split = record {
  lines = line ∷ split.lines;
  before = (fine, split.before);
  part_is = ap (λ p. line ++ 10 ∷ p) split.part_is ∙ sym (append_assoc line (10 ∷ []) (text_of split.lines));
  whole = behind split.whole;
}
  where
    behind : Ends left part rest → Ends (line ++ 10 ∷ left) (line ++ 10 ∷ part) rest
    behind (inl whole) =
        inl (ap (λ t. line ++ 10 ∷ t) whole ∙ sym (append_assoc line (10 ∷ part) (codes "REPORT\n" ++ rest)))
    behind (inr last) = inr (
      ap (λ t. line ++ 10 ∷ t) last.0 ∙ sym (append_assoc line (10 ∷ part) (codes "REPORT")),
      last.1,
    )

-- ---- the word itself, and the end

pub here : (line rest : List ℕ) → line ≡ codes "REPORT" → IsSplit (line ++ 10 ∷ rest) [] rest
here line rest is = record {
  lines = [];
  before = tt;
  part_is = refl;
  whole = inl (ap (λ l. l ++ 10 ∷ rest) is);
}

pub last : (line : List ℕ) → line ≡ codes "REPORT" → IsSplit line [] []
last line is = record { lines = []; before = tt; part_is = refl; whole = inr (is, refl) }

no-lines : (line part rest : List ℕ) (lines : List (List ℕ)) → is_free line ≡ true → line ≢ codes "REPORT"
    → part ≡ text_of lines → Ends line part rest → ⊥
no-lines line part rest [] free other is (inl whole) =
    let e : line ≡ codes "REPORT" ++ 10 ∷ rest = whole ∙ ap (λ p. p ++ (codes "REPORT\n" ++ rest)) is in
    not_free-middle 10 (codes "REPORT") rest (ap is_free (sym e) ∙ free)
no-lines line part rest [] free other is (inr end) = other (end.0 ∙ ap (λ p. p ++ codes "REPORT") is)
no-lines line part rest (first ∷ lines) free other is (inl whole) =
    let tail : List ℕ = codes "REPORT\n" ++ rest in
    let e : line ≡ first ++ 10 ∷ (text_of lines ++ tail) =
    whole ∙ (ap (λ p. p ++ tail) is ∙ text-behind first lines tail) in
    not_free-middle 10 first (text_of lines ++ tail) (ap is_free (sym e) ∙ free)
no-lines line part rest (first ∷ lines) free other is (inr end) =
    let tail : List ℕ = codes "REPORT" in
    let e : line ≡ first ++ 10 ∷ (text_of lines ++ tail) =
    end.0 ∙ (ap (λ p. p ++ tail) is ∙ text-behind first lines tail) in
    not_free-middle 10 first (text_of lines ++ tail) (ap is_free (sym e) ∙ free)

-- a line without a feed that isn't the word
pub unsplit : (line : List ℕ) → is_free line ≡ true → line ≢ codes "REPORT" → HasNoReport line
unsplit line free other part rest split = no-lines line part rest split.lines free other split.part_is split.whole

-- ---- one split

-- both parts are the same
abbrev Same : List ℕ → List ℕ → List ℕ → List ℕ → Type 0
Same part rest part' rest' = (part ≡ part') × (rest ≡ rest')

first-same : (text rest part' rest' : List ℕ) (lines' : List (List ℕ)) → Ends text [] rest → AreBefore lines'
    → part' ≡ text_of lines' → Ends text part' rest' → Same [] rest part' rest'
first-same text rest part' rest' [] (inl one) before is (inl other) =
    let e : codes "REPORT" ++ 10 ∷ rest ≡ codes "REPORT" ++ 10 ∷ rest' =
    sym one ∙ (other ∙ ap (λ p. p ++ (codes "REPORT\n" ++ rest')) is) in
    (sym is, (same_cut 10 (codes "REPORT") rest (codes "REPORT") rest' refl refl e).1)
first-same text rest part' rest' [] (inl one) before is (inr other) =
    absurd (word-free (codes "REPORT") rest (sym one ∙ (other.0 ∙ ap (λ p. p ++ codes "REPORT") is)))
first-same text rest part' rest' [] (inr one) before is (inl other) =
    absurd (word-free (codes "REPORT") rest'
    (sym (sym one.0 ∙ (other ∙ ap (λ p. p ++ (codes "REPORT\n" ++ rest')) is))))
first-same text rest part' rest' [] (inr one) before is (inr other) = (sym is, one.1 ∙ sym other.1)
first-same text rest part' rest' (line ∷ lines') one before is (inl other) =
    let tail : List ℕ = codes "REPORT\n" ++ rest' in
    let e : text ≡ line ++ 10 ∷ (text_of lines' ++ tail) =
    other ∙ (ap (λ p. p ++ tail) is ∙ text-behind line lines' tail) in
    let peeled = peel-lines line (text_of lines' ++ tail) [] rest [] before.0 tt refl
    (subst (λ t. Ends t [] rest) e one) in
    absurd (nonempty line peeled.front peeled.is)
first-same text rest part' rest' (line ∷ lines') one before is (inr other) =
    let tail : List ℕ = codes "REPORT" in
    let e : text ≡ line ++ 10 ∷ (text_of lines' ++ tail) =
    other.0 ∙ (ap (λ p. p ++ tail) is ∙ text-behind line lines' tail) in
    let peeled = peel-lines line (text_of lines' ++ tail) [] rest [] before.0 tt refl
    (subst (λ t. Ends t [] rest) e one) in
    absurd (nonempty line peeled.front peeled.is)

same-lines : (lines : List (List ℕ)) (text part rest part' rest' : List ℕ) → AreBefore lines → part ≡ text_of lines
    → Ends text part rest → IsSplit text part' rest' → Same part rest part' rest'
same-lines [] text part rest part' rest' before is ends other =
    let same = first-same text rest part' rest' other.lines (subst (λ p. Ends text p rest) is ends) other.before
    other.part_is other.whole in
    (is ∙ same.0, same.1)
same-lines (line ∷ lines) text part rest part' rest' before is (inl whole) other =
    let tail : List ℕ = codes "REPORT\n" ++ rest in
    let e : text ≡ line ++ 10 ∷ (text_of lines ++ tail) =
    whole ∙ (ap (λ p. p ++ tail) is ∙ text-behind line lines tail) in
    let peeled = peel line (text_of lines ++ tail) part' rest' before.0 (subst (λ t. IsSplit t part' rest') e other) in
    let same = same-lines lines (text_of lines ++ tail) (text_of lines) rest peeled.front rest' before.1 refl (inl refl)
    peeled.split in (
      is ∙ (append_assoc line (10 ∷ []) (text_of lines) ∙ (ap (λ p. line ++ 10 ∷ p) same.0 ∙ sym peeled.is)),
      same.1,
    )
same-lines (line ∷ lines) text part rest part' rest' before is (inr end) other =
    let tail : List ℕ = codes "REPORT" in
    let e : text ≡ line ++ 10 ∷ (text_of lines ++ tail) =
    end.0 ∙ (ap (λ p. p ++ tail) is ∙ text-behind line lines tail) in
    let peeled = peel line (text_of lines ++ tail) part' rest' before.0 (subst (λ t. IsSplit t part' rest') e other) in
    let same = same-lines lines (text_of lines ++ tail) (text_of lines) rest peeled.front rest' before.1 refl
    (inr (refl, end.1)) peeled.split in (
      is ∙ (append_assoc line (10 ∷ []) (text_of lines) ∙ (ap (λ p. line ++ 10 ∷ p) same.0 ∙ sym peeled.is)),
      same.1,
    )

pub one_split : (text part rest part' rest' : List ℕ) → IsSplit text part rest → IsSplit text part' rest'
    → (part ≡ part') × (rest ≡ rest')
one_split text part rest part' rest' one other =
    same-lines one.lines text part rest part' rest' one.before one.part_is one.whole other

-- ---- as it is found

pub rest_whole : (i : ℕ) (xs : List ℕ) → take (length xs - (i + 1)) (drop (i + 1) xs) ≡ drop (i + 1) xs
rest_whole i xs = take_all (length xs - (i + 1)) (drop (i + 1) xs) (omega (arith, length-drop (i + 1) xs))

-- so many bytes of a text are lines before the word, and this is left of it: it is split as what is left is
pub record IsAt (text : List ℕ) (at : ℕ) (left : List ℕ) : Type 0 where
  pub whole : text ≡ take at text ++ left
  pub within : at ≤ length text
  pub back : (part rest : List ℕ) → IsSplit left part rest → IsSplit text (take at text ++ part) rest
  pub onward : HasNoReport left → HasNoReport text

pub at-start : (text : List ℕ) → IsAt text 0 text
at-start text = record {
  whole = refl;
  within = omega arith;
  back = λ part rest split. split;
  onward = λ none. none;
}

-- the line up to a feed
pub record Line (text : List ℕ) (place : ℕ) : Type 0 where
  pub within : place < length text
  pub free : is_free (take place text) ≡ true
  pub is : text ≡ take place text ++ 10 ∷ drop (place + 1) text

pub line_at : (text : List ℕ) (place : ℕ) → position (λ b. b == 10) text ≡ Some place → Line text place
line_at text place e =
    let p : ℕ → Bool = λ b. b == 10 in
    let found = any-some p text place e in
    let cut = IsCut-stands 10 text found.0 in
    let low : nat_lt (position_or_len p text) (length text) ≡ true = sym (any-place p text) ∙ found.0 in
    let within : place < length text = grind (arith, nat_tests) in
    let free : is_free (take place text) ≡ true = rw found.1 cut.first in
    record { within = within; free = free; is = rw found.1 cut.whole }

pub no_line : (text : List ℕ) → position (λ b. b == 10) text ≡ None → is_free text ≡ true
no_line text e = by_each text (any-none (λ b. b == 10) text e)
  where
    by_each : (text : List ℕ) → list_any (λ b. b == 10) text ≡ false → is_free text ≡ true
    by_each [] none = refl
    by_each (b ∷ text) none =
        let parts = or_parts (b == 10) (list_any (λ b. b == 10) text) none in rw (parts.0, by_each text parts.1) refl

module _ (text : List ℕ) (at : ℕ) (left : List ℕ) (so_far : IsAt text at left) where
  abbrev front : List ℕ
  front = take at text

  -- the line at a feed is the word
  pub found_here : (place : ℕ) (more : List ℕ) → Line left place → more ≡ drop (place + 1) left
      → take place left ≡ codes "REPORT" → IsSplit text (take at text) more
  found_here place more line is word = subst (IsSplit text (take at text)) (sym is) (
      let rest : List ℕ = drop (place + 1) left in
      let split : IsSplit left [] rest = subst (λ t. IsSplit t [] rest) (sym line.is) (here (take place left) rest word)
      in subst (λ p. IsSplit text p rest) (append-nil (take at text)) (so_far.back [] rest split))

  -- what is left is the word
  pub found_last : (none : List ℕ) → length none ≡ 0 → left ≡ codes "REPORT" → IsSplit text (take at text) none
  found_last [] empty word =
      subst (λ p. IsSplit text p []) (append-nil (take at text)) (so_far.back [] [] (last left word))
  found_last (b ∷ none) empty word = absurd (omega (arith, empty))

  -- it isn't, and there is no feed
  pub found_none : position (λ b. b == 10) left ≡ None → left ≢ codes "REPORT" → HasNoReport text
  found_none feed other = so_far.onward (unsplit left (no_line left feed) other)

  passed : (place : ℕ) → Line left place → take place left ≢ codes "REPORT"
      → IsAt text (at + place + 1) (drop (place + 1) left)
  passed place line other =
      let first : List ℕ = take place left in
      let more : List ℕ = drop (place + 1) left in
      let fine : IsBefore first = (line.free, other) in
      let long : length (take at text) ≡ at = length-take-le at text so_far.within in
      let short : length first ≡ place = length-take-le place left (omega (arith, line.within)) in
      let ahead : List ℕ = take at text ++ (first ++ 10 ∷ []) in
      let size : length ahead ≡ at + place + 1 = omega (
        arith,
        length-append (take at text) (first ++ 10 ∷ []),
        length-append first (10 ∷ []),
        long,
        short,
      ) in
      let joined : (tail : List ℕ) → take at text ++ (first ++ 10 ∷ tail) ≡ ahead ++ tail =
      λ tail. sym (append_assoc (take at text) (first ++ 10 ∷ []) tail
      ∙ ap (λ t. take at text ++ t) (append_assoc first (10 ∷ []) tail)) in
      let whole : text ≡ ahead ++ more =
      so_far.whole ∙ (ap (λ t. take at text ++ t) line.is ∙ joined more) in
      let taken : take (at + place + 1) text ≡ ahead =
      ap (λ n. take n text) (sym size) ∙ (ap (λ t. take (length ahead) t) whole ∙ take-append_seam ahead more) in
      let all : length text ≡ length ahead + length more = ap (λ (t : List ℕ). length t) whole ∙ length-append ahead more
      in
      record {
        whole = whole ∙ ap (λ t. t ++ more) (sym taken);
        within = omega (arith, all, size);
        back = λ part rest split.
            let one : IsSplit left (first ++ 10 ∷ part) rest = subst (λ t. IsSplit t (first ++ 10 ∷ part) rest)
            (sym line.is) (put first more part rest fine split) in
            subst (λ p. IsSplit text p rest) (joined part ∙ ap (λ t. t ++ part) (sym taken))
            (so_far.back (first ++ 10 ∷ part) rest one);
        onward = λ none. so_far.onward (λ part rest split.
            let peeled = peel first more part rest fine (subst (λ t. IsSplit t part rest) line.is split) in
            none peeled.front rest peeled.split);
      }

  -- the line at a feed isn't the word
  pub found_other : (place next : ℕ) (more : List ℕ) → Line left place → next ≡ at + place + 1
      → more ≡ drop (place + 1) left → (take place left ≡ codes "REPORT" → ⊥) → IsAt text next more
  found_other place next more line is rest other =
      subst (λ n. IsAt text n more) (sym is) (subst (IsAt text (at + place + 1)) (sym rest) (passed place line other))
