-- A line is cut into one number, one caller, one text of what was done and one of what was told.
use Rattle.std.proofs.Common.{◌≡◌, ℕ, ◌==◌, true, false, not, List, [], ◌∷◌, ◌++◌, Option, Some, None, decimal, refl, sym, ap, ◌∙◌, arith, append_assoc, IfNone}
use Rattle.std.specs.List.{list_all, before_first, after_first}
use Rattle.std.proofs.lemmas.Bool.{and_parts, false≢true}
use Rattle.std.proofs.lemmas.Bool.Decides.{nat_tests}
use Rattle.plex_spell.specs.Places.{stands_in, number_of}
use Rattle.plex_spell.specs.Words.{is_nonempty}
use Rattle.plex_spell.specs.declared.rigour.Rigour.TheVariants.{Names}
use Rattle.plex_spell.proofs.Choices.{not_some}
use Rattle.plex_spell.proofs.CutLaws.{not_free-middle, Parts, parts-IsCut}
use Rattle.plex_plain.proofs.Tests.{all-weaker}
use Rattle.line_rows.specs.Rows.{is_plain, is_word}
use Rattle.line_rows.proofs.Words.{number-word}
use Rattle.reply_rows.proofs.PartLaws.{small-is}
use Rattle.report_lines.specs.Entries.{is_free, IsCutLine}

-- ---- where a byte stands last

pub last_same : (at : ℕ) (a b c d : List ℕ) → is_free at b ≡ true → is_free at d ≡ true → a ++ at ∷ b ≡ c ++ at ∷ d
    → (a ≡ c) × (b ≡ d)
last_same at [] b [] d h k e = (refl, cc)
last_same at [] b (y ∷ c) d h k e =
    let same : b ≡ c ++ at ∷ d = cc in
    absurd (not_free-middle at c d (sym (ap (is_free at) same) ∙ h))
last_same at (x ∷ a) b [] d h k e =
    let same : d ≡ a ++ at ∷ b = cc in
    absurd (not_free-middle at a b (sym (ap (is_free at) same) ∙ k))
last_same at (x ∷ a) b (y ∷ c) d h k e =
    let more = last_same at a b c d h k cc in
    (cc more.0, more.1)

abbrev ended : List ℕ → List ℕ
ended front = front ++ 32 ∷ 45 ∷ []

whole_arrow : (front told : List ℕ) → front ++ 32 ∷ 45 ∷ 62 ∷ 32 ∷ told ≡ ended front ++ 62 ∷ 32 ∷ told
whole_arrow front told = sym (append_assoc front (32 ∷ 45 ∷ []) (62 ∷ 32 ∷ told))

-- no mark, no arrow
pub no_mark : (line front told : List ℕ) → is_free 62 line ≡ true → line ≡ front ++ 32 ∷ 45 ∷ 62 ∷ 32 ∷ told → ⊥
no_mark line front told free e =
    not_free-middle 62 (ended front) (32 ∷ told) (sym (ap (is_free 62) (e ∙ whole_arrow front told)) ∙ free)

-- the last mark is the arrow's
pub arrow_mark : (line before behind front told : List ℕ)
    → (line ≡ before ++ 62 ∷ behind) × (is_free 62 behind ≡ true)
    → line ≡ front ++ 32 ∷ 45 ∷ 62 ∷ 32 ∷ told → is_free 62 told ≡ true
    → (before ≡ front ++ 32 ∷ 45 ∷ []) × (behind ≡ 32 ∷ told)
arrow_mark line before behind front told h e free =
    last_same 62 before behind (ended front) (32 ∷ told) h.1 free (sym h.0 ∙ e ∙ whole_arrow front told)

-- ---- the parts

plain-solid : (b : ℕ) → is_plain b ≡ true → not (b == 32) ≡ true
plain-solid b h = grind (arith, nat_tests, and_parts)

pub word-free : (word : List ℕ) → is_word word ≡ true → is_free 32 word ≡ true
word-free word h =
    all-weaker is_plain (λ b. not (b == 32)) plain-solid word
    (and_parts (is_nonempty word) (list_all is_plain word) h).1

-- how a line is cut that has these parts
pub record IsSplit (line : List ℕ) (n : ℕ) (who done told : List ℕ) : Type 0 where
  pub front : List ℕ
  pub rest : List ℕ
  pub arrow : line ≡ front ++ 32 ∷ 45 ∷ 62 ∷ 32 ∷ told
  pub first : Parts 32 front (decimal n) rest
  pub second : Parts 32 rest who done
  pub numeral : number_of Names 0 4294967295 (decimal n) ≡ Some n

pub split : (line : List ℕ) (n : ℕ) (who done told : List ℕ) → IsCutLine line n who done told
    → IsSplit line n who done told
split line n who done told cut =
    let rest = who ++ 32 ∷ done in
    let front = decimal n ++ 32 ∷ rest in
    let end : List ℕ = 32 ∷ 45 ∷ 62 ∷ 32 ∷ told in
    let inner : rest ++ end ≡ who ++ 32 ∷ (done ++ end) = append_assoc who (32 ∷ done) end in
    let outer : front ++ end ≡ decimal n ++ 32 ∷ (rest ++ end) = append_assoc (decimal n) (32 ∷ rest) end in
    let all : front ++ end ≡ line =
    outer ∙ ap (λ (l : List ℕ). decimal n ++ 32 ∷ l) inner ∙ sym cut.whole in
    let free = word-free (decimal n) (number-word n (omega (arith, cut.small))) in
    record {
      front = front;
      rest = rest;
      arrow = sym all;
      first = parts-IsCut 32 front (decimal n) rest (record { whole = refl; first = free });
      second = parts-IsCut 32 rest who done (record { whole = refl; first = cut.one_word });
      numeral = small-is.back n (omega (arith, cut.small));
    }

-- a reader that cuts at the arrow, at the first blank and at the next one misses no such line
module _ (line : List ℕ) (n : ℕ) (who done told : List ℕ) (cut : IsCutLine line n who done told) where
  pub has_arrow : ((front told : List ℕ) → line ≡ front ++ 32 ∷ 45 ∷ 62 ∷ 32 ∷ told → is_free 62 told ≡ true → ⊥) → ⊥
  has_arrow none = let s = split line n who done told cut in none s.front told s.arrow cut.no_arrow

  -- the same arrow
  pub same_arrow : (front after : List ℕ)
      → (line ≡ front ++ 32 ∷ 45 ∷ 62 ∷ 32 ∷ after) × (is_free 62 after ≡ true)
      → (front ≡ (split line n who done told cut).front) × (after ≡ told)
  same_arrow front after h =
      let s = split line n who done told cut in
      let e : ended front ++ 62 ∷ 32 ∷ after ≡ ended s.front ++ 62 ∷ 32 ∷ told =
      sym (whole_arrow front after) ∙ sym h.0 ∙ s.arrow ∙ whole_arrow s.front told in
      let same = last_same 62 (ended front) (32 ∷ after) (ended s.front) (32 ∷ told) h.1 cut.no_arrow e in
      let dash : (front ++ 32 ∷ []) ++ 45 ∷ [] ≡ (s.front ++ 32 ∷ []) ++ 45 ∷ [] =
      append_assoc front (32 ∷ []) (45 ∷ []) ∙ same.0 ∙ sym (append_assoc s.front (32 ∷ []) (45 ∷ [])) in
      let one = last_same 45 (front ++ 32 ∷ []) [] (s.front ++ 32 ∷ []) [] refl refl dash in
      let two = last_same 32 front [] s.front [] refl refl one.0 in
      (two.0, cc)

  pub no_first : (front after : List ℕ) → (line ≡ front ++ 32 ∷ 45 ∷ 62 ∷ 32 ∷ after) × (is_free 62 after ≡ true)
      → stands_in 32 front ≡ false → ⊥
  no_first front after h none =
      let s = split line n who done told cut in
      false≢true (sym none ∙ ap (stands_in 32) (same_arrow front after h).0 ∙ s.first.stands)

  pub no_second : (front after digits rest : List ℕ)
      → (line ≡ front ++ 32 ∷ 45 ∷ 62 ∷ 32 ∷ after) × (is_free 62 after ≡ true)
      → (stands_in 32 front ≡ true) × (digits ≡ before_first (λ b. b == 32) front)
      × (rest ≡ after_first (λ b. b == 32) front)
      → stands_in 32 rest ≡ false → ⊥
  no_second front after digits rest h first none =
      let s = split line n who done told cut in
      let is : rest ≡ s.rest = first.2
      ∙ ap (λ (f : List ℕ). after_first (λ b. b == 32) f) (same_arrow front after h).0 ∙ s.first.after_is in
      false≢true (sym none ∙ ap (stands_in 32) is ∙ s.second.stands)

  pub no_number : (front after digits rest : List ℕ)
      → (line ≡ front ++ 32 ∷ 45 ∷ 62 ∷ 32 ∷ after) × (is_free 62 after ≡ true)
      → (stands_in 32 front ≡ true) × (digits ≡ before_first (λ b. b == 32) front)
      × (rest ≡ after_first (λ b. b == 32) front)
      → None ≡ number_of Names 0 4294967295 digits → ⊥
  no_number front after digits rest h first none =
      let s = split line n who done told cut in
      let is : digits ≡ decimal n = first.1
      ∙ ap (λ (f : List ℕ). before_first (λ b. b == 32) f) (same_arrow front after h).0 ∙ s.first.before_is in
      not_some n (none ∙ ap (number_of Names 0 4294967295) is ∙ s.numeral)

pub if_none : {X : Type 0} (o : Option X) (P : Type 0) → P → IfNone o P
if_none {X} None P p = p
if_none {X} (Some x) P p = tt
