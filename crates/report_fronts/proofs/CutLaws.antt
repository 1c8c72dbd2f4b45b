-- Where texts that are made of lines are one, their lines are.
use Rattle.std.proofs.Common.{◌≡◌, ℕ, List, [], ◌∷◌, ◌++◌, refl, sym, ap, ◌∙◌, append_assoc}
use Rattle.std.specs.List.{flat_map}
use Rattle.plex_spell.specs.Words.{line_text}
use Rattle.plex_spell.proofs.CutLaws.{same_cut}
use Rattle.report_fronts.specs.Cuts.{AreFree}

abbrev pub text_of : List (List ℕ) → List ℕ
text_of lines = flat_map line_text lines

pub text-cons : (line : List ℕ) (lines : List (List ℕ)) → text_of (line ∷ lines) ≡ line ++ 10 ∷ text_of lines
text-cons line lines = append_assoc line (10 ∷ []) (text_of lines)

pub text-behind : (line : List ℕ) (lines : List (List ℕ)) (rest : List ℕ) → text_of (line ∷ lines) ++ rest ≡ line ++ 10
    ∷ (text_of lines ++ rest)
text-behind line lines rest = ap (λ (t : List ℕ). t ++ rest) (text-cons line lines)
    ∙ append_assoc line (10 ∷ text_of lines) rest

-- lines at the front of a text that is made of lines are its first ones
pub record Begins (front lines : List (List ℕ)) (rest : List ℕ) : Type 0 where
  pub behind : List (List ℕ)
  pub is : lines ≡ front ++ behind
  pub text : rest ≡ text_of behind
  pub free : AreFree behind

pub begins : (front lines : List (List ℕ)) (rest : List ℕ) → AreFree front → AreFree lines
    → text_of lines ≡ text_of front ++ rest → Begins front lines rest
begins [] lines rest free free' e = record { behind = lines; is = refl; text = sym e; free = free' }
begins (x ∷ front) [] rest free free' e = absurd (none x (text_of front ++ rest) (e ∙ text-behind x front rest))
  where
    none : (x more : List ℕ) → [] ≡ x ++ 10 ∷ more → ⊥
    none [] more e = cc
    none (b ∷ x) more e = cc
begins (x ∷ front) (y ∷ lines) rest free free' e =
    let cut = same_cut 10 y (text_of lines) x (text_of front ++ rest) free'.0 free.0 (sym (text-cons y lines)
    ∙ (e ∙ text-behind x front rest)) in
    let more = begins front lines rest free.1 free'.1 cut.1 in
    record {
      behind = more.behind;
      is = ap (λ (l : List ℕ). l ∷ lines) cut.0 ∙ ap (λ (ls : List (List ℕ)). x ∷ ls) more.is;
      text = more.text;
      free = more.free;
    }
