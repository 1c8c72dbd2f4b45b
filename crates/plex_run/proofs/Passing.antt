-- What a sink gains by texts that were put into a piece.
use Rattle.plex_run.proofs.Imports.{arith, ◌≡◌, List, ℕ, [], ◌++◌, Option, sym, ap, ◌∙◌, subst, append_assoc, Appends, Appends-trans, GainsPrefix, PassesOn}
use Rattle.plex_run.proofs.Written.{GainsPrefix-after}

-- what stood in the piece was written
pub passes-flushed : (old mid new : Option (List ℕ)) (before after text : List ℕ) → Appends old mid before
    → PassesOn mid new [] after text → PassesOn old new before after text
passes-flushed old mid new before after text first then = grind (arith, Appends-trans, append_assoc)

-- one text, and then another
pub passes-both : (old mid new : Option (List ℕ)) (before between after first second : List ℕ) → PassesOn old
    mid before between first → PassesOn mid new between after second → PassesOn old new before after (first ++ second)
passes-both old mid new before between after first second p q = grind (arith, Appends-trans, append_assoc)

module
    _ (old mid new : Option (List ℕ)) (before after text more : List ℕ) (p : PassesOn old mid before after text) where
  same : p.written ++ (after ++ more) ≡ before ++ (text ++ more)
  same = sym (append_assoc p.written after more) ∙ ap (λ l. l ++ more) p.rest ∙ append_assoc before text more

  -- and then a front of what stands in the piece, and more
  pub passed-front : GainsPrefix mid new (after ++ more) → GainsPrefix old new (before ++ (text ++ more))
  passed-front part =
      subst (GainsPrefix old new) same (GainsPrefix-after old mid new p.written (after ++ more) p.gained part)

module _ (old mid new : Option (List ℕ)) (before after text : List ℕ) (p : PassesOn old mid before after text) where
  -- and then what stands in the piece was written
  pub passed-all : Appends mid new after → Appends old new (before ++ text)
  passed-all gained = subst (Appends old new) p.rest (Appends-trans old mid new p.written after p.gained gained)

  -- and then a front of it
  pub passed-part : GainsPrefix mid new after → GainsPrefix old new (before ++ text)
  passed-part part = subst (GainsPrefix old new) p.rest (GainsPrefix-after old mid new p.written after p.gained part)
