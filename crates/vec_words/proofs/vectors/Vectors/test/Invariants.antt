use Rattle.vec_words.proofs.Imports.{[], ◌∷◌}
use Rattle.vec_words.proofs.vectors.Vectors.test.Given as goal

abbrev pub ghosts-look : goal.ghosts-look
ghosts-look g a = record { asked = a.index ∷ [] }
