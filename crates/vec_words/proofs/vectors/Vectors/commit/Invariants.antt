use Rattle.vec_words.proofs.Imports.{[], ◌∷◌}
use Rattle.vec_words.proofs.vectors.Vectors.commit.Given as goal

abbrev pub ghosts-commit_of : goal.ghosts-commit_of
ghosts-commit_of g a = record { about = g.about ∷ [] }
