use Rattle.vec_words.proofs.Imports.{[], ◌∷◌}
use Rattle.vec_words.proofs.count.Vectors+tuple2+C+R.commit_call.Given as goal

abbrev pub ghosts-commit_of : goal.ghosts-commit_of
ghosts-commit_of g a = record { about = (a.of.now.0.now, a.of.now.1.now) ∷ [] }
