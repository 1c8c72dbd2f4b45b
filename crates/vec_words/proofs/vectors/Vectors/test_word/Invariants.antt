use Rattle.vec_words.proofs.Imports.{◌/◌, indices_of}
use Rattle.vec_words.proofs.vectors.Vectors.test_word.Given as goal

abbrev pub ghosts-look : goal.ghosts-look
ghosts-look g a = record { asked = indices_of (a.index / 32) }
