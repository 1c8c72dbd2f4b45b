use Rattle.vec_words.proofs.vectors.Vectors.store_word.Given as goal

abbrev pub ghosts-put : goal.ghosts-put
ghosts-put g a = record { word = a.word; bits = a.bits; stamp = a.stamp }
