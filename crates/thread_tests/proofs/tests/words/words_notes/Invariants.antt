use Rattle.thread_tests.proofs.tests.words.words_notes.Given as goal

abbrev pub ghost-commit : goal.ghost-commit
ghost-commit g a = a.seat.now.number
