use Rattle.vec_words.proofs.Imports.{◌≡◌, take, All, count_of, learned_pass, IsShown}
use Rattle.vec_words.proofs.Walked.{IsWalked}
use Rattle.vec_words.proofs.vectors.Vectors.learn_all.Given as goal

-- the seat is as it was, and the passes before this one have learned and are shown
abbrev pub invariant-loop-at : goal.invariant-loop-at
invariant-loop-at g l = (l.seat ≡ l.initial.seat) × IsWalked (learned_pass (count_of l.initial.seat.log))
    l.passes l.initial.passes l.at × All (IsShown l.initial.seat) (take l.at l.initial.passes)
