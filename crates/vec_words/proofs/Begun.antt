-- A store and a commit keep the engine's number to its log.
use Rattle.vec_words.proofs.Imports.{◌≡◌, ◌^◌, ◌<◌, ◌≤◌, ℕ, List, [], ◌∷◌, ◌++◌, refl, sym, subst, inl, inr, ⊎_elim, arith, HasStore, IsOpen, Logged, Stored, Committed, steps_of, count_of, flying_of, IsBegun}
use Rattle.vec_words.proofs.Logs.{count-push, flying-push}
use Rattle.vec_words.proofs.Sound.{orderly-idle, orderly-store, orderly-commit}

module _ {D : Type 0} where
  pub begun-begin : (number : ℕ) (log : List (Logged D)) → count_of log < number → IsBegun 0 log → IsBegun number log
  begun-begin number log above idle = record {
    above = λ _. above;
    carried = inl (⊎_elim (λ (z : flying_of log ≡ 0). z) (λ (z : flying_of log ≡ 0). z) idle.carried);
    orderly = orderly-idle log number idle.orderly;
  }

  -- no store has a number that begins
  pub fresh : (number word : ℕ) (log : List (Logged D)) → count_of log < number → IsBegun 0 log
      → ¬ HasStore (steps_of log) word number
  fresh number word log above idle h = ⊎_elim (λ (b : number ≤ count_of log). omega arith)
      (λ (z : number ≡ 0). omega arith) (idle.orderly.stores word number h)

  -- the number in flight may go on, beside itself and beside the stores since the last commit
  pub open_begun : (number : ℕ) (log : List (Logged D)) → 0 < number → IsBegun number log
      → IsOpen (count_of log) (flying_of log) number
  open_begun number log some begun = (begun.above some, begun.carried)

  pub begun-store : (number to bits : ℕ) (log : List (Logged D)) → bits < 2 ^ 32 → 0 < number → IsBegun number log
      → IsBegun number (log ++ Stored to bits number ∷ [])
  begun-store number to bits log fits some begun = record {
    above = λ _. subst (λ c. c < number) (sym (count-push log (Stored to bits number))) (begun.above some);
    carried = inr (flying-push log (Stored to bits number));
    orderly = orderly-store log to bits number number fits (begun.above some, inr refl) begun.orderly;
  }

  pub begun-commit : (number by : ℕ) (about : D) (log : List (Logged D)) → number < 2 ^ 32
      → 0 < number → IsBegun number log → IsBegun 0 (log ++ Committed number by about ∷ [])
  begun-commit number by about log fits some begun = record {
    above = λ h. absurd (omega arith);
    carried = inl (flying-push log (Committed number by about));
    orderly = orderly-commit log number by about number fits (begun.above some, inr refl) begun.orderly;
  }
