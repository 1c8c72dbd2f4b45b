-- The commits of a log, and the calls of one caller among them.
use Rattle.vec_words.proofs.Imports.{arith, ◌≡◌, ◌≢◌, ℕ, List, [], ◌∷◌, ◌++◌, refl, ap, ◌∙◌, append-nil, All, ⊤, map-append, filter-append, All-nil, All-cons, All-head, All-tail, All-contains, Step, Store, Commit, IsCommitted, Logged, Stored, Committed, steps_of, CallRecord, commits_of, calls_in, calls_of}

-- a fact of a commit's number
abbrev OnCommit : (ℕ → Type 0) → Step → Type 0
OnCommit P (Commit number) = P number
OnCommit P _ = ⊤

module _ {D : Type 0} where
  pub commits_of-append : (log more : List (Logged D)) → commits_of (log ++ more) ≡ commits_of log ++ commits_of more
  commits_of-append [] more = refl
  commits_of-append (Stored word bits stamp ∷ log) more = commits_of-append log more
  commits_of-append (Committed number by about ∷ log) more =
      ap (λ rest. record { number = number; caller = by; about = about } ∷ rest) (commits_of-append log more)

  -- a store adds no commit, and a commit adds one
  pub commits-store : (log : List (Logged D)) (to bits stamp : ℕ)
      → commits_of (log ++ Stored to bits stamp ∷ []) ≡ commits_of log
  commits-store log to bits stamp = commits_of-append log (Stored to bits stamp ∷ []) ∙ append-nil (commits_of log)

  pub commits-commit : (log : List (Logged D)) (number by : ℕ) (about : D) → commits_of (log ++ Committed
      number by about ∷ []) ≡ commits_of log ++ record { number = number; caller = by; about = about } ∷ []
  commits-commit log number by about = commits_of-append log (Committed number by about ∷ [])

  pub calls_in-append : (caller : ℕ) (commits more : List (CallRecord D))
      → calls_in caller (commits ++ more) ≡ calls_in caller commits ++ calls_in caller more
  calls_in-append caller commits more = grind (arith, filter-append, map-append)

  pub calls_of-append : (caller : ℕ) (log more : List (Logged D))
      → calls_of caller (log ++ more) ≡ calls_of caller log ++ calls_of caller more
  calls_of-append caller log more =
      ap (calls_in caller) (commits_of-append log more) ∙ calls_in-append caller (commits_of log) (commits_of more)

  -- a store adds no call, a commit adds one to its caller's, and none to another caller's
  pub calls-store : (caller : ℕ) (log : List (Logged D)) (to bits stamp : ℕ)
      → calls_of caller (log ++ Stored to bits stamp ∷ []) ≡ calls_of caller log
  calls-store caller log to bits stamp = ap (calls_in caller) (commits-store log to bits stamp)

  pub calls-here : (caller number : ℕ) (about : D) (log : List (Logged D))
      → calls_of caller (log ++ Committed number caller about ∷ []) ≡ calls_of caller log ++ (number, about) ∷ []
  calls-here caller number about log = grind (arith, calls_of-append)

  pub calls-other : (caller by number : ℕ) (about : D) (log : List (Logged D)) → by ≢ caller
      → calls_of caller (log ++ Committed number by about ∷ []) ≡ calls_of caller log
  calls-other caller by number about log apart = grind (arith, calls_of-append, append-nil)

  all_steps : (P : ℕ → Type 0) (log : List (Logged D)) → All (λ c. P c.number) (commits_of log)
      → All (OnCommit P) (steps_of log)
  all_steps P [] all = All-nil (OnCommit P)
  all_steps P (Stored word bits stamp ∷ log) all =
      All-cons (OnCommit P) (Store word bits stamp) (steps_of log) tt (all_steps P log all)
  all_steps P (Committed number by about ∷ log) all =
      let Q : CallRecord D → Type 0 = λ c. P c.number in
      let first : CallRecord D = record { number = number; caller = by; about = about } in
      All-cons (OnCommit P) (Commit number) (steps_of log) (All-head Q first (commits_of log) all)
      (all_steps P log (All-tail Q first (commits_of log) all))

  -- what holds of each commit's number holds of a number that was committed
  pub committed-all : (P : ℕ → Type 0) (log : List (Logged D)) (number : ℕ)
      → All (λ c. P c.number) (commits_of log) → IsCommitted (steps_of log) number → P number
  committed-all P log number all done = All-contains (OnCommit P) (steps_of log) (Commit number)
      (all_steps P log all) done
