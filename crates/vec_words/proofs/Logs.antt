-- What one more store or commit does to the readings of a log.
use Rattle.vec_words.proofs.Imports.{arith, ◌≡◌, ◌≢◌, ◌⊎◌, ◌<◌, ◌≤◌, ℕ, List, [], ◌∷◌, ◌++◌, subst, inl, inr, ⊎_elim, Contains, map-append, fold-append, Contains-push_cases, Store, Commit, bits_at, IsCommitted, HasStore, word_of, bits_at-push_store, bits_at-push_above, bits_at-push_other, bits_at-push_commit, Logged, Stored, Committed, step_of, steps_of, count_of, count_after, flying_of, flying_after, left_in, left_after}

module _ {D : Type 0} where
  pub steps-push : (log : List (Logged D)) (x : Logged D) → steps_of (log ++ x ∷ []) ≡ steps_of log ++ step_of x ∷ []
  steps-push log x = map-append step_of log (x ∷ [])

  pub count-push : (log : List (Logged D)) (x : Logged D) → count_of (log ++ x ∷ []) ≡ count_after (count_of log) x
  count-push log x = fold-append count_after 0 log (x ∷ [])

  pub flying-push : (log : List (Logged D)) (x : Logged D) → flying_of (log ++ x ∷ []) ≡ flying_after (flying_of log)
      x
  flying-push log x = fold-append flying_after 0 log (x ∷ [])

  pub left-push : (log : List (Logged D)) (x : Logged D) (word : ℕ)
      → left_in (log ++ x ∷ []) word ≡ left_after word (left_in log word) x
  left-push log x word = fold-append (left_after word) 0 log (x ∷ [])

  pub left-here : (log : List (Logged D)) (word bits stamp : ℕ)
      → left_in (log ++ Stored word bits stamp ∷ []) word ≡ word_of bits stamp
  left-here log word bits stamp = grind (arith, left-push)

  pub left-other : (log : List (Logged D)) (to bits stamp word : ℕ) → to ≢ word
      → left_in (log ++ Stored to bits stamp ∷ []) word ≡ left_in log word
  left-other log to bits stamp word apart = grind (arith, left-push)

  -- a store leaves the bits of each other word, and those at each number below its stamp
  pub bits-other : (log : List (Logged D)) (to bits stamp word number : ℕ) → to ≢ word
      → bits_at (steps_of (log ++ Stored to bits stamp ∷ [])) word number ≡ bits_at (steps_of log) word number
  bits-other log to bits stamp word number apart = grind (arith, steps-push, bits_at-push_other)

  pub bits-above : (log : List (Logged D)) (to bits stamp word number : ℕ) → number < stamp
      → bits_at (steps_of (log ++ Stored to bits stamp ∷ [])) word number ≡ bits_at (steps_of log) word number
  bits-above log to bits stamp word number higher = grind (arith, steps-push, bits_at-push_above)

  -- from its stamp on, a store gives its bits
  pub bits-here : (log : List (Logged D)) (word bits stamp number : ℕ) → stamp ≤ number
      → bits_at (steps_of (log ++ Stored word bits stamp ∷ [])) word number ≡ bits
  bits-here log word bits stamp number at_most = grind (arith, steps-push, bits_at-push_store)

  -- a commit leaves all bits
  pub bits-commit : (log : List (Logged D)) (n by : ℕ) (about : D) (word number : ℕ)
      → bits_at (steps_of (log ++ Committed n by about ∷ [])) word number ≡ bits_at (steps_of log) word number
  bits-commit log n by about word number = grind (arith, steps-push, bits_at-push_commit)

  -- a number that is committed was so, or is the new commit's
  pub committed-store : (log : List (Logged D)) (to bits stamp n : ℕ)
      → IsCommitted (steps_of (log ++ Stored to bits stamp ∷ [])) n → IsCommitted (steps_of log) n
  committed-store log to bits stamp n h = ⊎_elim (λ (c : IsCommitted (steps_of log) n). c)
      (λ (e : Store to bits stamp ≡ Commit n). absurd (cc)) (Contains-push_cases (steps_of log)
      (Store to bits stamp) (Commit n) (subst (λ l. IsCommitted l n) (steps-push log (Stored to bits stamp)) h))

  pub committed-commit : (log : List (Logged D)) (m by : ℕ) (about : D) (n : ℕ)
      → IsCommitted (steps_of (log ++ Committed m by about ∷ [])) n → IsCommitted (steps_of log) n ⊎ (m ≡ n)
  committed-commit log m by about n h = ⊎_elim (λ (c : IsCommitted (steps_of log) n). inl c)
      (λ (e : Commit m ≡ Commit n). inr (cc)) (Contains-push_cases (steps_of log) (Commit m)
      (Commit n) (subst (λ l. IsCommitted l n) (steps-push log (Committed m by about)) h))

  -- a store that is there was there, or is the new one
  pub has_store-store : (log : List (Logged D)) (to bits at word stamp : ℕ) → HasStore (steps_of
      (log ++ Stored to bits at ∷ [])) word stamp → HasStore (steps_of log) word stamp ⊎ ((to ≡ word) × (at ≡ stamp))
  has_store-store log to bits at word stamp h = ⊎_elim (λ (c : Contains (steps_of log) (Store word h.0 stamp)).
      inl (h.0, c)) (λ (e : Store to bits at ≡ Store word h.0 stamp). inr (cc, cc))
      (Contains-push_cases (steps_of log) (Store to bits at) (Store word h.0 stamp)
      (subst (λ l. Contains l (Store word h.0 stamp)) (steps-push log (Stored to bits at)) h.1))

  pub has_store-commit : (log : List (Logged D)) (m by : ℕ) (about : D) (word stamp : ℕ)
      → HasStore (steps_of (log ++ Committed m by about ∷ [])) word stamp → HasStore (steps_of log) word stamp
  has_store-commit log m by about word stamp h = ⊎_elim (λ (c : Contains (steps_of log) (Store word h.0 stamp)).
      (h.0, c)) (λ (e : Commit m ≡ Store word h.0 stamp). absurd (cc))
      (Contains-push_cases (steps_of log) (Commit m) (Store word h.0 stamp)
      (subst (λ l. Contains l (Store word h.0 stamp)) (steps-push log (Committed m by about)) h.1))
