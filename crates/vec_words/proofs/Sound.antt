-- One more store or commit keeps a log orderly.
use Rattle.vec_words.proofs.Imports.{◌≡◌, ◌≢◌, ◌-◌, ◌^◌, ◌<◌, ◌≤◌, ℕ, List, [], ◌∷◌, ◌++◌, sym, ap, ◌∙◌, subst, inl, inr, ⊎_elim, arith, cases_eq, Contains-append_left, Contains-push, Step, Store, Commit, IsCommitted, HasStore, IsOpen, IsSettled, StampsUpTo, bits_of, stamp_of, CarriesWord, Carries-nil, Carries-push_other, Carries-push_commit, CarriesWord-push_store, stamp_of-word_of, StampsUpTo-from_each, settled-store, settled-commit, settled-below, Logged, Stored, Committed, steps_of, count_of, flying_of, left_in, IsOrderly, Settled}
use Rattle.vec_words.proofs.Logs.{steps-push, count-push, flying-push, left-push, left-here, left-other, committed-store, committed-commit, has_store-store, has_store-commit}

module _ {D : Type 0} where
  -- a number that was settled is so after a store or a commit
  pub settled-stored : (log : List (Logged D)) (to bits stamp flying n : ℕ) → IsOpen (count_of log) flying stamp
      → IsSettled (steps_of log) (count_of log) flying n
      → IsSettled (steps_of (log ++ Stored to bits stamp ∷ [])) (count_of (log ++ Stored to bits stamp ∷ [])) stamp n
  settled-stored log to bits stamp flying n fresh h =
      let x : Logged D = Stored to bits stamp in
      subst (λ (y : List Step × ℕ). IsSettled y.0 y.1 stamp n) (λ i. (
        sym (steps-push log x) i,
        sym (count-push log x) i,
      )) (settled-store (steps_of log) (count_of log) flying to bits stamp n fresh h)

  pub settled-committed : (log : List (Logged D)) (m by : ℕ) (about : D) (flying n : ℕ)
      → IsOpen (count_of log) flying m → IsSettled (steps_of log) (count_of log) flying n
      → IsSettled (steps_of (log ++ Committed m by about ∷ [])) (count_of (log ++ Committed m by about ∷ [])) 0 n
  settled-committed log m by about flying n fresh h =
      let x : Logged D = Committed m by about in
      subst (λ (y : List Step × ℕ). IsSettled y.0 y.1 0 n) (λ i. (sym (steps-push log x) i, sym (count-push log x) i))
      (settled-commit (steps_of log) (count_of log) flying m n fresh h)

  pub settled-store_now : (log : List (Logged D)) (to bits stamp n : ℕ) → IsOpen (count_of log) (flying_of log) stamp
      → Settled log n → Settled (log ++ Stored to bits stamp ∷ []) n
  settled-store_now log to bits stamp n fresh h =
      let later : List (Logged D) = log ++ Stored to bits stamp ∷ [] in
      subst (λ f. IsSettled (steps_of later) (count_of later) f n) (sym (flying-push log (Stored to bits stamp)))
      (settled-stored log to bits stamp (flying_of log) n fresh h)

  pub settled-commit_now : (log : List (Logged D)) (m by : ℕ) (about : D) (n : ℕ)
      → IsOpen (count_of log) (flying_of log) m → Settled log n → Settled (log ++ Committed m by about ∷ []) n
  settled-commit_now log m by about n fresh h =
      let later : List (Logged D) = log ++ Committed m by about ∷ [] in
      subst (λ f. IsSettled (steps_of later) (count_of later) f n) (sym (flying-push log (Committed m by about)))
      (settled-committed log m by about (flying_of log) n fresh h)

  -- a commit's number is the count, and settled
  pub settled-count : (log : List (Logged D)) → IsOrderly log (flying_of log) → Settled log (count_of log)
  settled-count log orderly = inl (omega arith, orderly.count)

  pub orderly-nil : IsOrderly {D = D} [] 0
  orderly-nil = grind (arith, Carries-nil)

  -- with nothing in flight, any number may be
  pub orderly-idle : (log : List (Logged D)) (flying : ℕ) → IsOrderly log 0 → IsOrderly log flying
  orderly-idle log flying orderly = record {
    small = orderly.small;
    count = orderly.count;
    commits = orderly.commits;
    stores = λ w s h. ⊎_elim (λ (b : s ≤ count_of log). inl b) (λ (z : s ≡ 0). inl (omega arith))
        (orderly.stores w s h);
    stamps = λ w. settled_idle (stamp_of (left_in log w)) (orderly.stamps w);
    words = orderly.words;
  }
    where
      settled_idle : (n : ℕ) → IsSettled (steps_of log) (count_of log) 0 n
          → IsSettled (steps_of log) (count_of log) flying n
      settled_idle n (inl low) = inl low
      settled_idle n (inr none) = inl (omega arith, inl none)

  pub orderly-store : (log : List (Logged D)) (to bits stamp flying : ℕ) → bits < 2 ^ 32
      → IsOpen (count_of log) flying stamp → IsOrderly log flying → IsOrderly (log ++ Stored to bits stamp ∷ []) stamp
  orderly-store log to bits stamp flying fits fresh orderly =
      let x : Logged D = Stored to bits stamp in
      let later : List (Logged D) = log ++ x ∷ [] in
      let count : count_of later ≡ count_of log = count-push log x in
      let left : ℕ = left_in log to in
      let low : stamp_of left ≤ stamp = settled-below (steps_of log) (count_of log) flying stamp (stamp_of left) fresh
      (orderly.stamps to) in
      record {
        small = omega (arith, count, orderly.small);
        count = ⊎_elim (λ (z : count_of log ≡ 0). inl (count ∙ z))
            (λ (c : IsCommitted (steps_of log) (count_of log)). inr (subst (λ (y : List Step × ℕ). IsCommitted y.0
            y.1) (λ i. (sym (steps-push log x) i, sym count i)) (Contains-append_left
            (steps_of log) (Store to bits stamp ∷ []) (Commit (count_of log)) c))) orderly.count;
        commits = λ n c. let b = orderly.commits n (committed-store log to bits stamp n c) in omega (arith, count, b);
        stores = λ w s h. ⊎_elim (λ (was : HasStore (steps_of log) w s). ⊎_elim (λ (b : s ≤ count_of log). inl
            (omega (arith, count, b))) (λ (e : s ≡ flying). ⊎_elim (λ (z : flying ≡ 0). inl (omega arith))
            (λ (q : flying ≡ stamp). inr (e ∙ q)) fresh.1) (orderly.stores w s was))
            (λ (e : (to ≡ w) × (stamp ≡ s)). inr (sym e.1)) (has_store-store log to bits stamp w s h);
        stamps = λ w. ⊎_elim (λ (e : to ≡ w). inr (ap (λ k. stamp_of (left_in later k)) (sym e)
            ∙ ap stamp_of (left-here log to bits stamp) ∙ stamp_of-word_of bits stamp fits))
            (λ (apart : to ≢ w). subst (λ k. IsSettled (steps_of later) (count_of later) stamp (stamp_of k))
            (sym (left-other log to bits stamp w apart)) (settled-stored log to bits stamp
            flying (stamp_of (left_in log w)) fresh (orderly.stamps w))) (cases_eq to w);
        words = λ w. ⊎_elim (λ (e : to ≡ w). subst (λ k. CarriesWord (steps_of later) k (left_in later k)) e (subst
            (λ (y : List Step × ℕ). CarriesWord y.0 to y.1) (λ i. (
              sym (steps-push log x) i,
              sym (left-here log to bits stamp) i,
            )) (CarriesWord-push_store (steps_of log) to left bits stamp fits low (orderly.words to))))
            (λ (apart : to ≢ w). subst (λ (y : List Step × ℕ). CarriesWord y.0 w y.1) (λ i. (
              sym (steps-push log x) i,
              sym (left-other log to bits stamp w apart) i,
            )) (Carries-push_other (steps_of log) to bits
            stamp w (bits_of (left_in log w)) (stamp_of (left_in log w)) apart (orderly.words w))) (cases_eq to w);
      }

  pub orderly-commit : (log : List (Logged D)) (m by : ℕ) (about : D) (flying : ℕ) → m < 2 ^ 32
      → IsOpen (count_of log) flying m → IsOrderly log flying → IsOrderly (log ++ Committed m by about ∷ []) 0
  orderly-commit log m by about flying fits fresh orderly =
      let x : Logged D = Committed m by about in
      let later : List (Logged D) = log ++ x ∷ [] in
      let count : count_of later ≡ m = count-push log x in
      let higher : count_of log < m = fresh.0 in
      record {
        small = omega (arith, count, fits);
        count = inr (subst (λ (y : List Step × ℕ). IsCommitted y.0 y.1) (λ i. (sym (steps-push log x) i, sym count i))
            (Contains-push (steps_of log) (Commit m)));
        commits = λ n c. ⊎_elim (λ (was : IsCommitted (steps_of log) n). let b = orderly.commits n was in omega
            (arith, count, b, higher)) (λ (e : m ≡ n). omega (arith, count, e)) (committed-commit log m by about n c);
        stores = λ w s h. inl (⊎_elim (λ (b : s ≤ count_of log). omega (arith, count, b, higher))
            (λ (e : s ≡ flying). ⊎_elim (λ (z : flying ≡ 0). omega arith) (λ (q : flying ≡ m). omega
            (arith, count, e, q)) fresh.1) (orderly.stores w s (has_store-commit log m by about w s h)));
        stamps = λ w. subst (λ k. IsSettled (steps_of later) (count_of later) 0 (stamp_of k))
            (sym (left-push log x w))
            (settled-committed log m by about flying (stamp_of (left_in log w)) fresh (orderly.stamps w));
        words = λ w. subst (λ (y : List Step × ℕ). CarriesWord y.0 w y.1)
            (λ i. (sym (steps-push log x) i, sym (left-push log x w) i)) (Carries-push_commit
            (steps_of log) m w (bits_of (left_in log w)) (stamp_of (left_in log w)) (orderly.words w));
      }

  -- what a store asks of the log
  pub record CanStore (log : List (Logged D)) (to bits stamp : ℕ) : Type 0 where
    pub fits : bits < 2 ^ 32
    pub fresh : IsOpen (count_of log) (flying_of log) stamp
    pub once : ¬ HasStore (steps_of log) to stamp

  -- all earlier stores to the word have smaller stamps
  pub stamps_before : (log : List (Logged D)) (to bits stamp : ℕ)
      → IsOrderly log (flying_of log) → CanStore log to bits stamp → StampsUpTo (steps_of log) to (stamp - 1)
  stamps_before log to bits stamp orderly can =
      let higher : count_of log < stamp = can.fresh.0 in
      StampsUpTo-from_each (steps_of log) to (stamp - 1) (λ s has. ⊎_elim (λ (b : s ≤ count_of log). omega arith)
      (λ (e : s ≡ flying_of log). ⊎_elim (λ (z : flying_of log ≡ 0). omega (arith, e ∙ z))
      (λ (q : flying_of log ≡ stamp). absurd (can.once (subst (HasStore (steps_of log) to) (e ∙ q) has))) can.fresh.1)
      (orderly.stores to s has))

  pub sound-store : (log : List (Logged D)) (to bits stamp : ℕ) → IsOrderly log (flying_of log) → CanStore
      log to bits stamp → IsOrderly (log ++ Stored to bits stamp ∷ []) (flying_of (log ++ Stored to bits stamp ∷ []))
  sound-store log to bits stamp orderly can = subst (IsOrderly (log ++ Stored to bits stamp ∷ [])) (sym (flying-push
      log (Stored to bits stamp))) (orderly-store log to bits stamp (flying_of log) can.fits can.fresh orderly)

  pub sound-commit : (log : List (Logged D)) (m by : ℕ) (about : D)
      → m < 2 ^ 32 → IsOpen (count_of log) (flying_of log) m → IsOrderly log (flying_of log)
      → IsOrderly (log ++ Committed m by about ∷ []) (flying_of (log ++ Committed m by about ∷ []))
  sound-commit log m by about fits fresh orderly = subst (IsOrderly (log ++ Committed m by about ∷ [])) (sym
      (flying-push log (Committed m by about))) (orderly-commit log m by about (flying_of log) fits fresh orderly)
