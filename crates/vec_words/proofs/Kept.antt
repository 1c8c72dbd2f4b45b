-- Tests stay told, and what the rule says of a view stays so, at each step.
use Rattle.vec_words.proofs.Imports.{◌≡◌, ◌≢◌, ◌⊎◌, ◌/◌, ◌<◌, ◌≤◌, ℕ, zero, suc, List, [], ◌∷◌, ◌++◌, length, set, refl, sym, ap, subst, inl, inr, ⊎_elim, arith, max, some, some-injective, some-ne-none, get_elem?, at_set, bits_at, IsOpen, bits_of, stamp_of, Carries-at, Leaves, Moves, leaves-commit, store-cases, settled-max, settled-below, Logged, Stored, Committed, Sight, View, steps_of, count_of, flying_of, left_in, IsOrderly, Tells, bit_in, words_of, word_number, sight, Settled, IsKept, Roll, Fits, AllFit}
use Rattle.vec_words.proofs.Logs.{steps-push, count-push}
use Rattle.vec_words.proofs.Sound.{CanStore, stamps_before, settled-store_now, settled-commit_now}

module _ {D : Type 0} where
  tells_left : (log later : List (Logged D)) (word : ℕ) (test : Sight)
      → Leaves (steps_of log) (steps_of later) word test.at → Tells log word test → Tells later word test
  tells_left log later word test leaves h = grind (arith, ⊎_elim)

  tells_moved : (log later : List (Logged D)) (word : ℕ) (test : Sight) → test.sure < test.at
      → Moves (steps_of log) (steps_of later) word test.at → Tells log word test → Tells later word test
  tells_moved log later word test above moves h = grind (arith, ⊎_elim)

  pub kept-store : (log : List (Logged D)) (to bits stamp len conn : ℕ) (test : Sight) → IsOrderly log (flying_of log)
      → CanStore log to bits stamp → IsKept log len conn test → IsKept (log ++ Stored to bits stamp ∷ []) len conn
      test
  kept-store log to bits stamp len conn test orderly can k =
      let later : List (Logged D) = log ++ Stored to bits stamp ∷ [] in
      let word : ℕ = word_number len conn (test.index / 32) in
      let seen : test.sure ≤ count_of log = k.seen in
      let higher : count_of log < stamp = can.fresh.0 in
      record {
        connector = k.connector;
        within = k.within;
        not_before = k.not_before;
        seen = subst (λ c. test.sure ≤ c) (sym (count-push log (Stored to bits stamp))) seen;
        settled = settled-store_now log to bits stamp test.at can.fresh k.settled;
        tells = elim (subst (λ l. Leaves (steps_of log) l word test.at ⊎ ((to ≡ word) × (stamp ≡ test.at)
            × Moves (steps_of log) l word test.at)) (sym (steps-push log (Stored to bits stamp))) (store-cases
            (steps_of log) to bits stamp word test.at (omega arith) (settled-below (steps_of log) (count_of log)
            (flying_of log) stamp test.at can.fresh k.settled) (stamps_before log to bits stamp orderly can))) [
              | inl leaves ↦ tells_left log later word test leaves k.tells
              | inr moves ↦ let at : stamp ≡ test.at =
                  moves.1 in tells_moved log later word test (omega arith) moves.2 k.tells
            ];
      }

  pub kept-commit : (log : List (Logged D)) (m by : ℕ) (about : D) (len conn : ℕ) (test : Sight)
      → IsOpen (count_of log) (flying_of log) m → IsKept log len conn test
      → IsKept (log ++ Committed m by about ∷ []) len conn test
  kept-commit log m by about len conn test fresh k =
      let later : List (Logged D) = log ++ Committed m by about ∷ [] in
      let word : ℕ = word_number len conn (test.index / 32) in
      let seen : test.sure ≤ count_of log = k.seen in
      let higher : count_of log < m = fresh.0 in
      let count : count_of later ≡ m = count-push log (Committed m by about) in
      record {
        connector = k.connector;
        within = k.within;
        not_before = k.not_before;
        seen = omega (arith, count, seen, higher);
        settled = settled-commit_now log m by about test.at fresh k.settled;
        tells = grind (arith, tells_left, Leaves, steps-push, leaves-commit);
      }

  -- a test that is made now
  pub kept-now : (log : List (Logged D)) (len conn word known sure index : ℕ)
      → IsOrderly log (flying_of log) → Settled log known → sure ≤ known
      → sure ≤ count_of log → 0 < conn → index / 32 < words_of len → word_number len conn (index / 32) ≡ word
      → IsKept log len conn (sight (bits_of (left_in log word)) (max known (stamp_of (left_in log word))) sure index)
  kept-now log len conn word known sure index orderly settled ordered seen positive within is =
      let left : ℕ = left_in log word in
      let at : ℕ = max known (stamp_of left) in
      record {
        connector = positive;
        within = within;
        not_before = omega arith;
        seen = seen;
        settled = settled-max (steps_of log) (count_of log) (flying_of log) known (stamp_of left) settled
            (orderly.stamps word);
        tells = inl (ap (λ k. bit_in k index) (sym (subst (λ w. bits_at (steps_of log) w at ≡ bits_of left) (sym is)
            (Carries-at (steps_of log) word (bits_of left) (stamp_of left) at (omega arith) (orderly.words word)))));
      }

  -- the views of all seats, after one changed or came
  pub all_set : (len : ℕ) (roll : Roll D) (views : List (View D)) (id : ℕ) (w : View D) → ((j : ℕ) (u : View D) → j
      ≢ id → get_elem? views j ≡ some u → Fits len roll j u) → Fits len roll id w → AllFit len roll (set views id w)
  all_set len roll views id w others mine j u e =
      ⊎_elim (λ (x : (j ≡ id) × (w ≡ u)). subst (λ (y : ℕ × View D). Fits len roll y.0 y.1) (λ i. (sym x.0 i, x.1 i))
      mine) (λ (x : (j ≢ id) × (get_elem? views j ≡ some u)). others j u x.0 x.1) (at_set views id j w u e)

  pub all_push : (len : ℕ) (roll : Roll D) (views : List (View D)) (w : View D) → AllFit len roll views
      → Fits len roll (length views) w → AllFit len roll (views ++ w ∷ [])
  all_push len roll views w others mine j u e = ⊎_elim (λ (h : get_elem? views j ≡ some u). others j u h)
      (λ (x : (j ≡ length views) × (w ≡ u)). subst (λ (y : ℕ × View D). Fits len roll y.0 y.1)
      (λ i. (sym x.0 i, x.1 i)) mine) (at_push views w u j e)
    where
      at_push : (l : List (View D)) (a b : View D) (k : ℕ) → get_elem? (l ++ a ∷ []) k ≡ some b
          → (get_elem? l k ≡ some b) ⊎ ((k ≡ length l) × (a ≡ b))
      at_push [] a b zero e = inr (refl, some-injective a b e)
      at_push [] a b (suc k) e = absurd (some-ne-none b (sym e))
      at_push (x ∷ xs) a b zero e = inl e
      at_push (x ∷ xs) a b (suc k) e = ⊎_elim (λ (h : get_elem? xs k ≡ some b). inl h)
          (λ (h : (k ≡ length xs) × (a ≡ b)). inr (ap suc h.0, h.1)) (at_push xs a b k e)
